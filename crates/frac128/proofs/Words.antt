-- The words that the proofs of this crate share.
unfoldable pub use Rattle.airy_math.specs.Gcd.{gcd}
unfoldable pub use Rattle.airy_math.specs.Obtained.{fits, obtained_product, obtained_sum}
unfoldable pub use Rattle.airy_math.specs.Rational.{neg_ℚ, ◌*ℚ◌, ◌+ℚ◌, ◌/ℚ◌}
pub use Rattle.airy_math.specs.Rational.{parts_lem, same_fraction, ℚ}
pub use Rattle.frac128.specs.Fraction.{quotient}
pub use Rattle.frac128.specs.Kept.{IsKept}
pub use Rattle.frac128.specs.Signs.{signs_differ, with_sign}
unfoldable pub use Rattle.frac128.specs.Steps.{lowest_sizes, lowest_sum}
pub use Rattle.frac128.specs.Steps.{left_part, over_common, ranged, ranged_sum, right_part, sized, whole_part}
pub use Rattle.std.proofs.Math.IntN.{negsuc-*ℤ-pos}
pub use Rattle.std.proofs.Math.Nat.{div-le_self, div-mul_cancel, dvd-mul_right, eq-one_of_dvd-one, mul_assoc, one-mul}
pub use Rattle.std.proofs.lemmas.Bool.{and_parts}
pub use Rattle.std.proofs.lemmas.Int.{ints, to_z_pos}
pub use Rattle.std.proofs.lemmas.Nat.{mul-lt, pow_below}
pub use Rattle.std.specs.Int.{w128, w64, ◌∣◌}
pub use Rattle.std.specs.Option.{option_and_then}
