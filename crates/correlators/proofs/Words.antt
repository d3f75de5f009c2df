-- The words that the proofs of this crate share.
pub use Rattle.airy_index.proofs.BinomialLemmas.{binomial-next, binomial-small}
pub use Rattle.airy_index.proofs.SortedLemmas.{sorted-insert}
pub use Rattle.airy_index.specs.Fields.{IsKey}
pub use Rattle.airy_math.proofs.ConstraintLemmas.{raise_comm}
pub use Rattle.airy_math.proofs.CutLaw.{length-ordered}
pub use Rattle.airy_math.proofs.EachLemmas.{each-append, each-count_append}
pub use Rattle.airy_math.proofs.ExactLaw.{power-one}
pub use Rattle.airy_math.proofs.KeyLemmas.{map-cong, map-map}
pub use Rattle.airy_math.proofs.MoveLemmas.{exponents-cons}
pub use Rattle.airy_math.proofs.ObtainedLaw.{product_exact}
pub use Rattle.airy_math.proofs.PivotLaw.{same_list-true, when-none, when-zero}
pub use Rattle.airy_math.proofs.PivotLemmas.{when-and, zero_number}
pub use Rattle.airy_math.proofs.SplitLemmas.{binomial-over, binomial-zero}
pub use Rattle.airy_math.proofs.StartLaw.{sum-one, sum-when}
pub use Rattle.airy_math.proofs.SumLemmas.{*ℚ-0ℚ, 0ℚ_idr, 1ℚ_idr, Each-below, sum-cong, sum-cong_each, sum-each, sum-map, sum-zero}
unfoldable pub use Rattle.airy_math.specs.Cuts.{letter_of, power}
unfoldable pub use Rattle.airy_math.specs.Families.{wp_shape}
unfoldable pub use Rattle.airy_math.specs.Gcd.{gcd}
pub use Rattle.airy_math.specs.Gcd.{IsGcd-gcd}
unfoldable pub use Rattle.airy_math.specs.Keys.{IsSortedFrom, euler, exponents, key_of, ordered, ordered_with, same_list, total}
pub use Rattle.airy_math.specs.Keys.{Key}
unfoldable pub use Rattle.airy_math.specs.Obtained.{obtained_product}
unfoldable pub use Rattle.airy_math.specs.Ranks.{no_key}
pub use Rattle.airy_math.specs.Ranks.{ListsPlanned}
unfoldable pub use Rattle.airy_math.specs.Rational.{◌*ℚ◌, ◌/ℚ◌}
pub use Rattle.airy_math.specs.Rational.{ℚ}
unfoldable pub use Rattle.airy_math.specs.RationalLaws.{0ℚ, 1ℚ}
pub use Rattle.airy_math.specs.RationalLaws.{*ℚ_assoc, 0ℚ-*ℚ, 1ℚ_idl, mul_fractions}
unfoldable pub use Rattle.airy_math.specs.Series.{raise}
pub use Rattle.airy_math.specs.Series.{Series}
unfoldable pub use Rattle.airy_math.specs.Shapes.{covers, law_number}
unfoldable pub use Rattle.airy_math.specs.Solutions.{amplitude, factorials}
unfoldable pub use Rattle.airy_math.specs.Sums.{below, binomial, count_from, each, factorial, keep, sum_over, when}
unfoldable pub use Rattle.airy_math.specs.Tensors.{is_zero}
pub use Rattle.airy_math.specs.Tensors.{Tensors}
pub use Rattle.airy_math.specs.declared.Shape.{Shape}
pub use Rattle.amp_plan.proofs.LimitLemmas.{limit-bound}
pub use Rattle.index_lists.proofs.ListingLemmas.{popped}
pub use Rattle.amp_plan.proofs.PlaceLemmas.{at_rank, key_of_rank, rank_within, uncovered}
unfoldable pub use Rattle.amp_plan.specs.Limits.{limit_of}
pub use Rattle.amp_plan.specs.Limits.{PassesBound, Within}
unfoldable pub use Rattle.amp_plan.specs.Places.{are_below, letter_power, place_in}
unfoldable pub use Rattle.amp_plan.specs.Plans.{key_at, keys_of, rank_at, tensors_of}
pub use Rattle.amp_plan.specs.Plans.{Planning}
pub use Rattle.amp_plan.specs.declared.place.Place.{Place}
pub use Rattle.amp_plan.specs.declared.place.Place.TheVariants.{At, BadIndex, Beyond, Zero}
unfoldable pub use Rattle.amp_terms.specs.Tables.{value_at, value_of_cell}
pub use Rattle.amp_terms.specs.declared.Outcome.{Outcome}
pub use Rattle.amp_terms.specs.declared.Outcome.TheVariants.{Blocked, Value}
unfoldable pub use Rattle.correlators.specs.Divisions.{divided, divisors, over_factorials, over_indices, over_odd_factorials}
unfoldable pub use Rattle.correlators.specs.Kept.{AddsTerms, TellsOver, behind, own_number}
pub use Rattle.correlators.specs.Kept.{AreCoefficients, IsAsked}
unfoldable pub use Rattle.correlators.specs.Laws.{NumberOfSolutions, VolumeOfSolutions, coefficient_in}
pub use Rattle.correlators.specs.Laws.{IsShown}
unfoldable pub use Rattle.correlators.specs.Numbers.{number_in}
pub use Rattle.correlators.specs.Numbers.{number_at, number_of, quotient_at}
unfoldable pub use Rattle.correlators.specs.Volumes.{IsVolume, asked_refusal, coefficient_of, counted, first_lacking, first_of, is_of, keys_of_pair, lists_of_sum, lists_up_to, part, parts_of, refusal, table_coefficient, table_refusal, table_term, table_terms, term_of, volume_terms}
pub use Rattle.correlators.specs.Volumes.{Part, greatest_sum, part_of}
pub use Rattle.correlators.specs.declared.polynomial.Poly.{Poly}
pub use Rattle.correlators.specs.declared.polynomial.Term.{Term}
pub use Rattle.correlators.specs.declared.refusals.CorrErr.{CorrErr}
pub use Rattle.correlators.specs.declared.refusals.CorrErr.TheVariants.{Kind, NoMemory, NotValue}
pub use Rattle.intersection_law.proofs.FirstIndex.{same_test}
unfoldable pub use Rattle.intersection_law.specs.Numbers.{intersection_number, length_factorials, odd_factorial, odd_factorials, volume_coefficient}
unfoldable pub use Rattle.series_law.specs.Amplitudes.{HoldsOutcomes}
pub use Rattle.sparse_tensor.proofs.SoundLaw.{is_zero-0ℚ, is_zero-some}
unfoldable pub use Rattle.sparse_tensor.specs.Entries.{looked_up}
pub use Rattle.std.proofs.Math.Nat.{mul-div_cancel_left, pow-le-pow_right}
pub use Rattle.std.proofs.lemmas.Bool.{and_parts, cases_lt, lt-leb}
pub use Rattle.std.proofs.lemmas.Int.{ints}
pub use Rattle.std.proofs.lemmas.List.{at_drop_all, at_drop_more, get_or_append_left, get_or_push, get_or_read, length-map, length_push, map-append}
pub use Rattle.std.proofs.lemmas.Result.{on_ok_weaker}
pub use lib.Signed.{le_z}
pub use native.Mathlib.Nat.{dvd_antisymm, one-dvd}
