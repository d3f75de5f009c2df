-- An outcome comes back from its words.
use Rattle.std.proofs.Common.{◌≡◌, ◌≢◌, ◌⊎◌, inl, inr, ℕ, suc, ◌+◌, ◌-◌, ◌*◌, ◌/◌, ◌%◌, ◌<◌, ◌^◌, refl, sym, ap, ap₂, ◌∙◌, arith, ℤ, pos, FitsSigned, nat_abs}
use Rattle.std.specs.Int.{cast_unsigned, cast_signed}
use Rattle.std.proofs.lemmas.Int.{to_z-of_z, fits_signed_from_abs}
use mir.Syntax.{w128}
use Rattle.airy_math.specs.Gcd.{gcd}
use Rattle.airy_math.specs.Rational.{ℚ, ◌/ℚ◌, positive, coprime, parts_lem}
use Rattle.amp_terms.specs.declared.Outcome.TheVariants.{Value, Blocked}
use Rattle.cell_words.proofs.Names.{Outcome, Over, word_of, IsSized}
use Rattle.cell_words.specs.Words.{first_number, second_number, low_word, high_word}

pos_zero : (n : ℕ) → pos n ≡ pos 0 → n ≡ 0
pos_zero n e = ap nat_abs e

halves : (n : ℕ) → n / 2 ^ 64 * 2 ^ 64 + n % 2 ^ 64 ≡ n
halves n = omega arith

-- the number whose words these are
pub number_back : (z n : ℤ) (a b : ℕ) → FitsSigned w128 z → FitsSigned w128 n → cast_unsigned w128 z ≡ b * 2 ^ 64 + a → a ≡ low_word n → b ≡ high_word n → z ≡ n
number_back z n a b fz fn e l h =
    sym (to_z-of_z w128 z fz) ∙ ap (cast_signed w128) (e ∙ ap₂ (λ x y. y * 2 ^ 64 + x) l h ∙ halves (cast_unsigned w128 n)) ∙ to_z-of_z w128 n fn

pub first_fits : (o : Outcome) → IsSized o → FitsSigned w128 (first_number o)
unfolding IsSized first_number
first_fits (Value v) s = fits_signed_from_abs w128 v.num s.num
first_fits Over s = fits_signed_from_abs w128 (pos 0) (omega arith)
first_fits (Blocked r) s = fits_signed_from_abs w128 (pos (suc r)) (omega arith)

pub second_fits : (o : Outcome) → IsSized o → FitsSigned w128 (second_number o)
unfolding IsSized second_number
second_fits (Value v) s = fits_signed_from_abs w128 (pos v.den) s.den
second_fits Over s = fits_signed_from_abs w128 (pos 0) (omega arith)
second_fits (Blocked r) s = fits_signed_from_abs w128 (pos 0) (omega arith)

-- where the second number is 0
pub over_back : (o : Outcome) (a : ℕ) → IsSized o → a ≡ word_of o 0 → second_number o ≡ pos 0 → (a ≡ 0) ⊎ (2 ^ 32 < a) → Over ≡ o
unfolding word_of first_number second_number IsSized
over_back (Value v) a s e z t = absurd (let p = positive v in let k : v.den ≡ 0 = pos_zero v.den z in omega arith)
over_back Over a s e z t = refl
over_back (Blocked r) a s e z (inl t) = absurd (omega arith)
over_back (Blocked r) a s e z (inr t) = absurd (omega arith)

pub blocked_back : (o : Outcome) (a : ℕ) → IsSized o → a ≡ word_of o 0 → second_number o ≡ pos 0 → 0 < a → Blocked (a - 1) ≡ o
unfolding word_of first_number second_number IsSized
blocked_back (Value v) a s e z n = absurd (let p = positive v in let k : v.den ≡ 0 = pos_zero v.den z in omega arith)
blocked_back Over a s e z n = absurd (omega arith)
blocked_back (Blocked r) a s e z n = ap Blocked (omega arith)

-- else it is a Value, whose numbers are in lowest terms
pub value_back : (o : Outcome) (n d : ℤ) (v : ℚ) → n ≡ first_number o → d ≡ second_number o → d ≢ pos 0 → v ≡ n /ℚ nat_abs d → Value v ≡ o
unfolding first_number second_number
value_back (Value q) n d v e f ne h = ap Value (h ∙ ap₂ (λ m k. m /ℚ nat_abs k) e f ∙ parts_lem q)
value_back Over n d v e f ne h = absurd (ne f)
value_back (Blocked r) n d v e f ne h = absurd (ne f)

pub record AreLowest (n d : ℤ) : Type 0 where
  pub lowest : gcd (nat_abs n) (nat_abs d) ≡ 1
  pub positive : 0 < nat_abs d
  pub num_fits : nat_abs n < 2 ^ 127
  pub den_fits : nat_abs d < 2 ^ 127

pub value_lowest : (o : Outcome) (n d : ℤ) → IsSized o → n ≡ first_number o → d ≡ second_number o → d ≢ pos 0 → AreLowest n d
unfolding first_number second_number IsSized
value_lowest (Value q) n d s e f ne = rw (e, f) (record { lowest = coprime q; positive = positive q; num_fits = s.num; den_fits = s.den })
value_lowest Over n d s e f ne = absurd (ne f)
value_lowest (Blocked r) n d s e f ne = absurd (ne f)
