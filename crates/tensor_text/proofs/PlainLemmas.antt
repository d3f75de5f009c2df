-- Numbers and fractions are written in plain bytes: ASCII, from 32 on, and neither 34 nor 92, which are the quote and the backslash.
use Rattle.std.proofs.Common.{◌≡◌, ◌≢◌, ℕ, zero, suc, ◌<◌, ◌≤◌, ◌^◌, ◌&&◌, Bool, true, false, cond, List, [], ◌∷◌, ◌++◌, refl, arith, ℤ, pos, negsuc, IsUtf8, ltb-true, nat_abs}
use Rattle.std.specs.Prelude.{◌==◌, decimal, nat_lt, IsAscii}
use Rattle.std.specs.Fmt.{signed_decimal}
use Rattle.std.specs.List.{AllByRecursion}
use Rattle.std.proofs.lemmas.Bool.{and_from, and_parts, lt-ltb}
use Rattle.std.proofs.lemmas.Str.{IsUtf8-from_ascii}
use Rattle.airy_math.specs.Rational.{ℚ}
use Rattle.airy_math.specs.Obtained.{IsInRange}
use Rattle.frac128.specs.Fraction.{fraction_text}
use Rattle.tensor_text.proofs.BackValues.{Digits, decimal_spells}

abbrev pub IsPlain : ℕ → Type 0
IsPlain c = (32 ≤ c) × (c < 128) × (c ≢ 34) × (c ≢ 92)

abbrev pub ArePlain : List ℕ → Type 0
ArePlain cs = AllByRecursion IsPlain cs

plain-append : (xs ys : List ℕ) → ArePlain xs → ArePlain ys → ArePlain (xs ++ ys)
plain-append [] ys p q = q
plain-append (x ∷ xs) ys p q = (p.0, plain-append xs ys p.1 q)

plain-digits : (ds : List ℕ) → Digits ds → ArePlain ds
plain-digits [] p = tt
plain-digits (d ∷ ds) p = ((omega arith, omega arith, (λ e. omega arith), (λ e. omega arith)), plain-digits ds p.1)

pub plain-decimal : (n : ℕ) → n < 2 ^ 127 → ArePlain (decimal n)
plain-decimal n h = plain-digits (decimal n) (decimal_spells n (omega arith)).digits

pub plain-signed : (z : ℤ) → nat_abs z < 2 ^ 127 → ArePlain (signed_decimal z)
plain-signed (pos n) h = plain-decimal n h
plain-signed (negsuc n) h = ((omega arith, omega arith, (λ e. omega arith), (λ e. omega arith)), plain-decimal (suc n) h)

plain-stroke : (t : Bool) (d : ℕ) → d < 2 ^ 127 → ArePlain (cond t [] (47 ∷ decimal d))
plain-stroke true d h = tt
plain-stroke false d h = ((omega arith, omega arith, (λ e. omega arith), (λ e. omega arith)), plain-decimal d h)

pub plain-fraction : (v : ℚ) → IsInRange v → ArePlain (fraction_text v)
plain-fraction v r = plain-append _ _ (plain-signed v.num r.num) (plain-stroke (v.den == 1) v.den r.den)

-- ---- ASCII, by a test

unfoldable pub are_ascii : List ℕ → Bool
are_ascii [] = true
are_ascii (c ∷ cs) = nat_lt c 128 && are_ascii cs

ascii-plain : (cs : List ℕ) → ArePlain cs → are_ascii cs ≡ true
unfolding are_ascii
ascii-plain [] p = refl
ascii-plain (c ∷ cs) p = and_from _ _ (lt-ltb c 128 p.0.1) (ascii-plain cs p.1)

ascii-append : (xs ys : List ℕ) → are_ascii xs ≡ true → are_ascii ys ≡ true → are_ascii (xs ++ ys) ≡ true
unfolding are_ascii
ascii-append [] ys p q = q
ascii-append (x ∷ xs) ys p q = let b = and_parts _ _ p in and_from _ _ b.0 (ascii-append xs ys b.1 q)

at-place : (cs : List ℕ) → are_ascii cs ≡ true → IsAscii cs
unfolding are_ascii
at-place [] p i = omega arith
at-place (c ∷ cs) p zero = let b = and_parts _ _ p in ltb-true c 128 b.0
at-place (c ∷ cs) p (suc i) = let b = and_parts _ _ p in at-place cs b.1 i

-- all bytes are ASCII
pub record AreAscii (cs : List ℕ) : Type 0 where
  pub test : are_ascii cs ≡ true

pub joined : {xs ys : List ℕ} → AreAscii xs → AreAscii ys → AreAscii (xs ++ ys)
joined {xs} {ys} p q = record { test = ascii-append xs ys p.test q.test }

pub word : (cs : List ℕ) → are_ascii cs ≡ true → AreAscii cs
word cs e = record { test = e }

pub of-plain : (cs : List ℕ) → ArePlain cs → AreAscii cs
of-plain cs p = record { test = ascii-plain cs p }

pub utf8-ascii : (cs : List ℕ) → AreAscii cs → IsUtf8 cs
utf8-ascii cs p = IsUtf8-from_ascii cs (at-place cs p.test)
