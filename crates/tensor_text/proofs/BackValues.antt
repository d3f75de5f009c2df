-- What is written of a number or a fraction is read back.
use Rattle.std.proofs.Common.{◌≡◌, ℕ, zero, suc, ◌+◌, ◌-◌, ◌*◌, ◌/◌, ◌%◌, ◌^◌, ◌<◌, ◌≤◌, Bool, true, false, cond, List, [], ◌∷◌, ◌++◌, length, refl, sym, ap, ap₂, ◌∙◌, arith, Some, None, Option, length-append, ℤ, pos, negsuc, neg_ℤ, append-nil, T, nat_abs}
use Rattle.std.specs.Prelude.{decimal, ◌==◌, nat_le, ◌≤ℤ◌}
use Rattle.std.specs.Fmt.{signed_decimal}
use Rattle.std.specs.List.{AllByRecursion}
use Rattle.std.specs.Option.{option_map}
use Rattle.std.proofs.lemmas.Int.{ints}
use Rattle.std.proofs.lemmas.Fmt.{decimal_by_steps_wide, length-decimal-le}
use Rattle.std.proofs.lemmas.Bool.{le-leb, eqb-true, ne_eqb}
use Rattle.std.proofs.lemmas.Bool.Decides.{nat_tests}
use Rattle.airy_math.specs.Rational.{ℚ, ◌/ℚ◌, neg_ℚ, parts_lem, lowest_parts, lowest, positive}
use Rattle.airy_math.specs.Obtained.{IsInRange}
use Rattle.frac128.specs.Fraction.{fraction_text}
use Rattle.tensor_text.specs.Values.{is_digit, number_on, number_of, below, not_zero, index_of, dim_of, short_of, signed_of, whole_of, is_stroke, before_stroke, from_stroke, denominator_of, quotient_of, size_of, read_value_of}
use Rattle.tensor_text.proofs.ValueLemmas.{below_limit}

-- bytes from 48 to 57
abbrev pub Digits : List ℕ → Type 0
Digits ds = AllByRecursion (λ c. (48 ≤ c) × (c ≤ 57)) ds

-- digits of a number
pub record Spells (n : ℕ) (ds : List ℕ) : Type 0 where
  pub digits : Digits ds
  pub some : 0 < length ds
  pub number : number_of ds ≡ Some n

digit_test : (c : ℕ) → 48 ≤ c → c ≤ 57 → is_digit c ≡ true
digit_test c a b = grind (arith, nat_tests)

on-push : (m k c : ℕ) (ds : List ℕ) → 48 ≤ c → c ≤ 57 → number_on m ds ≡ Some k → number_on m (ds ++ c ∷ []) ≡ Some (k * 10 + (c - 48))
unfolding number_on
on-push m k c [] a b e = let s : m ≡ k = grind arith in rw (digit_test c a b, s) refl
on-push m k c (d ∷ ds) a b e = by (is_digit d) (on-push (m * 10 + (d - 48)) k c ds a b) e
  where
    by : (t : Bool) → (number_on (m * 10 + (d - 48)) ds ≡ Some k → number_on (m * 10 + (d - 48)) (ds ++ c ∷ []) ≡ Some (k * 10 + (c - 48)))
        → cond t (number_on (m * 10 + (d - 48)) ds) None ≡ Some k → cond t (number_on (m * 10 + (d - 48)) (ds ++ c ∷ [])) None ≡ Some (k * 10 + (c - 48))
    by true ih e = ih e
    by false ih e = cc

of-on : (ds : List ℕ) (o : Option ℕ) → 0 < length ds → number_of ds ≡ o → number_on 0 ds ≡ o
unfolding number_of
of-on [] o h e = absurd (omega arith)
of-on (c ∷ cs) o h e = e

on-of : (ds : List ℕ) (o : Option ℕ) → 0 < length ds → number_on 0 ds ≡ o → number_of ds ≡ o
unfolding number_of
on-of [] o h e = absurd (omega arith)
on-of (c ∷ cs) o h e = e

Digits-push : (ds : List ℕ) (c : ℕ) → Digits ds → 48 ≤ c → c ≤ 57 → Digits (ds ++ c ∷ [])
Digits-push [] c p a b = ((a, b), tt)
Digits-push (d ∷ ds) c p a b = (p.0, Digits-push ds c p.1 a b)

one-digit : (n : ℕ) → n < 10 → Spells n ((48 + n) ∷ [])
unfolding number_of number_on
one-digit n h = record {
  digits = ((omega arith, omega arith), tt);
  some = omega arith;
  number = rw (digit_test (48 + n) (omega arith) (omega arith)) (let e : 0 * 10 + (48 + n - 48) ≡ n = omega arith in ap Some e);
}

more-digits : (n : ℕ) (ds : List ℕ) → 10 ≤ n → Spells (n / 10) ds → Spells n (ds ++ (48 + n % 10) ∷ [])
more-digits n ds h p =
    let r : n % 10 < 10 = omega arith in
    let e : n / 10 * 10 + (48 + n % 10 - 48) ≡ n = omega arith in
    record {
      digits = Digits-push ds (48 + n % 10) p.digits (omega arith) (omega arith);
      some = omega (arith, length-append ds ((48 + n % 10) ∷ []));
      number = on-of (ds ++ (48 + n % 10) ∷ []) (Some n) (omega (arith, length-append ds ((48 + n % 10) ∷ [])))
          (on-push 0 (n / 10) (48 + n % 10) ds (omega arith) (omega arith) (of-on ds (Some (n / 10)) p.some p.number) ∙ ap Some e);
    }

pub decimal_spells : (n : ℕ) → n < 10 ^ 64 → Spells n (decimal n)
decimal_spells n h = decimal_by_steps_wide Spells one-digit more-digits n h

-- ---- a number below a limit

wide : (n : ℕ) → n < 2 ^ 127 → n < 10 ^ 64
wide n h = omega arith

pub whole_back : (n : ℕ) → n < 2 ^ 127 → whole_of (decimal n) ≡ Some n
unfolding whole_of
whole_back n h = ap (below (2 ^ 127)) (decimal_spells n (wide n h)).number ∙ below_limit (2 ^ 127) n h

pub index_back : (dim n : ℕ) → n < dim → dim ≤ 72 → index_of dim (decimal n) ≡ Some n
unfolding index_of
index_back dim n h l = ap (below dim) (decimal_spells n (wide n (omega arith))).number ∙ below_limit dim n h

not_zero_back : (n : ℕ) → 0 < n → not_zero (Some n) ≡ Some n
unfolding not_zero
not_zero_back zero h = absurd (omega arith)
not_zero_back (suc n) h = refl

pub dim_back : (n : ℕ) → 0 < n → n ≤ 32 → dim_of (decimal n) ≡ Some n
unfolding dim_of
dim_back n p h = ap (λ o. not_zero (below 33 o)) (decimal_spells n (wide n (omega arith))).number ∙ ap not_zero (below_limit 33 n (omega arith)) ∙ not_zero_back n p

-- ---- the numbers of a law

short_back : (n : ℕ) → n ≤ 99 → short_of (decimal n) ≡ Some n
unfolding short_of
short_back n h =
    let long : nat_le (length (decimal n)) 2 ≡ true = le-leb (length (decimal n)) 2 (length-decimal-le 2 n (omega arith) (omega arith) (omega arith)) in
    rw (long, (decimal_spells n (wide n (omega arith))).number) refl

-- a digit is no sign
unsigned : {A : Type 0} (d : ℕ) (plus minus none : A) → 48 ≤ d → cond (d == 43) plus (cond (d == 45) minus none) ≡ none
unsigned d plus minus none h = rw (ne_eqb d 43 (λ e. omega arith), ne_eqb d 45 (λ e. omega arith)) refl

law_unsigned : (ds : List ℕ) → 0 < length ds → Digits ds → signed_of ds ≡ option_map pos (short_of ds)
unfolding signed_of
law_unsigned [] h p = absurd (omega arith)
law_unsigned (d ∷ ds) h p = unsigned d (option_map pos (short_of ds)) (option_map (λ n. neg_ℤ (pos n)) (short_of ds)) (option_map pos (short_of (d ∷ ds))) p.0.0

pub signed_back : (z : ℤ) → negsuc 98 ≤ℤ z → z ≤ℤ pos 99 → signed_of (signed_decimal z) ≡ Some z
unfolding signed_of
signed_back (pos n) l h =
    let small : n ≤ 99 = omega (arith, ints) in
    let p = decimal_spells n (wide n (omega arith)) in
    law_unsigned (decimal n) p.some p.digits ∙ ap (option_map pos) (short_back n small)
signed_back (negsuc n) l h =
    let small : suc n ≤ 99 = omega (arith, ints) in
    ap (option_map (λ m. neg_ℤ (pos m))) (short_back (suc n) small)

-- ---- around a stroke

no-stroke : (c : ℕ) → 48 ≤ c → is_stroke c ≡ false
no-stroke c h = grind (arith, nat_tests)

before-digits : (ds rest : List ℕ) → Digits ds → before_stroke (ds ++ 47 ∷ rest) ≡ ds
unfolding before_stroke
before-digits [] rest p = refl
before-digits (d ∷ ds) rest p = rw (no-stroke d p.0.0) (ap (λ w. d ∷ w) (before-digits ds rest p.1))

from-digits : (ds rest : List ℕ) → Digits ds → from_stroke (ds ++ 47 ∷ rest) ≡ 47 ∷ rest
unfolding from_stroke
from-digits [] rest p = refl
from-digits (d ∷ ds) rest p = rw (no-stroke d p.0.0) (from-digits ds rest p.1)

before-alone : (ds : List ℕ) → Digits ds → before_stroke ds ≡ ds
unfolding before_stroke
before-alone [] p = refl
before-alone (d ∷ ds) p = rw (no-stroke d p.0.0) (ap (λ w. d ∷ w) (before-alone ds p.1))

from-alone : (ds : List ℕ) → Digits ds → from_stroke ds ≡ []
unfolding from_stroke
from-alone [] p = refl
from-alone (d ∷ ds) p = rw (no-stroke d p.0.0) (from-alone ds p.1)

-- the text of a denominator
abbrev pub denominator_text : ℕ → List ℕ
denominator_text d = cond (d == 1) [] (47 ∷ decimal d)

one_back : (n d : ℕ) → n < 2 ^ 127 → d ≡ 1 → size_of (decimal n ++ []) ≡ Some (pos n /ℚ d)
unfolding size_of denominator_of quotient_of
one_back n d h e =
    let p = (decimal_spells n (wide n h)).digits in
    rw (append-nil (decimal n), before-alone (decimal n) p, from-alone (decimal n) p, whole_back n h) (ap (λ m. Some (pos n /ℚ m)) (sym e))

other_back : (n d : ℕ) → n < 2 ^ 127 → 0 < d → d < 2 ^ 127 → size_of (decimal n ++ 47 ∷ decimal d) ≡ Some (pos n /ℚ d)
unfolding size_of denominator_of quotient_of
other_back n d h some l =
    let p = (decimal_spells n (wide n h)).digits in
    rw (before-digits (decimal n) (decimal d) p, from-digits (decimal n) (decimal d) p, whole_back n h, whole_back d l, not_zero_back d some) refl

size_back : (n d : ℕ) → n < 2 ^ 127 → 0 < d → d < 2 ^ 127 → size_of (decimal n ++ denominator_text d) ≡ Some (pos n /ℚ d)
size_back n d h some l = by (d == 1) refl
  where
    by : (t : Bool) → (d == 1) ≡ t → size_of (decimal n ++ cond t [] (47 ∷ decimal d)) ≡ Some (pos n /ℚ d)
    by true e = one_back n d h (eqb-true d 1 e)
    by false e = other_back n d h some l

-- a word that begins with a digit has no sign
value_unsigned : (ds rest : List ℕ) → 0 < length ds → Digits ds → read_value_of (ds ++ rest) ≡ size_of (ds ++ rest)
unfolding read_value_of
value_unsigned [] rest h p = absurd (omega arith)
value_unsigned (d ∷ ds) rest h p = unsigned d (size_of (ds ++ rest)) (option_map neg_ℚ (size_of (ds ++ rest))) (size_of (d ∷ ds ++ rest)) p.0.0

negative : (word : List ℕ) → read_value_of (45 ∷ word) ≡ option_map neg_ℚ (size_of word)
unfolding read_value_of
negative word = refl

negative_parts : (n d : ℕ) → T (lowest (negsuc n) d) → neg_ℚ (pos (suc n) /ℚ d) ≡ negsuc n /ℚ d
unfolding neg_ℚ lowest
negative_parts n d t =
    let e = lowest_parts (pos (suc n)) d t in
    ap₂ (λ m k. neg_ℤ m /ℚ k) e.0 e.1

by_sign : (z : ℤ) (d : ℕ) → nat_abs z < 2 ^ 127 → 0 < d → d < 2 ^ 127 → T (lowest z d) → read_value_of (signed_decimal z ++ denominator_text d) ≡ Some (z /ℚ d)
by_sign (pos n) d h some l t =
    let p = decimal_spells n (wide n h) in
    value_unsigned (decimal n) (denominator_text d) p.some p.digits ∙ size_back n d h some l
by_sign (negsuc n) d h some l t =
    negative (decimal (suc n) ++ denominator_text d) ∙ ap (option_map neg_ℚ) (size_back (suc n) d h some l) ∙ ap Some (negative_parts n d t)

pub value_back : (v : ℚ) → IsInRange v → read_value_of (fraction_text v) ≡ Some v
value_back v r = by_sign v.num v.den r.num (positive v) r.den v.in_lowest ∙ ap Some (parts_lem v)
