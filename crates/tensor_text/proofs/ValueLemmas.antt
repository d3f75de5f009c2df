-- The number of a word, digit by digit, and what stands around the first stroke.
use Rattle.std.proofs.Common.{◌≡◌, ℕ, suc, ◌+◌, ◌-◌, ◌*◌, ◌<◌, ◌≤◌, Bool, true, false, cond, not, List, [], ◌∷◌, length, get_or, take, drop, refl, sym, ap, ◌∙◌, arith, Some, None, Option, nat_lt}
use Rattle.std.specs.List.{position_or_len}
use Rattle.std.proofs.lemmas.Bool.{le-leb, lt-leb, le-ltb, lt-ltb, ltb-true}
use Rattle.std.proofs.lemmas.Bool.Decides.{nat_tests}
use Rattle.std.proofs.lemmas.Option.{none-some, cond_some}
use Rattle.std.proofs.lemmas.List.{at_drop_more, at_drop_all}
use Rattle.tensor_text.specs.Values.{is_digit, number_on, number_of, below, short_of, is_stroke, before_stroke, from_stroke}

pub below_limit : (limit n : ℕ) → n < limit → below limit (Some n) ≡ Some n
unfolding below
below_limit limit n h = rw (lt-ltb n limit h) refl

-- more digits make no less
none_beyond : (limit n : ℕ) (cs : List ℕ) → limit ≤ n → below limit (number_on n cs) ≡ None
unfolding below number_on
none_beyond limit n [] h = rw (le-ltb n limit h) refl
none_beyond limit n (c ∷ cs) h = by (is_digit c) (none_beyond limit (n * 10 + (c - 48)) cs (omega arith))
  where
    by : (t : Bool) → below limit (number_on (n * 10 + (c - 48)) cs) ≡ None → below limit (cond t (number_on (n * 10 + (c - 48)) cs) None) ≡ None
    by true e = e
    by false e = refl

pub number_start : (word : List ℕ) → 0 < length word → number_of word ≡ number_on 0 word
unfolding number_of
number_start [] h = absurd (omega arith)
number_start (c ∷ cs) h = refl

pub no_number : (word : List ℕ) → length word ≡ 0 → number_of word ≡ None
unfolding number_of
no_number [] h = refl
no_number (c ∷ cs) h = absurd (omega arith)

on_cons : (limit n c : ℕ) (cs : List ℕ) → below limit (number_on n (c ∷ cs)) ≡ cond (is_digit c) (below limit (number_on (n * 10 + (c - 48)) cs)) None
unfolding below number_on
on_cons limit n c cs = by (is_digit c)
  where
    by : (t : Bool) → below limit (cond t (number_on (n * 10 + (c - 48)) cs) None) ≡ cond t (below limit (number_on (n * 10 + (c - 48)) cs)) None
    by true = refl
    by false = refl

on_more : (limit n : ℕ) (word : List ℕ) (i : ℕ) → i < length word → below limit (number_on n (drop i word)) ≡ cond (is_digit (get_or word i 0)) (below limit (number_on (n * 10 + (get_or word i 0 - 48)) (drop (i + 1) word))) None
on_more limit n word i h = at_drop_more (λ w. below limit (number_on n w)) word i 0 h ∙ on_cons limit n (get_or word i 0) (drop (i + 1) word)

-- a byte that is no digit
pub stops_at : (limit n : ℕ) (word : List ℕ) (i : ℕ) (all : Option ℕ) → i < length word → is_digit (get_or word i 0) ≡ false → below limit (number_on n (drop i word)) ≡ all → None ≡ all
stops_at limit n word i all h test e = sym (on_more limit n word i h ∙ ap (λ t. cond t (below limit (number_on (n * 10 + (get_or word i 0 - 48)) (drop (i + 1) word))) None) test) ∙ e

pub goes_on : (limit n : ℕ) (word : List ℕ) (i : ℕ) (all : Option ℕ) → i < length word → is_digit (get_or word i 0) ≡ true → below limit (number_on n (drop i word)) ≡ all → below limit (number_on (n * 10 + (get_or word i 0 - 48)) (drop (i + 1) word)) ≡ all
goes_on limit n word i all h test e = sym (on_more limit n word i h ∙ ap (λ t. cond t (below limit (number_on (n * 10 + (get_or word i 0 - 48)) (drop (i + 1) word))) None) test) ∙ e

-- a digit that leads to the limit
pub passes_at : (limit n : ℕ) (word : List ℕ) (i : ℕ) (all : Option ℕ) → i < length word → is_digit (get_or word i 0) ≡ true → limit ≤ n * 10 + (get_or word i 0 - 48) → below limit (number_on n (drop i word)) ≡ all → None ≡ all
passes_at limit n word i all h test over e = sym (none_beyond limit (n * 10 + (get_or word i 0 - 48)) (drop (i + 1) word) over) ∙ goes_on limit n word i all h test e

pub ends_at : (limit n : ℕ) (word : List ℕ) (i : ℕ) (all : Option ℕ) → length word ≤ i → n < limit → below limit (number_on n (drop i word)) ≡ all → Some n ≡ all
unfolding below number_on
ends_at limit n word i all h fits e = sym (at_drop_all (λ w. below limit (number_on n w)) word i h ∙ (rw (lt-ltb n limit fits) refl)) ∙ e

-- ---- around the first stroke

before-cond : (t : Bool) (n c : ℕ) (cs : List ℕ) → before_stroke cs ≡ take n cs → cond t [] (c ∷ before_stroke cs) ≡ take (cond (not t) (1 + n) 0) (c ∷ cs)
before-cond true n c cs e = refl
before-cond false n c cs e = let s : 1 + n ≡ suc n = omega arith in rw s (ap (λ w. c ∷ w) e)

pub before_first : (word : List ℕ) → before_stroke word ≡ take (position_or_len is_stroke word) word
unfolding before_stroke
before_first [] = refl
before_first (c ∷ cs) = before-cond (is_stroke c) (position_or_len is_stroke cs) c cs (before_first cs)

from-cond : (t : Bool) (n c : ℕ) (cs : List ℕ) → from_stroke cs ≡ drop n cs → cond t (c ∷ cs) (from_stroke cs) ≡ drop (cond (not t) (1 + n) 0) (c ∷ cs)
from-cond true n c cs e = refl
from-cond false n c cs e = let s : 1 + n ≡ suc n = omega arith in rw s e

pub from_first : (word : List ℕ) → from_stroke word ≡ drop (position_or_len is_stroke word) word
unfolding from_stroke
from_first [] = refl
from_first (c ∷ cs) = from-cond (is_stroke c) (position_or_len is_stroke cs) c cs (from_first cs)

pub below_fits : (limit n : ℕ) (o : Option ℕ) → Some n ≡ below limit o → n < limit
unfolding below
below_fits limit n None e = absurd (none-some n (sym e))
below_fits limit n (Some m) e = let p = cond_some (nat_lt m limit) m n (sym e) in let b = ltb-true m limit p.0 in omega (arith, p.1)

-- ---- one digit or two

digit_most : (c : ℕ) → is_digit c ≡ true → c ≤ 57
digit_most c h = grind (arith, nat_tests)

behind_digit : (limit c : ℕ) (o : Option ℕ) → (is_digit c ≡ true → below limit o ≡ o) → below limit (cond (is_digit c) o None) ≡ cond (is_digit c) o None
unfolding below
behind_digit limit c o h = by (is_digit c) h
  where
    by : (t : Bool) → (t ≡ true → below limit o ≡ o) → below limit (cond t o None) ≡ cond t o None
    by true e = e refl
    by false e = refl

short-below : (word : List ℕ) → length word ≤ 2 → below 100 (number_of word) ≡ number_of word
unfolding below number_of number_on
short-below [] h = refl
short-below (c ∷ []) h = behind_digit 100 c _ (λ p. below_limit 100 _ (omega (arith, digit_most c p)))
short-below (c ∷ d ∷ []) h = behind_digit 100 c _ (λ p. behind_digit 100 d _ (λ q. below_limit 100 _ (omega (arith, digit_most c p, digit_most d q))))
short-below (c ∷ d ∷ e ∷ es) h = absurd (omega arith)

pub short_is : (word : List ℕ) → length word ≤ 2 → below 100 (number_of word) ≡ short_of word
unfolding short_of
short_is word h = short-below word h ∙ rw (le-leb (length word) 2 h) refl

pub long_is : (word : List ℕ) → 2 < length word → None ≡ short_of word
unfolding short_of
long_is word h = rw (lt-leb (length word) 2 h) refl
