-- Values at tests, places of entries, and what a put leaves.
use Rattle.std.proofs.Common.{◌≡◌, ℕ, suc, ◌⊎◌, inl, inr, Bool, true, false, ◌&&◌, cond, eqb, [], refl, arith, pos}
use Rattle.std.specs.Prelude.{min, max, Result, Ok, Err, IfOk}
use Rattle.std.proofs.lemmas.Bool.{eq-eqb}
use Rattle.std.proofs.lemmas.Bool.Decides.{nat_tests}
use Rattle.airy_math.specs.Rational.{ℚ, whole, ◌/ℚ◌, lowest_zero, lowest_whole}
use Rattle.airy_math.specs.RationalLaws.{0ℚ, 1ℚ}
use Rattle.airy_math.specs.Sums.{when}
use Rattle.airy_math.specs.Tensors.{is_zero}
use Rattle.sparse_tensor.specs.Entries.{Entries, looked_up, value_of}
use Rattle.sparse_tensor.proofs.SoundLaw.{is_zero-some}
use Rattle.sparse_tensor.proofs.PutFacts.{same_ordered, same_unordered}

-- ---- answers

-- what follows of an answer from two facts of it
pub both_ok : {X E : Type 0} (r : Result X E) (P Q S : X → Type 0) → ((x : X) → P x → Q x → S x) → IfOk r P → IfOk r Q → IfOk r S
both_ok (Ok x) P Q S f p q = f x p q
both_ok (Err e) P Q S f p q = tt

-- ---- values

pub whole-some : (n : ℕ) → is_zero (whole (suc n)) ≡ false
unfolding whole 0ℚ
whole-some n = is_zero-some (pos (suc n) /ℚ 1) (λ e. let none = (lowest_zero (pos (suc n)) 1 (lowest_whole (pos (suc n)))).0 e in cc)

pub cond-false : (b : Bool) (x y : ℚ) → b ≡ false → cond b x y ≡ y
cond-false true x y h = cc
cond-false false x y h = refl

pub cond-true : (b : Bool) (x y : ℚ) → b ≡ true → cond b x y ≡ x
cond-true true x y h = refl
cond-true false x y h = cc

-- ---- places

pub same_b : (a b c i j k : ℕ) → a ≡ i → b ≡ j → c ≡ k → same_ordered a b c i j k ≡ true
unfolding same_ordered
same_b a b c i j k p q r = grind (arith, nat_tests)

pub same_c : (a b c i j k : ℕ) → a ≡ i → min b c ≡ min j k → max b c ≡ max j k → same_unordered a b c i j k ≡ true
unfolding same_unordered
same_c a b c i j k p q r = rw (eq-eqb a i p, eq-eqb (min b c) (min j k) q, eq-eqb (max b c) (max j k) r) refl

pub different : (m n : ℕ) → (m ≡ n → ⊥) → eqb m n ≡ false
different m n h = grind (arith, nat_tests)

pub and-false : (p q r : Bool) → (p ≡ false) ⊎ (q ≡ false) ⊎ (r ≡ false) → (p && q && r) ≡ false
and-false p q r (inl h) = rw h refl
and-false true q r (inr (inl h)) = rw h refl
and-false true true r (inr (inr h)) = h
and-false true false r (inr (inr h)) = refl
and-false false q r (inr h) = refl

-- ---- single entries

pub is_zero-1ℚ : is_zero 1ℚ ≡ false
unfolding 1ℚ
is_zero-1ℚ = unfold whole in whole-some 0

pub eighth-some : is_zero (pos 1 /ℚ 8) ≡ false
unfolding is_zero Rattle.airy_math.specs.Rational.ℚ_computes
eighth-some = refl

pub no_d : (t : Entries) (i : ℕ) → t.d ≡ [] → (looked_up t).D i ≡ 0ℚ
unfolding looked_up value_of
no_d t i e = rw e refl

pub cond-when : (b : Bool) (x y : ℚ) → y ≡ 0ℚ → cond b x y ≡ when b x
unfolding when
cond-when true x y h = refl
cond-when false x y h = h
