-- The two puts of D.
use Rattle.std.proofs.Common.{◌≡◌, ℕ, zero, suc, Bool, true, false, cond, eqb, List, [], refl, sym, ap, ◌∙◌, arith}
use Rattle.std.proofs.lemmas.Bool.{eqb-true}
use Rattle.std.proofs.lemmas.Bool.Decides.{nat_tests}
use Rattle.airy_math.specs.Rational.{ℚ, ◌+ℚ◌}
use Rattle.airy_math.specs.RationalLaws.{0ℚ, 0ℚ_idl}
use Rattle.airy_math.specs.Sums.{when}
use Rattle.airy_math.specs.Tensors.{is_zero}
use Rattle.airy_math.proofs.PivotLemmas.{zero_number}
use Rattle.airy_math.proofs.SumLemmas.{0ℚ_idr, when_false}
use Rattle.sparse_tensor.specs.Entries.{Entries, is_given, looked_up, value_of, with_value}
use Rattle.sparse_tensor.specs.Puts.{with_d}
use Rattle.sparse_tensor.proofs.EntryLemmas.{value_of-with_value}
use Rattle.airy_curve.specs.Filling.{FillsD}
use Rattle.sparse_tensor.proofs.PutFacts.{with_d-is}

abbrev put_value : ℕ → ℚ → List (ℕ × ℚ) → List (ℕ × ℚ)
put_value i v es = cond (is_zero v) es (with_value i v es)

put_value_at : (es : List (ℕ × ℚ)) (n : ℕ) (v : ℚ) (i : ℕ) → is_given es n ≡ false → value_of es n ≡ 0ℚ → value_of (put_value n v es) i ≡ cond (eqb i n) v (value_of es i)
put_value_at es n v i free none = by (is_zero v) refl (eqb i n) refl
  where
    by : (z : Bool) → is_zero v ≡ z → (s : Bool) → eqb i n ≡ s → value_of (cond z es (with_value n v es)) i ≡ cond s v (value_of es i)
    by false e s p = value_of-with_value n v es i free ∙ ap (λ d. cond d v (value_of es i)) p
    by true e false p = refl
    by true e true p = ap (value_of es) (eqb-true i n p) ∙ none ∙ sym (zero_number v e)

pub first_others : (t t' : Entries) (i : ℕ) (x : ℚ) → t' ≡ with_d t i x → t' ≡ record t { d = t'.d }
first_others t t' i x e = let is = e ∙ with_d-is t i x in is ∙ ap (λ es. record t { d = es }) (sym (ap (λ (u : Entries). u.d) is))

pub both_others : (t t' t″ : Entries) (x y : ℚ) → t' ≡ with_d t 0 x → t″ ≡ with_d t' 1 y → t″ ≡ record t { d = t″.d }
both_others t t' t″ x y e e' = first_others t' t″ 1 y e' ∙ ap (λ (u : Entries). record u { d = t″.d }) (first_others t t' 0 x e)

pub empty_d : (t : Entries) (i : ℕ) → t.d ≡ [] → is_given t.d i ≡ false
unfolding is_given
empty_d t i e = ap (λ es. is_given es i) e

module _ (t t' : Entries) (x : ℚ) (none : t.d ≡ []) (e : t' ≡ with_d t 0 x) where
  d_is : t'.d ≡ put_value 0 x []
  d_is = ap (λ (u : Entries). u.d) (e ∙ with_d-is t 0 x) ∙ ap (put_value 0 x) none

  d_at : (i : ℕ) → value_of t'.d i ≡ when (eqb i 0) x
  unfolding value_of is_given when
  d_at i = ap (λ es. value_of es i) d_is ∙ put_value_at [] 0 x i refl refl ∙ by (eqb i 0)
    where
      by : (s : Bool) → cond s x 0ℚ ≡ when s x
      by true = refl
      by false = refl

  pub free_d : is_given t'.d 1 ≡ false
  unfolding is_given with_value
  free_d = ap (λ es. is_given es 1) d_is ∙ by (is_zero x)
    where
      by : (z : Bool) → is_given (cond z [] (with_value 0 x [])) 1 ≡ false
      by true = refl
      by false = refl

  pub first_d : (y : ℚ) → t'.dim ≡ 1 → FillsD x y t'
  unfolding FillsD looked_up
  first_d y h = λ i p. d_at i ∙ sym (ap (λ z. when (eqb i 0) x +ℚ z) (when_false (eqb i 1) y (grind (arith, nat_tests))) ∙ 0ℚ_idr _)

  pub both_d : (t″ : Entries) (y : ℚ) → t″ ≡ with_d t' 1 y → FillsD x y t″
  unfolding FillsD looked_up when
  both_d t″ y e' = λ i p. ap (λ (u : Entries). value_of u.d i) (e' ∙ with_d-is t' 1 y) ∙ put_value_at t'.d 1 y i free_d (d_at 1) ∙ ap (cond (eqb i 1) y) (d_at i) ∙ sum i
    where
      sum : (i : ℕ) → cond (eqb i 1) y (when (eqb i 0) x) ≡ when (eqb i 0) x +ℚ when (eqb i 1) y
      sum zero = sym (0ℚ_idr x)
      sum (suc zero) = sym (0ℚ_idl y)
      sum (suc (suc i)) = let no : eqb (suc (suc i)) 1 ≡ false = grind (arith, nat_tests) in let none : eqb (suc (suc i)) 0 ≡ false = grind (arith, nat_tests) in rw (no, none) (sym (0ℚ_idl 0ℚ))
