-- What the check of a table finds is the first finding.
use Rattle.std.proofs.Common.{◌≡◌, ℕ, zero, suc, ◌+◌, ◌<◌, Bool, true, false, List, [], ◌∷◌, length, get_or, Option, Some, None, refl, sym, ap, ap₂, subst, ◌∙◌, inl, inr, arith, ◌⊎◌}
use Rattle.airy_math.specs.Rational.{ℚ}
use Rattle.airy_math.specs.Keys.{Key}
use Rattle.airy_math.specs.Tensors.{Tensors}
use Rattle.airy_math.specs.Planned.{planned}
use Rattle.amp_terms.specs.declared.Outcome.{Outcome}
use Rattle.amp_terms.specs.declared.Outcome.TheVariants.{Over}
use Rattle.amp_terms.specs.Outcomes.{has_value, value_in}
use Rattle.series_law.specs.Scans.{Failing, failing_key, above_least, IsFirstFailing}
use Rattle.series_law.specs.Check.{Verdict, Solution, NotValue, Overflow, Orders, said, check_keys, check_values, check}
use Rattle.series_law.specs.First.{HaveValues, PassesUpTo, IsFirst, FirstFindingLaw}
use Rattle.series_law.proofs.ScansLaw.{finds_first}

-- where each rank has a Value, the pivots decide
pub values_pass : (r : ℕ) (table : List Outcome) (next : Verdict) → HaveValues table (length table) → check_values r table next ≡ next
unfolding check_values HaveValues
values_pass r [] next v = refl
values_pass r (o ∷ table) next v = ap (λ t. elim t [ true ↦ check_values (suc r) table next | false ↦ NotValue r ]) (v 0 (omega arith)) ∙ values_pass (suc r) table next (λ s l. v (suc s) (omega (arith, l)))

-- the least rank without a Value is named, where r ranks come before the list
pub names_rank : (r : ℕ) (table : List Outcome) (next : Verdict) (s : ℕ) → s < length table → has_value (get_or table s Over) ≡ false → HaveValues table s → check_values r table next ≡ NotValue (r + s)
unfolding check_values HaveValues
names_rank r [] next s l e v = absurd (omega (arith, l))
names_rank r (o ∷ table) next zero l e v = ap (λ t. elim t [ true ↦ check_values (suc r) table next | false ↦ NotValue r ]) e ∙ ap NotValue (omega arith)
names_rank r (o ∷ table) next (suc s) l e v =
    ap (λ t. elim t [ true ↦ check_values (suc r) table next | false ↦ NotValue r ]) (v 0 (omega arith))
    ∙ names_rank (suc r) table next s (omega (arith, l)) e (λ q m. v (suc q) (omega (arith, m))) ∙ ap NotValue (omega arith)

-- each rank has a Value, or one is the least without
least_rank : (table : List Outcome) → HaveValues table (length table) ⊎ ((r : ℕ) × (r < length table) × (has_value (get_or table r Over) ≡ false) × HaveValues table r)
unfolding HaveValues
least_rank [] = inl (λ s l. absurd (omega (arith, l)))
least_rank (o ∷ table) = by (has_value o) refl (least_rank table)
  where
    with_first : has_value o ≡ true → (n : ℕ) → ((s : ℕ) → s < n → has_value (get_or table s Over) ≡ true) → (s : ℕ) → s < suc n → has_value (get_or (o ∷ table) s Over) ≡ true
    with_first e n h zero l = e
    with_first e n h (suc s) l = h s (omega (arith, l))

    by : (b : Bool) → has_value o ≡ b → HaveValues table (length table) ⊎ ((r : ℕ) × (r < length table) × (has_value (get_or table r Over) ≡ false) × HaveValues table r)
        → HaveValues (o ∷ table) (suc (length table)) ⊎ ((r : ℕ) × (r < suc (length table)) × (has_value (get_or (o ∷ table) r Over) ≡ false) × HaveValues (o ∷ table) r)
    by true e (inl h) = inl (with_first e (length table) h)
    by true e (inr f) = inr (suc f.0, (let l : suc f.0 < suc (length table) = omega (arith, f.1) in l), f.2, with_first e f.0 f.3)
    by false e h = inr (0, (let l : 0 < suc (length table) = omega arith in l), e, λ s l. absurd (omega (arith, l)))

module _ (T : Tensors) (X : ℕ) (table : List Outcome) where
  abbrev F : Key → ℚ
  F = value_in (planned T X) table

  found : Option (Key × Failing)
  found = failing_key T F above_least (planned T X)

  says : (f : Option (Key × Failing)) → HaveValues table (length table) → IsFirstFailing T X F above_least f → IsFirst T X table (said F f)
  unfolding said IsFirst PassesUpTo IsFirstFailing
  says None v h = (v, h)
  says (Some (key, (i, None))) v h = ((v, h.0), h.1)
  says (Some (key, (i, Some b))) v h = ((v, h.0), h.1, (λ e. h.2 (ap Some (sym e))), refl, refl)

  first : IsFirst T X table (check T X table)
  unfolding check check_keys IsFirst found
  first = by (least_rank table)
    where
      zero_plus : (n : ℕ) → 0 + n ≡ n
      zero_plus n = omega arith

      by : HaveValues table (length table) ⊎ ((r : ℕ) × (r < length table) × (has_value (get_or table r Over) ≡ false) × HaveValues table r) → IsFirst T X table (check_values 0 table (said F found))
      by (inl v) = subst (IsFirst T X table) (sym (values_pass 0 table (said F found) v)) (says found v ((finds_first T X F above_least found).0 refl))
      by (inr f) = subst (IsFirst T X table) (sym (names_rank 0 table (said F found) f.0 f.1 f.2 f.3 ∙ ap NotValue (zero_plus f.0))) (f.1, f.2, f.3)

  -- the verdict of a table of Values is what the first pivot that fails says
  decided : (f : Option (Key × Failing)) → HaveValues table (length table) → IsFirstFailing T X F above_least f → check T X table ≡ said F f
  unfolding check check_keys
  decided f v h = values_pass 0 table _ v ∙ ap (said F) ((finds_first T X F above_least f).1 h)

  only : (u : Verdict) → IsFirst T X table u → check T X table ≡ u
  unfolding IsFirst PassesUpTo IsFirstFailing said check
  only Solution h = decided None h.0 h.1
  only (NotValue r) h = names_rank 0 table _ r h.0 h.1 h.2 ∙ ap NotValue (omega arith)
  only (Overflow key i) h = decided (Some (key, (i, None))) h.0.0 (h.0.1, h.1, λ e. cc)
  only (Orders key l a i b) h =
      decided (Some (key, (i, Some b))) h.0.0 (h.0.1, h.1, λ e. h.2 (h.4 ∙ same e)) ∙ ap₂ (λ l a. Orders key l a i b) (sym h.3) (sym h.4)
    where
      same : Some b ≡ Some (F key) → F key ≡ b
      same e = cc

pub first_finding : FirstFindingLaw
first_finding T X table u = (λ e. subst (IsFirst T X table) e (first T X table), only T X table u)
