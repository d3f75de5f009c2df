-- Each list of n numbers stands once among those of its sum.
use Rattle.std.proofs.Common.{◌≡◌, ℕ, zero, suc, ◌+◌, ◌-◌, ◌*◌, ◌<◌, ◌≤◌, Bool, true, false, List, [], ◌∷◌, map, length, refl, sym, ap, ap₂, ◌∙◌, arith, ◌⊎◌, inl, inr, eqb, ltb, ◌&&◌}
use Rattle.correlators.proofs.Words.{cases_lt, ℚ, 0ℚ, sum_over, when, below, same_list, total, Each-below, 0ℚ_idr, sum-cong, sum-cong_each, sum-zero, sum-each, sum-map, when-none, when-and, sum-one, sum-when, same_test, lists_of_sum, lists_up_to}
use Rattle.std.proofs.lemmas.Bool.{eqb-true, ne_eqb, lt-ltb, le-ltb}

pub doubled_same : (xs ys : List ℕ) → same_list (map (λ d. 2 * d) xs) (map (λ d. 2 * d) ys) ≡ same_list xs ys
unfolding same_list
doubled_same [] [] = refl
doubled_same [] (y ∷ ys) = refl
doubled_same (x ∷ xs) [] = refl
doubled_same (x ∷ xs) (y ∷ ys) = ap₂ (λ s t. s && t) (same_test (2 * x) (2 * y) x y (λ e. omega arith) (λ e. omega arith)) (doubled_same xs ys)

-- ---- sums with one term

pick : (j m : ℕ) (x : ℚ) → sum_over (below m) (λ a. when (eqb a j) x) ≡ when (ltb j m) x
unfolding when
pick j m x = by (cases_lt j m)
  where
    by : (j < m) ⊎ (m ≤ j) → sum_over (below m) (λ a. when (eqb a j) x) ≡ when (ltb j m) x
    by (inl l) = sum-one j m x l ∙ sym (ap (λ t. when t x) (lt-ltb j m l))
    by (inr g) = sum-cong_each (λ a. when (eqb a j) x) (λ a. 0ℚ) (below m) (Each-below _ m (λ a h. when-none (eqb a j) x (λ e. apart a h (eqb-true a j e)))) ∙ sum-zero (below m) ∙ sym (ap (λ t. when t x) (le-ltb j m g))
      where
        apart : (a : ℕ) → a < m → a ≡ j → ⊥
        apart a h e = omega arith

when-swap : (p q r : Bool) (x : ℚ) → (q ≡ true → p ≡ r) → when p (when q x) ≡ when q (when r x)
unfolding when
when-swap p true r x h = ap (λ t. when t x) (h refl)
when-swap true false r x h = refl
when-swap false false r x h = refl

when-implied : (p q : Bool) (x : ℚ) → (q ≡ true → p ≡ true) → when p (when q x) ≡ when q x
unfolding when
when-implied p true x h = ap (λ t. when t x) (h refl)
when-implied true false x h = refl
when-implied false false x h = refl

-- ---- the lists

listed : (n s : ℕ) (ds : List ℕ) (x : ℚ) → length ds ≡ n → sum_over (lists_of_sum n s) (λ es. when (same_list es ds) x) ≡ when (eqb s (total ds)) x
unfolding lists_of_sum sum_over same_list total when
listed zero zero [] x e = 0ℚ_idr x
listed zero (suc s) [] x e = sym (ap (λ t. when t x) (ne_eqb (suc s) 0 (λ h. absurd (omega arith))))
listed zero s (d ∷ ds) x e = absurd (omega arith)
listed (suc n) s [] x e = absurd (omega arith)
listed (suc n) s (d ∷ ds) x e =
    sum-each (λ es. when (same_list es (d ∷ ds)) x) (λ k. map (λ es. (s - k) ∷ es) (lists_of_sum n k)) (below (suc s))
    ∙ sum-cong_each (λ k. sum_over (map (λ es. (s - k) ∷ es) (lists_of_sum n k)) (λ es. when (same_list es (d ∷ ds)) x)) (λ k. when (eqb k (total ds)) (when (eqb s (d + total ds)) x)) (below (suc s)) (Each-below _ (suc s) (λ k h. one k h (listed n k ds x (omega arith))))
    ∙ pick (total ds) (suc s) (when (eqb s (d + total ds)) x)
    ∙ when-implied (ltb (total ds) (suc s)) (eqb s (d + total ds)) x (λ t. lt-ltb (total ds) (suc s) (within (eqb-true s (d + total ds) t)))
  where
    within : s ≡ d + total ds → total ds < suc s
    within h = omega arith

    one : (k : ℕ) → k < suc s → sum_over (lists_of_sum n k) (λ es. when (same_list es ds) x) ≡ when (eqb k (total ds)) x
        → sum_over (map (λ es. (s - k) ∷ es) (lists_of_sum n k)) (λ es. when (same_list es (d ∷ ds)) x) ≡ when (eqb k (total ds)) (when (eqb s (d + total ds)) x)
    one k h rest =
        sum-map (λ es. when (same_list es (d ∷ ds)) x) (λ es. (s - k) ∷ es) (lists_of_sum n k)
        ∙ sum-cong (λ es. when (eqb (s - k) d && same_list es ds) x) (λ es. when (eqb (s - k) d) (when (same_list es ds) x)) (lists_of_sum n k) (λ es. when-and (eqb (s - k) d) (same_list es ds) x)
        ∙ sum-when (eqb (s - k) d) (λ es. when (same_list es ds) x) (lists_of_sum n k)
        ∙ ap (when (eqb (s - k) d)) rest
        ∙ when-swap (eqb (s - k) d) (eqb k (total ds)) (eqb s (d + total ds)) x (λ t. same (eqb-true k (total ds) t))
      where
        same : k ≡ total ds → eqb (s - k) d ≡ eqb s (d + total ds)
        same e = same_test (s - k) d s (d + total ds) (λ i. omega arith) (λ i. omega arith)

pub listed_up_to : (n S : ℕ) (ds : List ℕ) (x : ℚ) → length ds ≡ n → sum_over (lists_up_to n S) (λ es. when (same_list es ds) x) ≡ when (ltb (total ds) (suc S)) x
unfolding lists_up_to
listed_up_to n S ds x e =
    sum-each (λ es. when (same_list es ds) x) (lists_of_sum n) (below (suc S))
    ∙ sum-cong (λ s. sum_over (lists_of_sum n s) (λ es. when (same_list es ds) x)) (λ s. when (eqb s (total ds)) x) (below (suc S)) (λ s. listed n s ds x e)
    ∙ pick (total ds) (suc S) x
