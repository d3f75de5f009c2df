-- The limits of a kind's plan.
use Rattle.std.proofs.Common.{◌≡◌, ◌⊎◌, inl, inr, ℕ, ◌<◌, ◌≤◌, nat_le, ◌&&◌, true, false, Some, None, refl, sym, ap, ◌∙◌, arith}
use Rattle.airy_json.proofs.Common.{Wk, Bgw, Wp, Entries, looked_up, BelowDimLaw, planned, Planning, tensors_of, keys_of, limit, limit_of, Within, SameLimitsLaw, Kind, named, text, AreOfKind, kind_tensors, making_over, made_answer, plan_answer, bound_answer, cells_answer, cell_values, first_bad, Unmade, nat_tests, limit-memory, Items, BadBound, Passes}
use Rattle.amp_plan.specs.Limits.{Tells}
use Rattle.amp_plan.specs.declared.cause.PlanCause.{PlanCause}
use Rattle.amp_plan.specs.declared.cause.PlanCause.TheVariants.{Bound, Cells, Edges, NoMemory}
use Rattle.amp_plan.proofs.LimitLemmas.{range_fact}

-- the plan that is made of stored tensors
abbrev stored_plan : Entries → ℕ → Planning
stored_plan t X = record { tensors = t; bound = X }

pub same_limit : SameLimitsLaw → (kind : Kind) (X : ℕ) (t : Entries) → AreOfKind kind X t → limit_of (stored_plan t X) ≡ limit (kind_tensors kind X) X
unfolding AreOfKind kind_tensors limit_of tensors_of
same_limit law (named Wk) X t stands = law (looked_up t) (kind_tensors (named Wk) X) stands.entries X
same_limit law (named Bgw) X t stands = law (looked_up t) (kind_tensors (named Bgw) X) stands.entries X
same_limit law (named Wp) X t stands = law (looked_up t) (kind_tensors (named Wp) X) stands.entries X
same_limit law (text u) X t same = ap (λ e. limit (looked_up e) X) same

pub same_keys : BelowDimLaw → (kind : Kind) (X : ℕ) (t : Entries) → AreOfKind kind X t → keys_of (stored_plan t X) ≡ planned (kind_tensors kind X) X
unfolding AreOfKind kind_tensors keys_of tensors_of
same_keys law (named Wk) X t stands = (law (looked_up t) (kind_tensors (named Wk) X) stands.entries).plan X
same_keys law (named Bgw) X t stands = (law (looked_up t) (kind_tensors (named Bgw) X) stands.entries).plan X
same_keys law (named Wp) X t stands = (law (looked_up t) (kind_tensors (named Wp) X) stands.entries).plan X
same_keys law (text u) X t same = ap (λ e. planned (looked_up e) X) same

out_of_range : (X : ℕ) → (X ≡ 0) ⊎ (24 < X) → (nat_le 1 X && nat_le X 24) ≡ false
out_of_range X (inl e) = rw e refl
out_of_range X (inr h) = grind (arith, nat_tests)

module _ (kind : Kind) (X : ℕ) (ds : Items) (some : 0 < X) (most : X ≤ 24) where
  bound-ok : bound_answer kind X ds ≡ made_answer kind X ds (making_over kind X)
  unfolding bound_answer
  bound-ok = rw (range_fact X some most) refl

  -- a number of Weil and Petersson isn't obtained
  pub unmade : (k : ℕ) → making_over kind X ≡ Some k → bound_answer kind X ds ≡ Unmade k
  unfolding made_answer
  unmade k e = bound-ok ∙ ap (made_answer kind X ds) e

  planned-ok : making_over kind X ≡ None → bound_answer kind X ds ≡ plan_answer kind X ds (limit (kind_tensors kind X) X)
  unfolding made_answer
  planned-ok made = bound-ok ∙ ap (made_answer kind X ds) made

  module _ (t : Entries) (made : making_over kind X ≡ None) (same : limit_of (stored_plan t X) ≡ limit (kind_tensors kind X) X) where
    -- a cause other than want of memory
    pub passes : (why : PlanCause) → Tells (stored_plan t X) why → (why ≡ NoMemory → ⊥) → Passes why (bound_answer kind X ds)
    unfolding Tells plan_answer
    passes (Bound got) tells other = limit-memory (stored_plan t X) some most tells.0
    passes (Cells level) tells other = planned-ok made ∙ ap (plan_answer kind X ds) (sym same ∙ tells)
    passes (Edges key) tells other = planned-ok made ∙ ap (plan_answer kind X ds) (sym same ∙ tells)
    passes NoMemory tells other = absurd (other refl)

    -- the plan is made
    pub plans : keys_of (stored_plan t X) ≡ planned (kind_tensors kind X) X → limit_of (stored_plan t X) ≡ Within
        → bound_answer kind X ds ≡ cells_answer kind X (cell_values (keys_of (stored_plan t X)) ds) (first_bad (keys_of (stored_plan t X)) ds)
    unfolding plan_answer
    plans keys within =
        planned-ok made ∙ ap (plan_answer kind X ds) (sym same ∙ within)
        ∙ ap (λ ks. cells_answer kind X (cell_values ks ds) (first_bad ks ds)) (sym keys)

pub bad_bound : (kind : Kind) (X : ℕ) (ds : Items) → (X ≡ 0) ⊎ (24 < X) → bound_answer kind X ds ≡ BadBound X
unfolding bound_answer
bad_bound kind X ds h = rw (out_of_range X h) refl
