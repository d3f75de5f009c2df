-- What the verdict that an end tells says of it.
use Rattle.std.proofs.Common.{Option, Some, drop, sym, ap, ap₂, ◌∙◌, ℕ, ◌≡◌, subst}
use Rattle.airy_math.specs.Rational.{ℚ}
use Rattle.airy_math.specs.Keys.{Key, head_or}
use Rattle.sparse_tensor.specs.Entries.{Entries, looked_up}
use Rattle.sparse_tensor.specs.Grades.{AreSound}
use Rattle.amp_plan.specs.Plans.{Planning, tensors_of, keys_of}
use Rattle.series_law.specs.Check.{Verdict, Checks, CheckLaw}
use Rattle.series_law.specs.Check as verdict
use Rattle.constraint_check.specs.declared.ends.CheckEnd.{CheckEnd}
use Rattle.constraint_check.specs.declared.ends.CheckEnd.TheVariants.{NotValue, Over, Orders, Solution}
use Rattle.series_law.specs.Check.{said, check_keys}
use Rattle.series_law.specs.Scans.{Failing, above_least}
use Rattle.constraint_check.specs.declared.pivots.Failure.{Failure}
use Rattle.constraint_check.specs.Ends.{values_of, verdict_from, Tells, IfSolution, IfOrders}
use Rattle.constraint_check.specs.Pivots.{failing_from, Names}

pub at_solution : (p : Planning) (e : CheckEnd) (v : Verdict) (P : Type 0) → Tells p e v → (v ≡ verdict.Solution → P) → IfSolution e P
unfolding Tells IfSolution
at_solution p (NotValue key) v P t h = tt
at_solution p (Over key i) v P t h = tt
at_solution p (Orders key i a j b) v P t h = tt
at_solution p Solution v P t h = h t

pub at_orders : (p : Planning) (e : CheckEnd) (v : Verdict) (P : Key → ℕ → ℚ → ℕ → ℚ → Type 0) → Tells p e v → ((key : Key) (i j : ℕ) (a b : ℚ) → v ≡ verdict.Orders key i a j b → P key i a j b) → IfOrders e P
unfolding Tells IfOrders
at_orders p (NotValue key) v P t h = tt
at_orders p (Over key i) v P t h = tt
at_orders p (Orders key i a j b) v P t h = h key i j a b t
at_orders p Solution v P t h = tt

-- the law of the check, for the tensors of a plan
pub checks_of : (p : Planning) → CheckLaw → (t : Entries) → t ≡ p.tensors → AreSound t → Checks (tensors_of p) p.bound
unfolding tensors_of
checks_of p law t is sound = by (subst AreSound is sound)
  where
    by : AreSound p.tensors → Checks (looked_up p.tensors) p.bound
    by s = law (looked_up p.tensors) p.bound s.symmetric s.graded

-- the verdict of the ranks from one on, by what fails first of them, over numbers that are the table's Values
pub verdict_is : (p : Planning) (F : Key → ℚ) → F ≡ values_of p → (r : ℕ) (f : Option (Key × Failing)) → failing_from p F above_least r ≡ f → verdict_from p r ≡ said F f
unfolding verdict_from check_keys failing_from
verdict_is p F same r f e = ap (λ G. check_keys (tensors_of p) G (drop r (keys_of p))) (sym same) ∙ ap (said F) e

-- the end of a key that fails tells what is said of it
pub tells_failed : (p : Planning) (F : Key → ℚ) (e : CheckEnd) (f : Failure) → Names e f → f.value ≡ F f.key → (v : Verdict) → v ≡ said F (Some (f.key, (f.pivot, f.sum))) → Tells p e v
unfolding Tells said
tells_failed p F (NotValue key) f n w v is = absurd n
tells_failed p F Solution f n w v is = absurd n
tells_failed p F (Over key i) f n w v is = is ∙ ap (λ s. said F (Some (f.key, (f.pivot, s)))) n.2 ∙ ap₂ verdict.Overflow (sym n.0) (sym n.1)
tells_failed p F (Orders key l a i b) f n w v is = is ∙ ap (λ s. said F (Some (f.key, (f.pivot, s)))) n.2 ∙ all (sym n.0) (ap (λ k. head_or 0 k.idx) (sym n.0) ∙ sym n.3) (sym w ∙ sym n.4) (sym n.1)
  where
    all : {k k' : Key} {l l' i i' : ℕ} {a a' : ℚ} → k ≡ k' → l ≡ l' → a ≡ a' → i ≡ i' → verdict.Orders k l a i b ≡ verdict.Orders k' l' a' i' b
    all p q r s = cc
