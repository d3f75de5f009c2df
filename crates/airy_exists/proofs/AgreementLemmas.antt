-- What is answered of a plan's table of outcomes, and what it says.
use Prim.Native.Nat.{ℕ}
use mathlib.Core.Path.{◌≡◌, refl, sym, ap, subst, ◌∙◌}
use mathlib.Core.Bool.{true}
use mathlib.Core.List.{List}
use native.Mathlib.Omega.{arith}
use lib.ListN.{length, get_or}
use Rattle.std.specs.Prelude.{Option, Some, None}
use Rattle.std.proofs.lemmas.List.{length-map}
use Rattle.airy_math.specs.Tensors.{Tensors}
use Rattle.airy_math.specs.Relations.{Close}
use Rattle.sparse_tensor.specs.Entries.{Entries, looked_up}
use Rattle.sparse_tensor.specs.Grades.{AreSound}
use Rattle.amp_plan.specs.Plans.{Planning, tensors_of, keys_of}
use Rattle.amp_terms.specs.declared.Outcome.{Outcome}
use Rattle.amp_terms.specs.declared.Outcome.TheVariants.{Over}
use Rattle.amp_terms.specs.Outcomes.{outcomes, has_value}
use Rattle.amp_terms.specs.Tables.{full_table, first_without}
use Rattle.amp_terms.proofs.OutcomeLemmas.{length-all}
use Rattle.series_law.specs.First.{HaveValues}
use Rattle.series_law.proofs.TableRanks.{all_values}
use Rattle.airy_exists.specs.Existence.{HasValues}
use Rattle.airy_exists.specs.Agreement.{answer_at, IsAgreed}
use Rattle.airy_exists.specs.declared.ends.Agreed.{Agreed}
use Rattle.airy_exists.specs.declared.ends.Agreed.TheVariants.{Solution}
use Rattle.airy_exists.proofs.ExistenceLaw.{existence}
use Rattle.airy_exists.proofs.TableLaw.{every_pivot}
use Rattle.airy_exists.proofs.TableLaw as law

-- the table of a plan is as long as its keys
pub long_table : (p : Planning) (table : List (Option Outcome)) → table ≡ full_table (tensors_of p) p.bound
    → length table ≡ length (keys_of p)
unfolding full_table
long_table p table e = ap (λ t. length t) e ∙ length-map (outcomes (tensors_of p) p.bound) Some ∙ length-all p

-- each rank has a Value where the answer is Solution
has_values : (p : Planning) (table : List (Option Outcome)) → table ≡ full_table (tensors_of p) p.bound
    → answer_at p (first_without table) ≡ Solution → HasValues (tensors_of p) p.bound
unfolding full_table answer_at HaveValues keys_of
has_values p table e s r h = by (first_without table) refl s
  where
    by : (o : Option ℕ) → first_without table ≡ o → answer_at p o ≡ Solution
        → has_value (get_or (outcomes (tensors_of p) p.bound) r Over) ≡ true
    by None u s = all_values (outcomes (tensors_of p) p.bound) (ap first_without (sym e) ∙ u) r (omega (arith, h, length-all p))
    by (Some q) u s = cc

-- The answer by the least rank without a Value, of sound tensors that meet the relations.
pub is_agreed : (p : Planning) (t : Entries) (table : List (Option Outcome)) (answer : Agreed) → t ≡ p.tensors → AreSound t
    → Close (tensors_of p) p.tensors.dim → table ≡ full_table (tensors_of p) p.bound
    → answer ≡ answer_at p (first_without table) → IsAgreed p table answer
unfolding tensors_of looked_up
is_agreed p t table answer is sound cl whole found = record {
  found = found;
  passes = λ s. every_pivot T u.symmetric u.graded cl p.bound (full s);
  solves = λ s. law.table T u.symmetric u.graded cl p.bound (full s);
  exact = λ X. existence T u.symmetric u.graded cl X;
}
  where
    T : Tensors
    T = looked_up p.tensors

    u : AreSound p.tensors
    u = subst AreSound is sound

    full : answer ≡ Solution → HasValues T p.bound
    full s = has_values p table whole (sym found ∙ s)
