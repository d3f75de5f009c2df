-- A printed table has the headline, and two index orders that differ leave no solution.
use Rattle.std.proofs.Common.{◌≡◌, ℕ, ◌<◌, sym, ap, subst, arith}
use Rattle.run_reports.proofs.Names.{Structure, IsSound, planned_tensors, Family, Report, verdict_of, structure_of, table_report, whole_table, Headline, HasTwoOrders, Step, outside, unmade, limited, blank, over, orders, whole, Solution}
use Rattle.airy_math.specs.declared.Family.TheVariants as families
use Rattle.run_reports.proofs.LineLemmas.{values_found, differ_of}
use Rattle.run_reports.proofs.StatusLemmas.{status_of}
use Rattle.run_reports.proofs.StepLaw.{table_steps}
use Rattle.run_reports.proofs.HeadlineLemmas.{JobLaws, headline_by}
use Rattle.command_words.proofs.ScriptLemmas.{bound_some}

-- ---- the headline

module _ (laws : JobLaws) (s : Structure) (X : ℕ) (sound : IsSound s) (some : 0 < X) (found : verdict_of (planned_tensors s X) X ≡ Solution) where
  headline : Headline s X (whole_table s X)
  unfolding verdict_of
  headline = headline_by laws.unique laws.planned s X sound some (values_found (planned_tensors s X) X found) ((laws.checked s X sound some).solved found)

-- where a table's report is 0, it is of the whole table, which was made
pub whole_step : (s : Structure) (X : ℕ) → (table_report s X).status ≡ 0
    → (0 < X) × (verdict_of (planned_tensors s X) X ≡ Solution) × (table_report s X ≡ record { status = 0; bytes = whole_table s X })
whole_step s X e = by (table_steps s X)
  where
    by : Step s X (table_report s X) → (0 < X) × (verdict_of (planned_tensors s X) X ≡ Solution) × (table_report s X ≡ record { status = 0; bytes = whole_table s X })
    by (outside b said) = absurd (omega (arith, e, status_of said))
    by (unmade b k m h) = absurd (omega (arith, e, h))
    by (limited b m l h) = absurd (omega (arith, e, h))
    by (blank made r found h) = absurd (omega (arith, e, status_of h))
    by (over made key i found h) = absurd (omega (arith, e, status_of h))
    by (orders made key i a j b found h) = absurd (omega (arith, e, status_of h))
    by (whole made found said) = (bound_some X made.bounded, found, said)

-- and has the headline
pub whole_of : JobLaws → (s : Structure) (X : ℕ) → IsSound s → (table_report s X).status ≡ 0
    → (table_report s X ≡ record { status = 0; bytes = whole_table s X }) × Headline s X (whole_table s X)
whole_of laws s X sound e = let w = whole_step s X e in (w.2, headline laws s X sound w.0 w.1)

pub headline_of : JobLaws → (s : Structure) (X : ℕ) → IsSound s → (table_report s X).status ≡ 0 → Headline s X (table_report s X).bytes
headline_of laws s X sound e = let w = whole_of laws s X sound e in subst (λ (r : Report). Headline s X r.bytes) (sym w.0) w.1

pub unsolvable_of : JobLaws → (s : Structure) (X : ℕ) → IsSound s → (table_report s X).status ≡ 7 → HasTwoOrders s X (table_report s X).bytes
unfolding verdict_of
unsolvable_of laws s X sound e = by (table_steps s X)
  where
    by : Step s X (table_report s X) → HasTwoOrders s X (table_report s X).bytes
    by (outside b said) = absurd (omega (arith, e, status_of said))
    by (unmade b k m h) = absurd (omega (arith, e, h))
    by (limited b m l h) = absurd (omega (arith, e, h))
    by (blank made r found h) = absurd (omega (arith, e, status_of h))
    by (over made key i found h) = absurd (omega (arith, e, status_of h))
    by (orders made key i a j b found said) =
        let checked = laws.checked s X sound (bound_some X made.bounded) in record {
          key = key;
          first = i;
          v1 = a;
          second = j;
          v2 = b;
          named = ap (λ (r : Report). r.bytes) said;
          found = found;
          differ = differ_of (planned_tensors s X) X key i j a b found;
          unsolvable = checked.nowhere key i j a b found;
          planned_too = checked.unsolvable key i j a b found;
        }
    by (whole made found said) = absurd (omega (arith, e, status_of said))

pub family_sound : (f : Family) → IsSound (structure_of f)
unfolding IsSound structure_of
family_sound families.Wk = tt
family_sound families.Bgw = tt
family_sound families.Wp = tt
