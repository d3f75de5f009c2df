-- What is printed of stored tensors is what is printed of those that they stand for.
use Rattle.std.proofs.Common.{◌≡◌, ℕ, ap, ◌∙◌, Bool, List, Some, map}
use Rattle.run_reports.proofs.Names.{BelowDimLaw, Key, planned, PlanLaw, Tensors, SameEntries, Shape, Limit, limit, Outcome, outcomes, full_table, check, SameTablesLaw, Entries, looked_up, Report, checked_report, verdict_of, cells_report, plan_report, stored_report}
use Rattle.series_law.specs.Check.{Verdict}
use Rattle.amp_plan.proofs.SameLimits.{limit_same}

same_parts : (l m : Bool) (s t : Shape) (ks js : List Key) (os ps : List Outcome) (v w : Verdict) → l ≡ m → s ≡ t → ks ≡ js → os ≡ ps → v ≡ w
    → checked_report l s ks (map Some os) v ≡ checked_report m t js (map Some ps) w
same_parts l m s t ks js os ps v w a b c d e = cc

-- the check of the table of stored tensors is that of the tensors that they stand for
same_verdicts : (t : Entries) (T : Tensors) (X : ℕ) → SameTablesLaw → SameEntries (looked_up t) T → verdict_of (looked_up t) X ≡ verdict_of T X
unfolding verdict_of
same_verdicts t T X tables same =
    let tables = tables (looked_up t) T same X in
    tables.check (outcomes (looked_up t) X) ∙ ap (check T X) tables.outcomes

same_cells : (t : Entries) (T : Tensors) (letter : Bool) (X : ℕ) → BelowDimLaw → SameTablesLaw → SameEntries (looked_up t) T → t.letter ≡ letter → cells_report t.letter (looked_up t) X ≡ cells_report letter T X
unfolding cells_report full_table
same_cells t T letter X below tables same stored =
    same_parts t.letter letter (looked_up t).shape T.shape (planned (looked_up t) X) (planned T X) (outcomes (looked_up t) X) (outcomes T X) (verdict_of (looked_up t) X) (verdict_of T X)
    stored same.shape ((below (looked_up t) T same).plan X) (tables (looked_up t) T same X).outcomes (same_verdicts t T X tables same)

pub same_limit : (t : Entries) (T : Tensors) (X : ℕ) → PlanLaw → BelowDimLaw → SameEntries (looked_up t) T → limit (looked_up t) X ≡ limit T X
same_limit t T X once below same = limit_same (looked_up t) T X once (below (looked_up t) T same)

-- the report of stored tensors is that of the plan of those that they stand for
pub stored_same : (t : Entries) (T : Tensors) (letter : Bool) (X : ℕ) → PlanLaw → BelowDimLaw → SameTablesLaw → SameEntries (looked_up t) T → t.letter ≡ letter
    → stored_report t X ≡ plan_report X (limit T X) (cells_report letter T X)
unfolding stored_report
stored_same t T letter X once below tables same stored = joined (same_limit t T X once below same) (same_cells t T letter X below tables same stored)
  where
    joined : {l m : Limit} {r s : Report} → l ≡ m → r ≡ s → plan_report X l r ≡ plan_report X m s
    joined a b = cc
