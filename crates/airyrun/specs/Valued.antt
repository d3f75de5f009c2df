-- For private functions and for proofs: no public contract rests on this file.
-- The table that a number or a volume is read off: that of a structure, in which each key has a Value.
use Rattle.std.specs.Prelude.{◌≡◌, ◌≢◌, ◌⊎◌, ℕ, List, Option, None}
use Rattle.airy_math.specs.Planned.{planned}
use Rattle.airy_math.specs.Jobs.{Structure}
use Rattle.amp_plan.specs.Limits.{limit}
use Rattle.amp_plan.specs.Plans.{Planning, keys_of, tensors_of}
use Rattle.amp_terms.specs.declared.Outcome.{Outcome}
use Rattle.amp_terms.specs.Tables.{full_table, first_without}
use Rattle.sparse_tensor.specs.Entries.{Entries, looked_up}
use Rattle.run_reports.specs.Report.{Report, out_of_memory}
use Rattle.run_reports.specs.Tables.{plan_report}
use Rattle.run_reports.specs.StructureTables.{ArePlanned}
use Rattle.airyrun.specs.Numbers.{first_report, valued_report}

-- what comes next where each key of a plan has a Value
abbrev pub plan_valued : Planning → Report → Report
plan_valued p next = first_report (keys_of p) (first_without (full_table (tensors_of p) p.bound)) next

-- the same of stored tensors, where their plan is made
abbrev pub stored_valued : Entries → ℕ → Report → Report
stored_valued t X next =
    plan_report X (limit (looked_up t) X) (first_report (planned (looked_up t) X) (first_without (full_table (looked_up t) X)) next)

-- A report that refuses whatever comes next: it is what stands there for every next report, or memory is wanting.
pub record Refuses (leads : Report → Report) (report : Report) : Type 0 where
  pub not_whole : report.status ≢ 0
  pub said : (report ≡ out_of_memory) ⊎ ((next : Report) → leads next ≡ report)

-- the plan came back, with its whole table, in which each key has a Value
pub record IsFilled (p back : Planning) (cells : List (Option Outcome)) : Type 0 where
  pub plan : back ≡ p
  pub table : cells ≡ full_table (tensors_of p) p.bound
  pub valued : first_without cells ≡ None

-- the same of the plan of stored tensors
pub record IsStored (t : Entries) (X : ℕ) (p : Planning) (cells : List (Option Outcome)) : Type 0 where
  pub filled : IsFilled (record { tensors = t; bound = X }) p cells
  pub next : (next : Report) → stored_valued t X next ≡ next

-- and of a structure
pub record IsValued (s : Structure) (X : ℕ) (p : Planning) (cells : List (Option Outcome)) : Type 0 where
  pub planned : ArePlanned p.tensors s X
  pub bound : p.bound ≡ X
  pub table : cells ≡ full_table (tensors_of p) p.bound
  pub valued : first_without cells ≡ None
  pub next : (next : Report) → valued_report s X next ≡ next
