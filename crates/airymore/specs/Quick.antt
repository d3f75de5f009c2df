-- What the table of a text whose relations hold writes and answers, without a look at any further pivot.
use Rattle.std.specs.Prelude.{◌≡◌, ◌≢◌, ◌⊎◌, ℕ, IsTrue, Bool, Option, Some, None}
use Rattle.airy_math.specs.Tensors.{Tensors}
use Rattle.airy_math.specs.Planned.{planned}
use Rattle.airy_math.specs.Ranks.{key_at}
use Rattle.airy_index.specs.Text.{key_text}
use Rattle.sparse_tensor.specs.Entries.{Entries, looked_up}
use Rattle.amp_plan.specs.Limits.{limit}
use Rattle.amp_plan.specs.Plans.{Planning}
use Rattle.amp_plan.specs.Plans as plans
use Rattle.amp_terms.specs.Tables.{first_without, full_table}
use Rattle.command_words.specs.Bounds.{is_bound}
use Rattle.run_reports.specs.Report.{Report, out_of_memory}
use Rattle.run_reports.specs.Tables.{over_at, plan_report, rows_text}
use Rattle.run_reports.specs.Relations.{of_relations}
use Rattle.run_reports.specs.Structures.{text_structure, AreClosed, IsOwn}
use Rattle.run_reports.specs.Headline.{Headline}

-- the whole table of T up to X, or the first key without a Value, by the least rank without one
unfoldable pub valued_report : Bool → Tensors → ℕ → Option ℕ → Report
valued_report letter T X None = record { status = 0; bytes = rows_text letter T.shape (planned T X) (full_table T X) }
valued_report letter T X (Some r) = over_at (key_text (key_at (planned T X) r))

unfoldable pub quick_cells : Bool → Tensors → ℕ → Report
quick_cells letter T X = valued_report letter T X (first_without (full_table T X))

-- a plan beyond its limits, or what its cells give
unfoldable pub quick_table : ℕ → Entries → Report
quick_table X t = plan_report X (limit (looked_up t) X) (quick_cells t.letter (looked_up t) X)

-- what `quick` writes and answers of a text's entries, at a bound within its limits
unfoldable pub quick_report : ℕ → Entries → Report
quick_report X t = of_relations t (quick_table X t)

-- What the entries of a text lead to. Where a table is printed, the relations hold, and it has the headline: each number is that of every
-- solution, and the table is one. No two orders of a key's indices that differ are ever found.
pub record LeadsToQuick (X : ℕ) (t : Entries) (report : Report) : Type 0 where
  pub said : (report ≡ quick_report X t) ⊎ (IsTrue (is_bound X) × (report ≡ out_of_memory))
  pub headline : report.status ≡ 0 → Headline (text_structure t) X report.bytes
  pub own : IsOwn X t
  pub accepted : report.status ≡ 0 → AreClosed t
  pub never : report.status ≢ 7

-- ---- what the code's parts write

abbrev pub plan_quick : Planning → Report
plan_quick p = quick_cells p.tensors.letter (plans.tensors_of p) p.bound
