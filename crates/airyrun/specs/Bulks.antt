-- What is printed of a large structure that is made from a number, and what it is of every solution.
use Rattle.std.specs.Prelude.{◌≡◌, ◌≢◌, ◌⊎◌, ℕ, IsTrue, false, cond, codes, decimal, Option, Some, None}
use Rattle.airy_math.specs.Jobs.{Structure, Bulk}
use Rattle.airy_math.specs.Relations.{Close}
use Rattle.airy_relations.specs.Verdicts.{verdict}
use Rattle.bulk_tensors.specs.Bulk.{bulk, bulk_refusal}
use Rattle.bulk_tensors.specs.declared.full_tensors.BulkErr.{BulkErr}
use Rattle.bulk_tensors.specs.declared.full_tensors.BulkErr.TheVariants as error
use Rattle.run_reports.specs.Report.{Report, refusal, bound_refused, out_of_memory}
use Rattle.run_reports.specs.Relations.{relations_report}
use Rattle.run_reports.specs.StructureTables.{is_bound, table_report}
use Rattle.run_reports.specs.Structures.{whole_table}
use Rattle.sparse_tensor.specs.Entries.{Entries, looked_up}
use Rattle.run_reports.specs.Forms.{summed, formed_stored, plan_summary}
use Rattle.run_reports.specs.Headline.{Headline}

-- the structure of a seed and a dim
abbrev pub bulk_structure : ℕ → ℕ → Structure
bulk_structure seed dim = Bulk (bulk seed dim)

-- a change of basis at which a step leaves the range, or what comes next where none does
unfoldable pub changes_report : Option ℕ → Report → Report
changes_report None next = next
changes_report (Some q) next = record { status = 6; bytes = refusal (codes "over in change ") (decimal q) }

-- What `bulk` writes and answers, where memory isn't wanting: the refusals of its tensors' making, of their relations, and of their table;
-- or the table's summary.
unfoldable pub bulk_report : ℕ → ℕ → ℕ → Report
bulk_report seed dim X =
    let T = bulk seed dim in
    cond (is_bound X)
    (changes_report (bulk_refusal seed dim) (relations_report (verdict T dim) (summed false T X (table_report (Bulk T) X))))
    (bound_refused X)

-- why the tensors of a seed aren't made
unfoldable pub bulk_error : BulkErr → Report
bulk_error (error.Over q) = record { status = 6; bytes = refusal (codes "over in change ") (decimal q) }
bulk_error error.NoMemory = out_of_memory

-- what stored tensors lead to: the refusal of their relations, or the summary of their table
unfoldable pub closed_summary : Entries → ℕ → Report
closed_summary t X = relations_report (verdict (looked_up t) t.dim) (formed_stored plan_summary t X)

-- What `bulk` leads to: its report, or, at a bound within its limits, want of memory. Where the summary is printed the relations hold, and
-- the table that it is of has the headline. Where they hold, no two index orders differ: so it never answers 7.
pub record LeadsToBulk (seed dim X : ℕ) (report : Report) : Type 0 where
  pub said : (report ≡ bulk_report seed dim X) ⊎ (IsTrue (is_bound X) × (report ≡ out_of_memory))
  pub headline : report.status ≡ 0 → Headline (bulk_structure seed dim) X (whole_table (bulk_structure seed dim) X)
  pub accepted : report.status ≡ 0 → Close (bulk seed dim) dim
  pub never : report.status ≢ 7
