-- In which form a whole table is printed; and its summary.
use Rattle.std.specs.Prelude.{ℕ, ◌-◌, ◌==◌, Bool, cond, length, List, [], ◌++◌, codes, decimal, Option, Some, None}
use Rattle.airy_math.specs.Rational.{ℚ}
use Rattle.airy_math.specs.Keys.{Key, total}
use Rattle.airy_math.specs.declared.Shape.{Shape}
use Rattle.airy_math.specs.Tensors.{Tensors}
use Rattle.airy_math.specs.Planned.{planned}
use Rattle.airy_math.specs.Ranks.{key_at}
use Rattle.amp_plan.specs.Needs.{need_counts, edges_of}
use Rattle.amp_plan.specs.Plans.{Planning}
use Rattle.amp_plan.specs.Plans as plans
use Rattle.amp_terms.specs.declared.Outcome.{Outcome}
use Rattle.amp_terms.specs.Tables.{full_table, value_at}
use Rattle.sparse_tensor.specs.Entries.{Entries}
use Rattle.run_reports.specs.Report.{Report}
use Rattle.run_reports.specs.Tables.{row_text, plan_cells, stored_report, table_text}

-- `cells N` and the like
unfoldable pub count_text : List ℕ → ℕ → List ℕ
count_text what n = what ++ decimal n ++ codes "\n"

-- the line of a key with its Value, named the last
unfoldable pub last_text : Bool → Shape → Key → Option ℚ → List ℕ
last_text letter shape key None = []
last_text letter shape key (Some v) = codes "last " ++ row_text letter shape key (Some v)

-- that of the last key of a table
unfoldable pub last_of : Bool → Shape → List Key → List (Option Outcome) → List ℕ
last_of letter shape keys cells = last_text letter shape (key_at keys (length keys - 1)) (value_at cells (length keys - 1))

-- The summary of the whole table of T up to X: how many keys it has, how many needs these have, the last key with its Value, and that it is
-- a solution.
unfoldable pub summary_text : Bool → Tensors → ℕ → List ℕ
summary_text letter T X =
    count_text (codes "cells ") (length (planned T X)) ++ (count_text (codes "needs ") (total (need_counts T X))
    ++ (last_of letter T.shape (planned T X) (full_table T X) ++ codes "solution\n"))

-- a report, with other bytes in the place of those of status 0
unfoldable pub in_place : List ℕ → Report → Report
in_place bytes report = cond (report.status == 0) (record { status = 0; bytes = bytes }) report

-- the same refusals, and in the place of a whole table its summary
abbrev pub summed : Bool → Tensors → ℕ → Report → Report
summed letter T X report = in_place (summary_text letter T X) report

-- ---- what the code's parts write

-- the report of a plan's cells, and of the plan of stored tensors up to X, with what a form has of the plan in the place of a whole table
abbrev pub formed_cells : (Planning → List ℕ) → Planning → Report
formed_cells bytes p = in_place (bytes p) (plan_cells p)

abbrev pub formed_stored : (Planning → List ℕ) → Entries → ℕ → Report
formed_stored bytes t X = in_place (bytes (record { tensors = t; bound = X })) (stored_report t X)

-- the lines of a plan's whole table
abbrev pub plan_rows : Planning → List ℕ
plan_rows p = table_text p (full_table (plans.tensors_of p) p.bound)

abbrev pub plan_summary : Planning → List ℕ
plan_summary p = summary_text p.tensors.letter (plans.tensors_of p) p.bound

abbrev pub plan_last : Planning → List (Option Outcome) → List ℕ
plan_last p cells = last_of p.tensors.letter p.tensors.shape (plans.keys_of p) cells

-- the lines behind the first
abbrev pub plan_rest : Planning → List (Option Outcome) → List ℕ
plan_rest p cells = count_text (codes "needs ") (edges_of p) ++ (plan_last p cells ++ codes "solution\n")

abbrev pub rank_last : Planning → ℕ → Option ℚ → List ℕ
rank_last p r v = last_text p.tensors.letter p.tensors.shape (plans.key_at p r) v
