-- What is printed of a table, and why one is not printed.
use Rattle.std.specs.Prelude.{ℕ, Bool, cond, List, [], ◌∷◌, ◌++◌, codes, decimal, Option, Some, None}
use Rattle.airy_math.specs.Rational.{ℚ}
use Rattle.airy_math.specs.Keys.{Key}
use Rattle.airy_math.specs.declared.Shape.{Shape}
use Rattle.airy_math.specs.Tensors.{Tensors}
use Rattle.airy_math.specs.Planned.{planned}
use Rattle.airy_math.specs.Ranks.{key_at}
use Rattle.airy_math.specs.Cuts.{letter_of}
use Rattle.airy_index.specs.Text.{key_text}
use Rattle.sparse_tensor.specs.Entries.{Entries, looked_up}
use Rattle.amp_plan.specs.Plans.{Planning}
use Rattle.amp_plan.specs.Plans as plans
use Rattle.amp_plan.specs.Limits.{Limit, Within, PassesBound, PassesCells, PassesNeeds, limit}
use Rattle.amp_plan.specs.declared.PlanCause.{PlanCause}
use Rattle.amp_plan.specs.declared.PlanCause.TheVariants as cause
use Rattle.amp_terms.specs.declared.Outcome.{Outcome}
use Rattle.amp_terms.specs.Outcomes.{outcomes}
use Rattle.amp_terms.specs.Tables.{full_table, value_of_cell}
use Rattle.amp_terms.specs.Text.{value_text}
use Rattle.frac128.specs.Fraction.{fraction_text}
use Rattle.series_law.specs.Check.{Verdict, Solution, NotValue, Overflow, Orders, check}
use Rattle.run_reports.specs.Report.{Report, refusal, bound_refused, out_of_memory}

-- the line of a key with its Value: `KEY VALUE`
unfoldable pub row_text : Bool → Shape → Key → Option ℚ → List ℕ
row_text letter shape key None = []
row_text letter shape key (Some v) = key_text key ++ codes " " ++ value_text v (cond letter (letter_of shape key) 0) ++ codes "\n"

-- the lines of a table, one for each key with a Value
unfoldable pub rows_text : Bool → Shape → List Key → List (Option Outcome) → List ℕ
rows_text letter shape [] cells = []
rows_text letter shape (key ∷ keys) [] = []
rows_text letter shape (key ∷ keys) (cell ∷ cells) = row_text letter shape key (value_of_cell cell) ++ rows_text letter shape keys cells

-- a pivot of a key: `KEY first I`
unfoldable pub pivot_text : Key → ℕ → List ℕ
pivot_text key i = key_text key ++ codes " first " ++ decimal i

-- two of its pivots with their numbers: `KEY first I gives V1, first J gives V2`
unfoldable pub orders_text : Key → ℕ → ℚ → ℕ → ℚ → List ℕ
orders_text key i a j b =
    pivot_text key i ++ codes " gives " ++ fraction_text a ++ codes ", first " ++ decimal j ++ codes " gives " ++ fraction_text b

-- what is said where a number of a table leaves the range, and where two index orders of a key differ
abbrev pub over_at : List ℕ → Report
over_at which = record { status = 6; bytes = refusal (codes "over at ") which }

abbrev pub orders_differ : Key → ℕ → ℚ → ℕ → ℚ → Report
orders_differ key i a j b = record { status = 7; bytes = refusal [] (orders_text key i a j b) }

-- What the check of every pivot of a table leads to: the whole table; or the first key without a Value; or the first pivot whose sum
-- leaves the range; or the first two index orders with differing numbers.
unfoldable pub checked_report : Bool → Shape → List Key → List (Option Outcome) → Verdict → Report
checked_report letter shape keys cells Solution = record { status = 0; bytes = rows_text letter shape keys cells }
checked_report letter shape keys cells (NotValue r) = over_at (key_text (key_at keys r))
checked_report letter shape keys cells (Overflow key i) = over_at (pivot_text key i)
checked_report letter shape keys cells (Orders key i a j b) = orders_differ key i a j b

-- what the check finds in the table of T up to X
unfoldable pub verdict_of : Tensors → ℕ → Verdict
verdict_of T X = check T X (outcomes T X)

unfoldable pub cells_report : Bool → Tensors → ℕ → Report
cells_report letter T X = checked_report letter T.shape (planned T X) (full_table T X) (verdict_of T X)

-- a plan beyond its limits, or what its cells give
unfoldable pub plan_report : ℕ → Limit → Report → Report
plan_report X Within cells = cells
plan_report X PassesBound cells = bound_refused X
plan_report X (PassesCells level) cells = record { status = 5; bytes = refusal (codes "cells at level ") (decimal level) }
plan_report X (PassesNeeds key) cells = record { status = 5; bytes = refusal (codes "needs at ") (key_text key) }

-- tensors whose numbers leave the range, or what comes next where none does
unfoldable pub making_report : Option ℕ → Report → Report
making_report None next = next
making_report (Some k) next = record { status = 6; bytes = refusal (codes "over in c ") (decimal k) }

-- ---- what the code's parts write

-- the line of a rank, the lines of a table, and the report of the cells, of a plan
abbrev pub rank_text : Planning → ℕ → Option ℚ → List ℕ
rank_text p r v = row_text p.tensors.letter p.tensors.shape (plans.key_at p r) v

abbrev pub table_text : Planning → List (Option Outcome) → List ℕ
table_text p cells = rows_text p.tensors.letter p.tensors.shape (plans.keys_of p) cells

abbrev pub plan_cells : Planning → Report
plan_cells p = cells_report p.tensors.letter (plans.tensors_of p) p.bound

-- a plan's cause
unfoldable pub cause_report : PlanCause → Report
cause_report (cause.Bound got) = bound_refused got
cause_report (cause.Cells level) = record { status = 5; bytes = refusal (codes "cells at level ") (decimal level) }
cause_report (cause.Edges key) = record { status = 5; bytes = refusal (codes "needs at ") (key_text key) }
cause_report cause.NoMemory = out_of_memory

-- what a plan of stored tensors up to X leads to
unfoldable pub stored_report : Entries → ℕ → Report
stored_report t X = plan_report X (limit (looked_up t) X) (cells_report t.letter (looked_up t) X)
