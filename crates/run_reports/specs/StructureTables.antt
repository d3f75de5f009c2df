-- What the table of a structure writes and answers.
use Rattle.std.specs.Prelude.{ℕ, suc, ◌≡◌, ◌≢◌, ◌⊎◌, IsTrue, true, false, cond, Option, Some, None}
use Rattle.airy_math.specs.declared.Family.{Family}
use Rattle.airy_math.specs.declared.Family.TheVariants as family
use Rattle.airy_math.specs.Families.{top_wk}
use Rattle.airy_math.specs.Tensors.{SameEntries}
use Rattle.airy_math.specs.Jobs.{Structure, Wk, Bgw, Wp, Bulk, Text, Lettered, planned_tensors}
use Rattle.sparse_tensor.specs.Entries.{Entries, looked_up}
use Rattle.named_families.specs.Steps.{wp_refusal}
use Rattle.named_families.specs.declared.petersson.MakeErr.{MakeErr}
use Rattle.named_families.specs.declared.petersson.MakeErr.TheVariants as make
use Rattle.airy_math.specs.Keys.{Key}
use Rattle.airy_math.specs.Rational.{ℚ}
use Rattle.airy_math.specs.Planned.{planned}
use Rattle.airy_math.specs.Ranks.{key_at}
use Rattle.airy_index.specs.Text.{key_text}
use Rattle.amp_plan.specs.Limits.{Within, limit}
use Rattle.series_law.specs.Check.{Solution, NotValue, Overflow, Orders}
use Rattle.airy_io.specs.Causes.{Taking}
unfoldable pub use Rattle.command_words.specs.Bounds.{is_bound}
use Rattle.run_reports.specs.Structures.{has_letter, whole_table}
use Rattle.run_reports.specs.Report.{Report, Ends, bound_refused, out_of_memory}
use Rattle.run_reports.specs.Tables.{cells_report, plan_report, making_report, verdict_of, pivot_text, over_at, orders_differ}

-- the structure of a family
unfoldable pub structure_of : Family → Structure
structure_of family.Wk = Wk
structure_of family.Bgw = Bgw
structure_of family.Wp = Wp

-- the number of Weil and Petersson at whose making a step leaves the range, where the table's tensors need one
unfoldable pub making_over : Structure → ℕ → Option ℕ
making_over Wk X = None
making_over Bgw X = None
making_over Wp X = wp_refusal (suc (top_wk X)) (top_wk X)
making_over (Bulk T) X = None
making_over (Text T) X = None
making_over (Lettered T) X = None

-- what the table of a structure up to X writes and answers, where memory isn't wanting
unfoldable pub table_report : Structure → ℕ → Report
table_report s X =
    cond (is_bound X)
    (making_report (making_over s X) (plan_report X (limit (planned_tensors s X) X) (cells_report (has_letter s) (planned_tensors s X) X)))
    (bound_refused X)

-- why a structure's tensors aren't made
unfoldable pub making_error : MakeErr → Report
making_error (make.Over k) = making_report (Some k) out_of_memory
making_error make.NoMemory = out_of_memory

-- a run of the table of a structure: it ends with that report, or, at a bound within its limits, memory is wanting
abbrev pub EndsTable : Structure → ℕ → Taking → Taking → ℕ → Type 0
EndsTable s X before now result = Ends (table_report s X) before now result ⊎ (IsTrue (is_bound X) × Ends out_of_memory before now result)

-- The stored tensors are those of a structure's plan up to X, as far as their indices go.
pub record ArePlanned (t : Entries) (s : Structure) (X : ℕ) : Type 0 where
  pub entries : SameEntries (looked_up t) (planned_tensors s X)
  pub letter : t.letter ≡ has_letter s

-- ---- the statuses of a table

-- nothing refuses the table before its cells: neither the bound, nor the making of its tensors, nor the limits of its plan
pub record IsMade (s : Structure) (X : ℕ) : Type 0 where
  pub bounded : is_bound X ≡ true
  pub made : making_over s X ≡ None
  pub within : limit (planned_tensors s X) X ≡ Within

-- What the report of a table is, by the first step that refuses it.
pub data Step (s : Structure) (X : ℕ) (report : Report) : Type 0 where
  -- the bound, 5
  outside : is_bound X ≡ false → report ≡ bound_refused X → Step s X report
  -- a number of Weil and Petersson, 6
  unmade : is_bound X ≡ true → (k : ℕ) → making_over s X ≡ Some k → report.status ≡ 6 → Step s X report
  -- the limits of the plan, 5
  limited : is_bound X ≡ true → making_over s X ≡ None → limit (planned_tensors s X) X ≢ Within → report.status ≡ 5 → Step s X report
  -- a key without a Value, or a pivot whose sum leaves the range, 6
  blank : IsMade s X → (r : ℕ) → verdict_of (planned_tensors s X) X ≡ NotValue r
      → report ≡ over_at (key_text (key_at (planned (planned_tensors s X) X) r)) → Step s X report
  over : IsMade s X → (key : Key) (i : ℕ) → verdict_of (planned_tensors s X) X ≡ Overflow key i
      → report ≡ over_at (pivot_text key i) → Step s X report
  -- two index orders that differ, 7
  orders : IsMade s X → (key : Key) (i : ℕ) (a : ℚ) (j : ℕ) (b : ℚ) → verdict_of (planned_tensors s X) X ≡ Orders key i a j b
      → report ≡ orders_differ key i a j b → Step s X report
  -- the whole table, 0
  whole : IsMade s X → verdict_of (planned_tensors s X) X ≡ Solution
      → report ≡ record { status = 0; bytes = whole_table s X } → Step s X report

-- Each table's report is that of its first step that refuses; exactly one does, or none and the table is whole.
abbrev pub TableStepsLaw : Type 0
TableStepsLaw = (s : Structure) (X : ℕ) → Step s X (table_report s X)
