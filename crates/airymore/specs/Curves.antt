-- What is printed of a curve, and what it says of every solution of the curve's differential constraints.
use Rattle.std.specs.Prelude.{◌≡◌, ◌≢◌, ◌⊎◌, ℕ, suc, ◌+◌, ◌*◌, ◌<◌, ◌≤◌, IsTrue, true}
use Rattle.std.specs.Prelude.{false, cond, List, [], ◌++◌, codes, length, get_or, Some, None}
use Rattle.std.specs.List.{concat}
use Rattle.airy_math.specs.Rational.{ℚ}
use Rattle.airy_math.specs.RationalLaws.{0ℚ}
use Rattle.airy_math.specs.Cuts.{outer}
use Rattle.airy_math.specs.Families.{top_wk}
use Rattle.airy_math.specs.Keys.{Key, IsSortedFrom}
use Rattle.airy_math.specs.Planned.{planned}
use Rattle.airy_math.specs.Ranks.{key_at}
use Rattle.airy_math.specs.Relations.{Close}
use Rattle.airy_math.specs.Series.{Series}
use Rattle.airy_math.specs.Shapes.{covers}
use Rattle.airy_math.specs.Solutions.{Solves, amplitude}
use Rattle.airy_math.specs.Tensors.{Tensors}
use Rattle.airy_index.specs.Text.{key_text}
use Rattle.frac128.specs.Fraction.{fraction_text}
use Rattle.airy_relations.specs.Verdicts.{verdict}
use Rattle.airy_math.specs.Curves.{curve, curve_shape, number_of, of_list, whole_curve}
use Rattle.airy_curve.specs.Steps.{curve_refusal}
use Rattle.airy_curve.specs.declared.making.CurveErr.{CurveErr}
use Rattle.airy_curve.specs.declared.making.CurveErr.TheVariants as error
use Rattle.amp_plan.specs.Limits.{Within, limit}
use Rattle.amp_terms.specs.Outcomes.{outcomes}
use Rattle.amp_terms.specs.Tables.{full_table}
use Rattle.series_law.specs.Check.{Solution, NotValue, Overflow, Orders}
use Rattle.series_law.specs.Uniqueness.{series_of}
use Rattle.command_words.specs.Bounds.{is_bound}
use Rattle.run_reports.specs.Report.{Report, bound_refused, out_of_memory}
use Rattle.run_reports.specs.Relations.{relations_report, closed}
use Rattle.run_reports.specs.Tables.{rows_text, making_report, plan_report, cells_report, over_at, pivot_text, orders_differ, verdict_of}

-- ---- what is written

-- the tensors of the curve of the numbers us with all indices and exponents up to the top of the bound X: those of its table's plan
unfoldable pub curve_tensors : List ℚ → ℕ → Tensors
curve_tensors us X = curve (number_of (of_list us)) (suc (top_wk X)) (top_wk X)

-- What `curve` writes and answers, where memory isn't wanting: the line of the first step that refuses, or the whole table. The steps are
-- the bound, the numbers and entries of the curve, the plan, the cells, and the check of every pivot.
unfoldable pub curve_report : List ℚ → ℕ → Report
curve_report us X =
    let T = curve_tensors us X in
    cond (is_bound X)
    (making_report (curve_refusal (of_list us) (suc (top_wk X)) (top_wk X)) (plan_report X (limit T X) (cells_report false T X)))
    (bound_refused X)

-- the lines of the whole table
unfoldable pub curve_lines : List ℚ → ℕ → List ℕ
curve_lines us X = let T = curve_tensors us X in rows_text false curve_shape (planned T X) (full_table T X)

-- nothing refuses the table before its cells: neither the bound, nor a number or an entry of the curve, nor the limits of the plan
pub record IsCurveMade (us : List ℚ) (X : ℕ) : Type 0 where
  pub bounded : is_bound X ≡ true
  pub made : curve_refusal (of_list us) (suc (top_wk X)) (top_wk X) ≡ None
  pub within : limit (curve_tensors us X) X ≡ Within

-- What the report of a curve's table is, by the first step that refuses it.
pub data CurveStep (us : List ℚ) (X : ℕ) (report : Report) : Type 0 where
  -- the bound, 5
  outside : is_bound X ≡ false → report ≡ bound_refused X → CurveStep us X report
  -- a number or an entry of the curve, 6
  unmade : is_bound X ≡ true → (k : ℕ) → curve_refusal (of_list us) (suc (top_wk X)) (top_wk X) ≡ Some k
      → report ≡ making_report (Some k) out_of_memory → CurveStep us X report
  -- the limits of the plan, 5
  limited : is_bound X ≡ true → curve_refusal (of_list us) (suc (top_wk X)) (top_wk X) ≡ None → limit (curve_tensors us X) X ≢ Within
      → report.status ≡ 5 → CurveStep us X report
  -- a key without a Value, or a pivot whose sum leaves the range, 6
  blank : IsCurveMade us X → (r : ℕ) → verdict_of (curve_tensors us X) X ≡ NotValue r
      → report ≡ over_at (key_text (key_at (planned (curve_tensors us X) X) r)) → CurveStep us X report
  over : IsCurveMade us X → (key : Key) (i : ℕ) → verdict_of (curve_tensors us X) X ≡ Overflow key i
      → report ≡ over_at (pivot_text key i) → CurveStep us X report
  -- two index orders that differ, 7
  orders : IsCurveMade us X → (key : Key) (i : ℕ) (a : ℚ) (j : ℕ) (b : ℚ) → verdict_of (curve_tensors us X) X ≡ Orders key i a j b
      → report ≡ orders_differ key i a j b → CurveStep us X report
  -- the whole table, 0
  whole : IsCurveMade us X → verdict_of (curve_tensors us X) X ≡ Solution
      → report ≡ record { status = 0; bytes = curve_lines us X } → CurveStep us X report

-- The report is that of its first step that refuses; exactly one does, or none and the table is whole.
abbrev pub CurveStepsLaw : Type 0
CurveStepsLaw = (us : List ℚ) (X : ℕ) → CurveStep us X (curve_report us X)

-- the tensors in which the relations are checked in the places below N
unfoldable pub curve_below : List ℚ → ℕ → Tensors
curve_below us N = curve (number_of (of_list us)) (2 * N + 1) (2 * N + 1)

-- What `curve-relations` writes and answers, where memory isn't wanting.
unfoldable pub curve_relations_report : List ℚ → ℕ → Report
curve_relations_report us N =
    making_report (curve_refusal (of_list us) (2 * N + 1) (2 * N + 1)) (relations_report (verdict (curve_below us N) N) closed)

-- why the tensors of a curve aren't made
unfoldable pub curve_error : CurveErr → Report
curve_error (error.Over k) = making_report (Some k) out_of_memory
curve_error error.NoMemory = out_of_memory

-- ---- what it says

-- f is a solution up to X of the whole curve with all indices up to M, which is at least the greatest index of its table.
pub record IsCurveSolution (us : List ℚ) (X M : ℕ) (f : Series) : Type 0 where
  pub wide : top_wk X ≤ M
  pub solves : Solves (whole_curve (number_of (of_list us)) M) X f

-- The line `KEY VALUE` of a key: the value is the key's amplitude in every solution up to X, at every M.
pub record IsCurveLine (us : List ℚ) (X : ℕ) (key : Key) (line : List ℕ) : Type 0 where
  pub value : ℚ
  pub text : line ≡ key_text key ++ codes " " ++ fraction_text value ++ codes "\n"
  pub shown : (M : ℕ) (f : Series) → IsCurveSolution us X M f → amplitude (suc M) f key ≡ value

-- For the table of the curve of the numbers us up to the Euler number X, and the bytes that are printed of it.
pub record CurveHeadline (us : List ℚ) (X : ℕ) (bytes : List ℕ) : Type 0 where
  -- The bytes are lines, one for each planned key in plan order; the line at a rank shows the amplitude of that rank's key.
  pub lines : List (List ℕ)
  pub whole : length lines ≡ length (planned (curve_tensors us X) X)
  pub bytes_are : bytes ≡ concat lines
  pub printed : (r : ℕ) → r < length lines → IsCurveLine us X (key_at (planned (curve_tensors us X) X) r) (get_or lines r [])
  -- Every solution up to X is 0 where the shape does not cover the key or an index is beyond the table's.
  pub zeros : (M : ℕ) (f : Series) → IsCurveSolution us X M f → (key : Key) → IsSortedFrom 0 (suc M) key.idx
      → (covers curve_shape key ≡ false) ⊎ (0 < outer (suc (top_wk X)) key.idx) → amplitude (suc M) f key ≡ 0ℚ
  -- And the table is itself such a solution, at every M: the series whose amplitude at each key is the key's Value, and 0 at every other.
  pub solution : (M : ℕ) → top_wk X ≤ M → IsCurveSolution us X M (series_of (curve_tensors us X) X (outcomes (curve_tensors us X) X))

-- What is said of the curve of the numbers us where two index orders of a key have numbers that differ.
pub record CurveHasTwoOrders (us : List ℚ) (X : ℕ) (bytes : List ℕ) : Type 0 where
  pub key : Key
  pub first : ℕ
  pub v1 : ℚ
  pub second : ℕ
  pub v2 : ℚ
  pub named : bytes ≡ (orders_differ key first v1 second v2).bytes
  -- These are the first two that the check of every pivot finds, and they differ.
  pub found : verdict_of (curve_tensors us X) X ≡ Orders key first v1 second v2
  pub differ : v1 ≡ v2 → ⊥
  -- No series solves the curve up to X, at any M.
  pub unsolvable : (M : ℕ) (f : Series) → IsCurveSolution us X M f → ⊥

-- What `curve` leads to: its report, or, at a bound within its limits, want of memory. A printed table has the headline: each number is
-- that of every solution, and the table is a solution. Where two index orders differ, there is none.
pub record LeadsToCurve (us : List ℚ) (X : ℕ) (report : Report) : Type 0 where
  pub said : (report ≡ curve_report us X) ⊎ (IsTrue (is_bound X) × (report ≡ out_of_memory))
  pub headline : report.status ≡ 0 → CurveHeadline us X report.bytes
  pub unsolvable : report.status ≡ 7 → CurveHasTwoOrders us X report.bytes

-- What `curve-relations` leads to: its report, or want of memory. The relations hold in all places below N, whatever the numbers are: so
-- it never answers 4.
pub record LeadsToCurveRelations (us : List ℚ) (N : ℕ) (report : Report) : Type 0 where
  pub said : (report ≡ curve_relations_report us N) ⊎ (report ≡ out_of_memory)
  pub holds : Close (curve_below us N) N
  pub never : report.status ≢ 4
