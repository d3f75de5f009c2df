-- What `json` writes and answers: the JSON document of a structure's table; and what its values say of the solutions.
use Rattle.std.specs.Prelude.{◌≡◌, ◌≢◌, ◌⊎◌, ℕ, ◌<◌, ◌≤◌, cond, IsTrue, List, length, get_or}
use Rattle.airy_math.specs.Rational.{ℚ}
use Rattle.airy_math.specs.RationalLaws.{0ℚ}
use Rattle.airy_math.specs.Cuts.{letter_of}
use Rattle.airy_math.specs.Planned.{planned}
use Rattle.airy_math.specs.Ranks.{key_at}
use Rattle.airy_math.specs.Series.{Series}
use Rattle.airy_math.specs.Tensors.{Tensors}
use Rattle.airy_math.specs.Jobs.{Structure, IsSolutionOf, letter_value, planned_tensors, tensors_at}
use Rattle.sparse_tensor.specs.Entries.{Entries, looked_up}
use Rattle.amp_plan.specs.Plans.{Planning}
use Rattle.amp_plan.specs.Plans as plans
use Rattle.amp_terms.specs.Tables.{full_table}
use Rattle.series_law.specs.Pivots.{Shown}
use Rattle.command_words.specs.Bounds.{is_bound}
use Rattle.airy_json.specs.Document.{document_text, values_in}
use Rattle.airy_json.specs.Reading.{Kind, named, text, kind_text}
use Rattle.airy_json.specs.Verifying.{as_table}
use Rattle.airy_json.specs.Verified.{job_series}
use Rattle.run_reports.specs.Report.{Report, out_of_memory}
use Rattle.run_reports.specs.Forms.{in_place}
use Rattle.run_reports.specs.Tables.{stored_report}
use Rattle.run_reports.specs.StructureTables.{structure_of, table_report}
use Rattle.run_reports.specs.Structures.{text_structure, has_letter, AreClosed, IsOwn}
use Rattle.run_reports.specs.Relations.{of_relations}
use Rattle.run_reports.specs.Headline.{ShowsNumber, HasTwoOrders}

-- the structure of a kind
unfoldable pub structure_of_kind : Kind → Structure
structure_of_kind (named family) = structure_of family
structure_of_kind (text t) = text_structure t

-- the document of the table of T up to X, of the kind with this text
unfoldable pub table_document : List ℕ → Tensors → ℕ → List ℕ
table_document kind T X = document_text kind X (planned T X) (values_in (full_table T X))

-- what `json` writes and answers of a kind's structure: what `table` does, with the document in the place of the lines
unfoldable pub json_report : Kind → ℕ → Report
json_report kind X =
    in_place (table_document (kind_text kind) (planned_tensors (structure_of_kind kind) X) X) (table_report (structure_of_kind kind) X)

-- ---- what values say

-- Values, one for each planned key in plan order, are the amplitudes of a solution of the structure s up to X, and of every one.
pub record ValuesHeadline (s : Structure) (X : ℕ) (values : List ℚ) : Type 0 where
  pub whole : length values ≡ length (planned (planned_tensors s X) X)
  -- The value at a rank, times the letter's power, is the amplitude of that rank's key in every solution.
  pub shown : (r : ℕ) → r < length values
      → let key = key_at (planned (planned_tensors s X) X) r in
      ShowsNumber s X X key (get_or values r 0ℚ) (cond (has_letter s) (letter_of (planned_tensors s X).shape key) 0)
  -- Every solution up to X, at every dim m from the table's on and with every fraction v in the place of the letter, has these numbers,
  -- and 0 where the shape does not cover the key or an index is beyond the table's.
  pub unique : (m : ℕ) (v : ℚ) (f : Series) → IsSolutionOf s X m v f
      → Shown X (letter_value s v) (planned_tensors s X) (tensors_at s m v) (as_table values) f
  -- And they are such a solution, at every dim and fraction: the series whose amplitude at each key is its value times the letter's power.
  pub solution : (m : ℕ) (v : ℚ) → (planned_tensors s X).dim ≤ m → IsSolutionOf s X m v (job_series s X v values)

-- A written document: its values, and what they say.
pub record DocumentHeadline (kind : Kind) (X : ℕ) (bytes : List ℕ) : Type 0 where
  pub values : List ℚ
  pub bytes_are : bytes ≡ document_text (kind_text kind) X (planned (planned_tensors (structure_of_kind kind) X) X) values
  pub headline : ValuesHeadline (structure_of_kind kind) X values

-- ---- what the command leads to

-- What the document of a kind leads to: its report, or, at a bound within its limits, want of memory. A written document has the headline;
-- where two index orders differ, there is no solution.
pub record LeadsToDocument (kind : Kind) (X : ℕ) (whole report : Report) : Type 0 where
  pub said : (report ≡ whole) ⊎ (IsTrue (is_bound X) × (report ≡ out_of_memory))
  pub headline : report.status ≡ 0 → DocumentHeadline kind X report.bytes
  pub unsolvable : report.status ≡ 7 → HasTwoOrders (structure_of_kind kind) X report.bytes

-- what `json - X` writes and answers of a text's entries, at a bound within its limits
unfoldable pub text_document : ℕ → Entries → Report
text_document X t = of_relations t (json_report (text t) X)

-- The document of a text's entries: where it is written, the relations hold, and where they hold, no two index orders differ.
pub record LeadsToTextDocument (X : ℕ) (t : Entries) (report : Report) : Type 0 where
  pub document : LeadsToDocument (text t) X (text_document X t) report
  pub own : IsOwn X t
  pub accepted : report.status ≡ 0 → AreClosed t
  pub never : report.status ≢ 7

-- ---- what the code's parts write

-- the document of stored tensors up to X, of the kind with this text
unfoldable pub stored_document : List ℕ → Entries → ℕ → Report
stored_document kind t X = in_place (table_document kind (looked_up t) X) (stored_report t X)

-- that of the table of a plan
abbrev pub plan_document : List ℕ → Planning → List ℕ
plan_document kind p = table_document kind (plans.tensors_of p) p.bound
