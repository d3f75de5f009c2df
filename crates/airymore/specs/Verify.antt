-- What `verify` writes and answers of a document, and what its end says of the values.
use Rattle.std.specs.Prelude.{◌≡◌, ℕ, ◌≤◌, List, [], ◌++◌, length, codes, decimal}
use Rattle.std.specs.Io.KnownBytes.{Consumes, IsAtEnd}
use Rattle.airy_io.specs.Causes.{Giving, Taking, Rose}
use Rattle.airy_math.specs.Rational.{ℚ}
use Rattle.airy_math.specs.Keys.{Key}
use Rattle.airy_math.specs.Cuts.{letter_of}
use Rattle.airy_math.specs.Solutions.{Solves}
use Rattle.airy_index.specs.Text.{key_text}
use Rattle.frac128.specs.Fraction.{fraction_text}
use Rattle.amp_plan.specs.Limits.{Limit, Within, PassesBound, PassesCells, PassesNeeds}
use Rattle.airy_json.specs.Reading.{Kind, kind_tensors, Answer, Long, NoJson, BadForm}
use Rattle.airy_json.specs.Reading.{BadKind, BadBound, Unmade, Unplanned, BadCell, Gives, answer_of}
use Rattle.airy_json.specs.Verifying.{verified}
use Rattle.airy_json.specs.Verified.{AreNoSolution, values_series}
use Rattle.airy_json.specs.declared.refusals.JsonErr.{JsonErr}
use Rattle.airy_json.specs.declared.refusals.JsonErr.TheVariants as json
use Rattle.airy_json.specs.declared.verify_ends.VerifyEnd.{VerifyEnd}
use Rattle.airy_json.specs.declared.verify_ends.VerifyEnd.TheVariants.{Solution, Over, Differs}
use Rattle.run_reports.specs.Report.{Report, refusal, bound_refused, out_of_memory}
use Rattle.run_reports.specs.Ends.{EndsBy}
use Rattle.run_reports.specs.Tables.{cause_report, over_at, pivot_text}
use Rattle.run_reports.specs.Texts.{read_fault, text_too_long}
use Rattle.airymore.specs.Documents.{structure_of_kind, ValuesHeadline}

-- a pivot whose sum is another number than the document's value: `KEY first I gives SUM, table has GIVEN`
unfoldable pub difference_text : Key → ℕ → ℚ → ℚ → List ℕ
difference_text key i sum given = pivot_text key i ++ codes " gives " ++ fraction_text sum ++ codes ", table has " ++ fraction_text given

-- what an end of the verification says
unfoldable pub verified_report : VerifyEnd → Report
verified_report Solution = record { status = 0; bytes = codes "solution\n" }
verified_report (Over key i) = over_at (pivot_text key i)
verified_report (Differs key i sum given) = record { status = 7; bytes = refusal [] (difference_text key i sum given) }

-- what is said of a document of another form
abbrev pub document_refused : List ℕ → Report
document_refused what = record { status = 3; bytes = refusal what [] }

-- a limit that the plan passes; its bound is within its own, and the others don't come
unfoldable pub limit_report : Limit → Report
limit_report (PassesCells level) = record { status = 5; bytes = refusal (codes "cells at level ") (decimal level) }
limit_report (PassesNeeds key) = record { status = 5; bytes = refusal (codes "needs at ") (key_text key) }
limit_report PassesBound = bound_refused 0
limit_report Within = bound_refused 0

-- what an answer of the reader says; of a document that it reads, what verifying its values finds
unfoldable pub answer_report : Answer → Report
answer_report Long = text_too_long
answer_report NoJson = document_refused (codes "not json")
answer_report BadForm = document_refused (codes "form")
answer_report BadKind = document_refused (codes "kind")
answer_report (BadBound X) = bound_refused X
answer_report (Unmade k) = record { status = 6; bytes = refusal (codes "over in c ") (decimal k) }
answer_report (Unplanned limit) = limit_report limit
answer_report (BadCell place) = record { status = 3; bytes = refusal (codes "cell ") (decimal place) }
answer_report (Gives kind X values) = verified_report (verified (kind_tensors kind X) X values)

-- what `verify` writes and answers of a source's bytes
unfoldable pub verify_report : List ℕ → Report
verify_report bytes = answer_report (answer_of bytes)

-- ---- what the answers say

-- The document gives values that are a solution of its kind's structure, and those of every solution.
pub record GivesSolution (answer : Answer) : Type 0 where
  pub kind : Kind
  pub bound : ℕ
  pub values : List ℚ
  pub gives : answer ≡ Gives kind bound values
  pub headline : ValuesHeadline (structure_of_kind kind) bound values

-- The document gives values that are none: at a pivot of a key the sum over them is another number than the key's value.
pub record GivesNoSolution (answer : Answer) (bytes : List ℕ) : Type 0 where
  pub kind : Kind
  pub bound : ℕ
  pub values : List ℚ
  pub gives : answer ≡ Gives kind bound values
  pub key : Key
  pub pivot : ℕ
  pub sum : ℚ
  pub given : ℚ
  pub named : bytes ≡ (verified_report (Differs key pivot sum given)).bytes
  pub found : verified (kind_tensors kind bound) bound values ≡ Differs key pivot sum given
  -- the values' series solves the structure's constraints at no dim, and with no fraction but 0 in the place of the letter; nor with 0
  -- where the key has no letter
  pub nowhere : AreNoSolution (structure_of_kind kind) bound (letter_of (kind_tensors kind bound).shape key) values
  -- nor does it solve the plan's own tensors
  pub planned_too : Solves (kind_tensors kind bound) bound (values_series (kind_tensors kind bound) bound values) → ⊥

-- What the reader's answer leads to.
pub record LeadsToVerified (answer : Answer) (report : Report) : Type 0 where
  pub said : report ≡ answer_report answer
  pub solved : report.status ≡ 0 → GivesSolution answer
  pub unsolved : report.status ≡ 7 → GivesNoSolution answer report.bytes

-- What `verify` leads to, by the source before and after.
pub data LeadsFromDocument (old new : Giving) (report : Report) : Type 0 where
  -- the source failed
  failed : Rose old.faults new.faults → report ≡ read_fault → LeadsFromDocument old new report
  wanting : new.faults ≡ old.faults → report ≡ out_of_memory → LeadsFromDocument old new report
  -- more than 16,777,216 bytes came, and reading stopped at the first of them
  long : new.faults ≡ old.faults → (bytes : List ℕ) → Consumes old.left new.left bytes → length bytes ≡ 16777217 → report ≡ text_too_long
      → LeadsFromDocument old new report
  -- the source was read to its end
  whole : new.faults ≡ old.faults → (bytes : List ℕ) → Consumes old.left new.left bytes → IsAtEnd new.left → length bytes ≤ 16777216
      → LeadsToVerified (answer_of bytes) report → LeadsFromDocument old new report

-- ---- what the code's parts end with

abbrev pub EndsOfDocument : Giving → Giving → Taking → Taking → ℕ → Type 0
EndsOfDocument old new before now result = EndsBy (LeadsFromDocument old new) before now result

-- what the reader's refusal says
unfoldable pub error_report : JsonErr → Report
error_report json.ReadFault = read_fault
error_report json.TooLong = text_too_long
error_report json.NotJson = document_refused (codes "not json")
error_report json.Form = document_refused (codes "form")
error_report json.Kind = document_refused (codes "kind")
error_report (json.Bound got) = bound_refused got
error_report (json.Make k) = record { status = 6; bytes = refusal (codes "over in c ") (decimal k) }
error_report (json.Plan why) = cause_report why
error_report (json.Cell place) = record { status = 3; bytes = refusal (codes "cell ") (decimal place) }
error_report json.NoMemory = out_of_memory
