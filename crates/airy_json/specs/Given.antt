-- What reading a document from a source promises.
use Rattle.std.specs.Prelude.{◌≡◌, ℕ, ◌<◌, ◌≤◌, List, length, Result, Ok, Err, IsErrOf}
use Rattle.std.specs.declared.option.Option.{Option}
use Rattle.std.specs.Io.KnownBytes.{Consumes, IsAtEnd}
use Rattle.airy_math.specs.Rational.{ℚ}
use Rattle.airy_io.specs.Causes.{Giving, Rose}
use Rattle.amp_plan.specs.Plans.{Planning, keys_of}
use Rattle.amp_plan.specs.Limits.{PassesCells, PassesNeeds}
use Rattle.amp_plan.specs.declared.cause.PlanCause.{PlanCause}
use Rattle.amp_plan.specs.declared.cause.PlanCause.TheVariants as cause
use Rattle.airy_json.specs.Reading.{Kind, IsPlanOf, Answer, Long, NoJson, BadForm, BadKind}
use Rattle.airy_json.specs.Reading.{BadBound, Unmade, Unplanned, BadCell, Gives, answer_of}
use Rattle.airy_json.specs.declared.refusals.JsonErr.{JsonErr}
use Rattle.airy_json.specs.declared.refusals.JsonErr.TheVariants as json
use Rattle.airy_json.specs.declared.reading.Given.{Given}

-- ---- what an answer of the code says

-- The plan is that of the kind and the bound that are given, which is above 0, and the values are those that are given, one for each
-- planned key.
pub record IsGiven (plan : Planning) (values : List ℚ) (answer : Answer) : Type 0 where
  pub kind : Kind
  pub gives : answer ≡ Gives kind plan.bound values
  pub plan_of : IsPlanOf kind plan.bound plan
  pub some : 0 < plan.bound
  pub one_each : length values ≡ length (keys_of plan)

-- the limit that a cause names; a plan is refused with no other cause
abbrev pub Passes : PlanCause → Answer → Type 0
Passes (cause.Bound got) answer = ⊥
Passes (cause.Cells level) answer = answer ≡ Unplanned (PassesCells level)
Passes (cause.Edges key) answer = answer ≡ Unplanned (PassesNeeds key)
Passes cause.NoMemory answer = ⊥

-- the refusal, of at most 16,777,216 bytes in memory, which give no fault; want of memory says nothing
abbrev pub Refuses : JsonErr → Answer → Type 0
Refuses json.ReadFault answer = ⊥
Refuses json.TooLong answer = ⊥
Refuses json.NotJson answer = answer ≡ NoJson
Refuses json.Form answer = answer ≡ BadForm
Refuses json.Kind answer = answer ≡ BadKind
Refuses (json.Bound got) answer = answer ≡ BadBound got
Refuses (json.Make k) answer = answer ≡ Unmade k
Refuses (json.Plan why) answer = Passes why answer
Refuses (json.Cell place) answer = answer ≡ BadCell place
Refuses json.NoMemory answer = Unit {0}

-- what is given, or the refusal
abbrev pub Says : Result Given JsonErr → Answer → Type 0
Says (Ok given) answer = IsGiven given.plan given.values.items answer
Says (Err e) answer = Refuses e answer

-- ---- what reading a source says

-- The source is at its end, at most 16,777,216 bytes were read, and the answer is what reading a document of these bytes gives.
pub record IsWhole (bytes : List ℕ) (new : Option (List ℕ)) (result : Result Given JsonErr) : Type 0 where
  pub ended : IsAtEnd new
  pub short : length bytes ≤ 16777216
  pub said : Says result (answer_of bytes)

-- what an answer says of the bytes that were read
abbrev pub Tells : Result Given JsonErr → List ℕ → Option (List ℕ) → Type 0
Tells (Err json.ReadFault) bytes new = Unit {0}
Tells (Err json.NoMemory) bytes new = Unit {0}
Tells (Err json.TooLong) bytes new = (length bytes ≡ 16777217) × (answer_of bytes ≡ Long)
Tells (Err json.NotJson) bytes new = IsWhole bytes new (Err json.NotJson)
Tells (Err json.Form) bytes new = IsWhole bytes new (Err json.Form)
Tells (Err json.Kind) bytes new = IsWhole bytes new (Err json.Kind)
Tells (Err (json.Bound got)) bytes new = IsWhole bytes new (Err (json.Bound got))
Tells (Err (json.Make k)) bytes new = IsWhole bytes new (Err (json.Make k))
Tells (Err (json.Plan why)) bytes new = IsWhole bytes new (Err (json.Plan why))
Tells (Err (json.Cell place)) bytes new = IsWhole bytes new (Err (json.Cell place))
Tells (Ok given) bytes new = IsWhole bytes new (Ok given)

-- Bytes were read off the source, at most 16,777,217, and the answer speaks of them. So a source that tells its bytes has more than
-- 16,777,216 exactly where the answer is `TooLong`, or a fault or want of memory came first.
pub record ReadsDocument (old new : Giving) (result : Result Given JsonErr) : Type 0 where
  pub bytes : List ℕ
  pub consumed : Consumes old.left new.left bytes
  pub most : length bytes ≤ 16777217
  pub tells : Tells result bytes new.left

-- `ReadFault` comes only where the count of faults rose, and every other answer leaves it.
pub record HasCause {T : Type 0} (before now : ℕ) (result : Result T JsonErr) : Type 0 where
  pub later : before ≤ now
  pub failed : IsErrOf result json.ReadFault → Rose before now
  pub kept : (IsErrOf result json.ReadFault → ⊥) → now ≡ before
