-- What reading a document of a table gives.
use Rattle.std.specs.Prelude.{◌≡◌, ℕ, suc, List, [], ◌∷◌, ◌&&◌, Bool, true, false, ◌==◌, cond, length}
use Rattle.std.specs.Prelude.{nat_lt, nat_le, Option, Some, None, option_map, option_and_then, is_some, codes}
use Rattle.std.specs.Str.{bytes_eq, is_utf8}
use Rattle.airy_math.specs.Rational.{ℚ}
use Rattle.airy_math.specs.Keys.{Key}
use Rattle.airy_math.specs.Tensors.{Tensors}
use Rattle.airy_math.specs.Planned.{planned}
use Rattle.airy_math.specs.Families.{top_wk}
use Rattle.airy_math.specs.Jobs.{Structure, planned_tensors}
use Rattle.airy_math.specs.Jobs as jobs
use Rattle.airy_math.specs.declared.Family.{Family}
use Rattle.airy_math.specs.declared.Family.TheVariants.{Wk, Bgw, Wp}
use Rattle.sparse_tensor.specs.Entries.{Entries, looked_up}
use Rattle.tensor_text.specs.Values.{read_value_of}
use Rattle.tensor_text.specs.Grammar.{TextReading, Read, Refused, reading_of}
use Rattle.tensor_text.specs.Canonical.{canonical_text}
use Rattle.named_families.specs.Families.{StandsFor, StandsForLettered}
use Rattle.named_families.specs.Steps.{wp_refusal}
use Rattle.amp_plan.specs.Plans.{Planning}
use Rattle.amp_plan.specs.Limits.{Limit, limit, Within, PassesBound, PassesCells, PassesNeeds}
use Rattle.serde_json.specs.Data.{Data, Items, no_items, item, Members, no_members, member}
use Rattle.serde_json.specs.Read.{read}
use Rattle.serde_json.specs.Find.{get, as_number, as_u64, as_array, as_object, as_str}

-- ---- kinds

-- What a document's `kind` says: a named structure, or the entries of a text.
pub data Kind : Type 0 where
  named : Family → Kind
  text : Entries → Kind

abbrev pub read_kind : TextReading → Option Kind
read_kind (Read t) = Some (text t)
read_kind (Refused n why) = None

-- one of the three names, or else a text that the grammar reads
unfoldable pub kind_of : List ℕ → Option Kind
kind_of s =
    cond (bytes_eq s (codes "wk")) (Some (named Wk))
    (cond (bytes_eq s (codes "bgw")) (Some (named Bgw))
    (cond (bytes_eq s (codes "wp")) (Some (named Wp)) (read_kind (reading_of s))))

-- how a kind is written
unfoldable pub kind_text : Kind → List ℕ
kind_text (named Wk) = codes "wk"
kind_text (named Bgw) = codes "bgw"
kind_text (named Wp) = codes "wp"
kind_text (text t) = canonical_text t

-- the tensors of a kind's plan up to X
unfoldable pub kind_tensors : Kind → ℕ → Tensors
kind_tensors (named Wk) X = planned_tensors jobs.Wk X
kind_tensors (named Bgw) X = planned_tensors jobs.Bgw X
kind_tensors (named Wp) X = planned_tensors jobs.Wp X
kind_tensors (text t) X = looked_up t

-- the number of Weil and Petersson at whose making a step leaves the range, where the kind's tensors need one
unfoldable pub making_over : Kind → ℕ → Option ℕ
making_over (named Wk) X = None
making_over (named Bgw) X = None
making_over (named Wp) X = wp_refusal (suc (top_wk X)) (top_wk X)
making_over (text t) X = None

-- stored entries are those of a kind's plan up to X: the text's own, or those that stand for the family's
unfoldable pub AreOfKind : Kind → ℕ → Entries → Type 0
AreOfKind (named Wk) X u = StandsFor u (kind_tensors (named Wk) X)
AreOfKind (named Bgw) X u = StandsFor u (kind_tensors (named Bgw) X)
AreOfKind (named Wp) X u = StandsForLettered u (kind_tensors (named Wp) X)
AreOfKind (text t) X u = u ≡ t

-- the plan of a kind's tensors up to X
pub record IsPlanOf (kind : Kind) (X : ℕ) (plan : Planning) : Type 0 where
  pub bound_is : plan.bound ≡ X
  pub tensors_are : AreOfKind kind X plan.tensors

-- A text says the kind of a plan: one of the three names, or the canonical text of the plan's tensors.
pub record IsKindOf (s : List ℕ) (plan : Planning) : Type 0 where
  pub kind : Kind
  pub read_as : kind_of s ≡ Some kind
  pub written : s ≡ kind_text kind
  pub plan_of : IsPlanOf kind plan.bound plan

-- ---- what stands in an object

unfoldable pub count : Members → ℕ
count no_members = 0
count (member name d ms) = suc (count ms)

-- three members, no more and no fewer; where three names are found there are no others
unfoldable pub three : Option Members → Bool
three None = false
three (Some ms) = count ms == 3

-- a whole number in digits alone, from 0 to 2^64-1
unfoldable pub whole : Data → Option ℕ
whole d = option_and_then as_u64 (as_number d)

unfoldable pub whole_at : List ℕ → Data → Option ℕ
whole_at name d = option_and_then whole (get name d)

unfoldable pub array_at : List ℕ → Data → Option Items
array_at name d = option_and_then as_array (get name d)

unfoldable pub string_at : List ℕ → Data → Option (List ℕ)
string_at name d = option_and_then as_str (get name d)

-- ---- the form of a document

pub record Form : Type 0 where
  pub bound : ℕ
  pub cells : Items
  pub kind : List ℕ

unfoldable pub form_with : Option ℕ → Option Items → Option (List ℕ) → Option Form
form_with None ds s = None
form_with (Some X) None s = None
form_with (Some X) (Some ds) None = None
form_with (Some X) (Some ds) (Some s) = Some (record { bound = X; cells = ds; kind = s })

-- an object with exactly the members `bound`, a whole number, `cells`, an array, and `kind`, a text
unfoldable pub form_of : Data → Option Form
form_of d =
    cond (three (as_object d)) (form_with (whole_at (codes "bound") d) (array_at (codes "cells") d) (string_at (codes "kind") d)) None

-- ---- cells

-- whether a whole number is there and is n
unfoldable pub is_whole : ℕ → Option ℕ → Bool
is_whole n None = false
is_whole n (Some m) = m == n

-- whether these items are the indices, in order
unfoldable pub are_indices : List ℕ → Items → Bool
are_indices [] no_items = true
are_indices [] (item d ds) = false
are_indices (i ∷ is) no_items = false
are_indices (i ∷ is) (item d ds) = is_whole i (whole d) && are_indices is ds

unfoldable pub are_indices_at : List ℕ → Option Items → Bool
are_indices_at is None = false
are_indices_at is (Some ds) = are_indices is ds

-- whether this is an object with exactly the members g, i and v, of which g and i are the key's genus and indices
unfoldable pub is_cell_of : Key → Data → Bool
is_cell_of key d =
    three (as_object d) && is_whole key.g (whole_at (codes "g") d) && are_indices_at key.idx (array_at (codes "i") d)

-- the value of the key's cell: that of its member v, a text that is a value
unfoldable pub cell_value : Key → Data → Option ℚ
cell_value key d = cond (is_cell_of key d) (option_and_then read_value_of (string_at (codes "v") d)) None

-- the first place, from 0, at which the items aren't the cells of the keys in order, each with a value; where one of the two lists is
-- longer, at the latest the length of the shorter
unfoldable pub first_bad : List Key → Items → Option ℕ
first_bad [] no_items = None
first_bad [] (item d ds) = Some 0
first_bad (key ∷ keys) no_items = Some 0
first_bad (key ∷ keys) (item d ds) = cond (is_some (cell_value key d)) (option_map suc (first_bad keys ds)) (Some 0)

unfoldable pub with_value : Option ℚ → List ℚ → List ℚ
with_value None vs = vs
with_value (Some v) vs = v ∷ vs

-- the values of the keys' cells, in order
unfoldable pub cell_values : List Key → Items → List ℚ
cell_values [] ds = []
cell_values (key ∷ keys) no_items = []
cell_values (key ∷ keys) (item d ds) = with_value (cell_value key d) (cell_values keys ds)

-- ---- the document

-- What reading gives: the first refusal in this order, or the kind, the bound and the values.
pub data Answer : Type 0 where
  -- more than 16,777,216 bytes
  Long : Answer
  -- not JSON
  NoJson : Answer
  -- not a document's object
  BadForm : Answer
  -- `kind` is neither a name nor a text that the grammar reads
  BadKind : Answer
  -- `bound` is 0 or above 24
  BadBound : ℕ → Answer
  -- the number of Weil and Petersson that isn't obtained
  Unmade : ℕ → Answer
  -- a limit that the plan passes
  Unplanned : Limit → Answer
  -- the first place at which the cells aren't those of the planned keys
  BadCell : ℕ → Answer
  Gives : Kind → ℕ → List ℚ → Answer

unfoldable pub cells_answer : Kind → ℕ → List ℚ → Option ℕ → Answer
cells_answer kind X vs None = Gives kind X vs
cells_answer kind X vs (Some place) = BadCell place

unfoldable pub plan_answer : Kind → ℕ → Items → Limit → Answer
plan_answer kind X ds Within =
    let keys = planned (kind_tensors kind X) X in
    cells_answer kind X (cell_values keys ds) (first_bad keys ds)
plan_answer kind X ds PassesBound = Unplanned PassesBound
plan_answer kind X ds (PassesCells level) = Unplanned (PassesCells level)
plan_answer kind X ds (PassesNeeds key) = Unplanned (PassesNeeds key)

unfoldable pub made_answer : Kind → ℕ → Items → Option ℕ → Answer
made_answer kind X ds (Some k) = Unmade k
made_answer kind X ds None = plan_answer kind X ds (limit (kind_tensors kind X) X)

unfoldable pub bound_answer : Kind → ℕ → Items → Answer
bound_answer kind X ds = cond (nat_le 1 X && nat_le X 24) (made_answer kind X ds (making_over kind X)) (BadBound X)

unfoldable pub kind_answer : ℕ → Items → Option Kind → Answer
kind_answer X ds None = BadKind
kind_answer X ds (Some kind) = bound_answer kind X ds

unfoldable pub form_answer : Option Form → Answer
form_answer None = BadForm
form_answer (Some form) = kind_answer form.bound form.cells (kind_of form.kind)

unfoldable pub data_answer : Option Data → Answer
data_answer None = NoJson
data_answer (Some d) = form_answer (form_of d)

-- the JSON of a text, which is UTF-8; of two members with one name the last counts
unfoldable pub json_of : List ℕ → Option Data
json_of bytes = cond (is_utf8 bytes) (read bytes) None

-- What reading a document of these bytes gives.
unfoldable pub answer_of : List ℕ → Answer
answer_of bytes = cond (nat_lt 16777216 (length bytes)) Long (data_answer (json_of bytes))
