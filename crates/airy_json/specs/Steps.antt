-- For private functions and for proofs: no public contract rests on this file.
-- What the steps of the reader answer.
use Rattle.std.specs.Prelude.{◌≡◌, ℕ, List, Option, Some, None}
use Rattle.airy_math.specs.Rational.{ℚ}
use Rattle.airy_math.specs.Keys.{Key}
use Rattle.serde_json.specs.Data.{Items}
use Rattle.serde_json.specs.View.{items_view}
use Rattle.airy_json.specs.Reading as reading
use Rattle.airy_json.specs.Reading.{Kind, named, text, first_bad, cell_values}
use Rattle.airy_json.specs.declared.forms.Form as seen
use Rattle.airy_json.specs.declared.kinds.TableKind.{TableKind}
use Rattle.airy_json.specs.declared.kinds.TableKind.TheVariants as code
use Rattle.airy_json.specs.declared.refusals.JsonErr.{JsonErr}
use Rattle.airy_json.specs.declared.refusals.JsonErr.TheVariants as json

-- a form, as the code holds it
abbrev pub form_seen : seen.Form → reading.Form
form_seen form = record { bound = form.bound; cells = items_view form.cells.now.items; kind = form.kind.now }

-- a kind, as the code holds it
abbrev pub kind_seen : TableKind → Kind
kind_seen (code.Named family) = named family
kind_seen (code.Text t) = text t

-- why a kind isn't read: it is none; or memory is wanting
abbrev pub IsUnread : JsonErr → Option Kind → Type 0
IsUnread json.Kind kind = kind ≡ None
IsUnread json.NoMemory kind = Unit {0}
IsUnread json.ReadFault kind = ⊥
IsUnread json.TooLong kind = ⊥
IsUnread json.NotJson kind = ⊥
IsUnread json.Form kind = ⊥
IsUnread (json.Bound got) kind = ⊥
IsUnread (json.Make k) kind = ⊥
IsUnread (json.Plan why) kind = ⊥
IsUnread (json.Cell place) kind = ⊥

-- The cells are those of the keys, with these values.
pub record AreCells (keys : List Key) (ds : Items) (values : List ℚ) : Type 0 where
  pub good : first_bad keys ds ≡ None
  pub values_are : values ≡ cell_values keys ds

-- why cells aren't read: a place at which they aren't the keys'; or memory is wanting
abbrev pub IsBadCell : JsonErr → Option ℕ → Type 0
IsBadCell (json.Cell place) bad = bad ≡ Some place
IsBadCell json.NoMemory bad = Unit {0}
IsBadCell json.Kind bad = ⊥
IsBadCell json.ReadFault bad = ⊥
IsBadCell json.TooLong bad = ⊥
IsBadCell json.NotJson bad = ⊥
IsBadCell json.Form bad = ⊥
IsBadCell (json.Bound got) bad = ⊥
IsBadCell (json.Make k) bad = ⊥
IsBadCell (json.Plan why) bad = ⊥
