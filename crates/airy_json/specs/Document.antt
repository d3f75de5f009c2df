-- The JSON document of a table.
use Rattle.std.specs.Prelude.{ℕ, List, [], ◌∷◌, ◌++◌, codes}
use Rattle.std.specs.declared.option.Option.{Option}
use Rattle.std.specs.Option.{unwrap_or}
use Rattle.airy_math.specs.Rational.{ℚ}
use Rattle.airy_math.specs.RationalLaws.{0ℚ}
use Rattle.airy_math.specs.Keys.{Key}
use Rattle.amp_terms.specs.declared.Outcome.{Outcome}
use Rattle.amp_terms.specs.Tables.{value_at, value_of_cell}
use Rattle.frac128.specs.Fraction.{fraction_text}
use Rattle.serde_json.specs.Data.{Data, unsigned, number, string, array, object, Items, no_items, item, no_members, member}
use Rattle.serde_json.specs.Written.{compact_text}

-- indices, in order
unfoldable pub indices_data : List ℕ → Items
indices_data [] = no_items
indices_data (i ∷ is) = item (number (unsigned i)) (indices_data is)

-- the cell of a key with its value: its genus g, its indices i, and the value v as a text
unfoldable pub cell_data : Key → ℚ → Data
cell_data key v =
    object (member (codes "g") (number (unsigned key.g)) (member (codes "i") (array (indices_data key.idx))
    (member (codes "v") (string (fraction_text v)) no_members)))

-- one cell for each key
unfoldable pub cells_data : List Key → List ℚ → Items
cells_data [] vs = no_items
cells_data (key ∷ keys) [] = no_items
cells_data (key ∷ keys) (v ∷ vs) = item (cell_data key v) (cells_data keys vs)

-- the document of the kind's table up to X: its bound, its cells and its kind
unfoldable pub document_data : List ℕ → ℕ → List Key → List ℚ → Data
document_data kind X keys vs =
    object (member (codes "bound") (number (unsigned X)) (member (codes "cells") (array (cells_data keys vs))
    (member (codes "kind") (string kind) no_members)))

-- its text: as compact as JSON is, then a line feed
unfoldable pub document_text : List ℕ → ℕ → List Key → List ℚ → List ℕ
document_text kind X keys vs = compact_text (document_data kind X keys vs) ++ codes "\n"

-- ---- of a table

-- the Value of a rank, and 0 where it has none
unfoldable pub value_in : List (Option Outcome) → ℕ → ℚ
value_in table rank = unwrap_or (value_at table rank) 0ℚ

-- the Values of the ranks, in order
unfoldable pub values_in : List (Option Outcome) → List ℚ
values_in [] = []
values_in (cell ∷ cells) = unwrap_or (value_of_cell cell) 0ℚ ∷ values_in cells
