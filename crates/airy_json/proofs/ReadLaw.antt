-- The text of a document is read as the document.
use Rattle.std.proofs.Common.{◌≡◌, ℕ, suc, ◌^◌, ◌<◌, ◌≤◌, List, [], ◌∷◌, ◌++◌, length, Option, Some, option_and_then, refl, sym, ap, ◌∙◌, arith, append-nil, codes}
use Rattle.airy_json.proofs.Common.{ℚ, Key, key_at, indices_data, cell_data, cells_data, document_data, document_text, Data, Items, of_json, of_items, read, max_depth, outline, items_outline, compact_text}
use Rattle.std.specs.List.{AllByRecursion}
use Rattle.json.specs.Json as json
use Rattle.json.specs.Token.{Token}
use Rattle.json.specs.Tree as tree
use Rattle.json.specs.Tree.{json_tokens, HasNumbers, ItemsHaveNumbers}
use Rattle.json.proofs.Printed.Decimals.{IsNumber-decimal}
use Rattle.json.proofs.Printed.Trees.{value-json_tokens, ArePrintable-json_tokens}
use Rattle.serde_json.proofs.Numbers.{number_of-decimal}
use Rattle.serde_json.proofs.Texts.{print-outline}
use Rattle.airy_json.proofs.LineLaw.{tokens-line}

-- the JSON of these data is read as the data, and nests no deeper than n
record IsRead (d : Data) (n : ℕ) : Type 0 where
  numbers : HasNumbers (outline d)
  back : of_json (outline d) ≡ Some d
  shallow : tree.depth (outline d) ≤ n

record AreRead (ds : Items) (n : ℕ) : Type 0 where
  numbers : ItemsHaveNumbers (items_outline ds)
  back : of_items (items_outline ds) ≡ Some ds
  shallow : tree.items_depth (items_outline ds) ≤ n

abbrev pub AreWords : List ℕ → Type 0
AreWords is = AllByRecursion (λ i. i < 2 ^ 64) is

-- the genus and the indices are words
pub record IsWordKey (key : Key) : Type 0 where
  pub genus : key.g < 2 ^ 64
  pub indices : AreWords key.idx

indices-read : (is : List ℕ) → AreWords is → AreRead (indices_data is) 0
unfolding indices_data
indices-read [] h = record { numbers = tt; back = refl; shallow = omega arith }
indices-read (i ∷ is) h =
    let rest = indices-read is h.1 in record {
      numbers = (IsNumber-decimal i h.0, rest.numbers);
      back = rw (number_of-decimal i h.0, rest.back) refl;
      shallow = let a = rest.shallow in omega arith;
    }

cell-read : (key : Key) (v : ℚ) → IsWordKey key → IsRead (cell_data key v) 2
unfolding cell_data
cell-read key v h =
    let is = indices-read key.idx h.indices in record {
      numbers = (IsNumber-decimal key.g h.genus, (is.numbers, (tt, tt)));
      back = rw (number_of-decimal key.g h.genus, is.back) refl;
      shallow = let flat = is.shallow in omega arith;
    }

cells-read : (keys : List Key) (vs : List ℚ) → ((r : ℕ) → r < length keys → IsWordKey (key_at keys r)) → AreRead (cells_data keys vs) 2
unfolding cells_data key_at
cells-read [] vs h = record { numbers = tt; back = refl; shallow = omega arith }
cells-read (key ∷ keys) [] h = record { numbers = tt; back = refl; shallow = omega arith }
cells-read (key ∷ keys) (v ∷ vs) h =
    let cell = cell-read key v (h 0 (omega arith)) in
    let rest = cells-read keys vs (λ r l. h (suc r) (omega arith)) in record {
      numbers = (cell.numbers, rest.numbers);
      back = rw (cell.back, rest.back) refl;
      shallow = let a = cell.shallow in let b = rest.shallow in omega arith;
    }

document-read : (kind : List ℕ) (X : ℕ) (keys : List Key) (vs : List ℚ) → X < 2 ^ 64 → ((r : ℕ) → r < length keys → IsWordKey (key_at keys r)) → IsRead (document_data kind X keys vs) 4
unfolding document_data
document-read kind X keys vs small h =
    let cells = cells-read keys vs h in record {
      numbers = (IsNumber-decimal X small, (cells.numbers, (tt, tt)));
      back = rw (number_of-decimal X small, cells.back) refl;
      shallow = let a = cells.shallow in omega arith;
    }

abbrev whole : Option (json.Json × List Token) → Option Data
whole o = option_and_then of_json (option_and_then (λ p. json.if_last p.0 p.1) o)

line-read : (d : Data) (n : ℕ) → IsRead d n → n ≤ max_depth → read (compact_text d ++ codes "\n") ≡ Some d
line-read d n h deep =
    let printable = ArePrintable-json_tokens (outline d) h.numbers in
    let shallow : tree.depth (outline d) ≤ max_depth = let a = h.shallow in omega arith in
    ap (λ t. read (t ++ codes "\n")) (sym (print-outline d))
    ∙ ap whole (ap (json.value max_depth) (tokens-line (json_tokens (outline d)) printable ∙ sym (append-nil _)) ∙ value-json_tokens (outline d) max_depth [] shallow) ∙ h.back

pub read-document : (kind : List ℕ) (X : ℕ) (keys : List Key) (vs : List ℚ) → X < 2 ^ 64 → ((r : ℕ) → r < length keys → IsWordKey (key_at keys r))
    → read (document_text kind X keys vs) ≡ Some (document_data kind X keys vs)
unfolding document_text
read-document kind X keys vs small h = line-read (document_data kind X keys vs) 4 (document-read kind X keys vs small h) (omega arith)
