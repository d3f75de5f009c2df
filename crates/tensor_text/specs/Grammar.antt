-- The grammar of a text of tensors, by cases on its lines, and a line by cases on its words.
use Rattle.std.specs.Prelude.{ℕ, suc, ℤ, List, [], ◌∷◌, Bool, true, false, ◌==◌, cond, Option, Some, None, codes}
use Rattle.std.specs.Option.{option_map, option_and_then}
use Rattle.std.specs.Str.{bytes_eq}
use Rattle.airy_math.specs.Rational.{ℚ}
use Rattle.airy_math.specs.Tensors.{is_zero}
use Rattle.airy_math.specs.declared.Law.{Law}
use Rattle.airy_math.specs.declared.Shape.{Shape}
use Rattle.airy_math.specs.declared.Shape.TheVariants.{All, Exact, AtMost}
use Rattle.sparse_tensor.specs.Entries.{Entries, no_entries, is_given}
use Rattle.sparse_tensor.specs.Grades.{keeps_d}
use Rattle.sparse_tensor.specs.Puts.{with_d, keeps_in, taken_in, with_in}
use Rattle.tensor_text.specs.Lines.{lines, words}
use Rattle.tensor_text.specs.Values.{index_of, dim_of, signed_of, read_value_of}
use Rattle.sparse_tensor.specs.declared.parts.Part.{Part}
use Rattle.sparse_tensor.specs.declared.parts.Part.TheVariants.{A, B, C}
use Rattle.tensor_text.specs.declared.refusals.LineKind.{LineKind}
use Rattle.tensor_text.specs.declared.refusals.LineKind.TheVariants.{Header, Dim, Word, Count, Index, Number, Grade, Twice, NoEnd, After}
use Rattle.tensor_text.specs.declared.refusals.LineKind.TheVariants as kinds

-- What a text gives: its entries, or its first refused line with the first check that fails there.
pub data TextReading : Type 0 where
  Read : Entries → TextReading
  Refused : ℕ → LineKind → TextReading

-- ---- the lines that count

-- The lines that count, each with its number and its words. At the end stands the number that a further line would have.
pub data Lines : Type 0 where
  Line : ℕ → List (List ℕ) → Lines → Lines
  End : ℕ → Lines

-- a word that begins with `#`
unfoldable pub is_note : List ℕ → Bool
is_note [] = false
is_note (c ∷ cs) = c == 35

-- a line without words, or whose first word begins with `#`
unfoldable pub is_skipped : List (List ℕ) → Bool
is_skipped [] = true
is_skipped (word ∷ more) = is_note word

-- the lines that count of these, of which the first has number n
unfoldable pub counted : ℕ → List (List ℕ) → Lines
counted n [] = End n
counted n (line ∷ more) = cond (is_skipped (words line)) (counted (suc n) more) (Line n (words line) (counted (suc n) more))

-- ---- words of a line

-- the one word, where there is just one
unfoldable pub only_word : List (List ℕ) → Option (List ℕ)
only_word [] = None
only_word (word ∷ []) = Some word
only_word (word ∷ more ∷ rest) = None

-- the words of an index and a value, where there are just two
unfoldable pub two_words : List (List ℕ) → Option (List ℕ × List ℕ)
two_words [] = None
two_words (i ∷ more) = option_map (λ v. (i, v)) (only_word more)

-- the words of three indices and a value
pub record PlaceWords : Type 0 where
  pub i : List ℕ
  pub j : List ℕ
  pub k : List ℕ
  pub v : List ℕ

-- where there are just four
unfoldable pub place_words : List (List ℕ) → Option PlaceWords
place_words [] = None
place_words (i ∷ []) = None
place_words (i ∷ j ∷ more) = option_map (λ p. record { i = i; j = j; k = p.0; v = p.1 }) (two_words more)

-- ---- the first lines

-- The version that the one word of a header names: whether a shape line stands behind the dim line.
unfoldable pub version_of : Option (List ℕ) → Option Bool
version_of None = None
version_of (Some word) = cond (bytes_eq word (codes "1")) (Some false) (cond (bytes_eq word (codes "2")) (Some true) None)

-- `airy 1` or `airy 2`
unfoldable pub header_line : List (List ℕ) → Option Bool
header_line [] = None
header_line (word ∷ more) = cond (bytes_eq word (codes "airy")) (version_of (only_word more)) None

-- `dim N`
unfoldable pub dim_line : List (List ℕ) → Option ℕ
dim_line [] = None
dim_line (word ∷ more) = cond (bytes_eq word (codes "dim")) (option_and_then dim_of (only_word more)) None

-- a shape, and whether the tensors carry a letter
abbrev pub Shaped : Type 0
Shaped = Shape × Bool

unfoldable pub law_by : Option ℤ → Option ℤ → Option Law
law_by None q = None
law_by (Some p) None = None
law_by (Some p) (Some q) = Some (record { per_g = p; per_n = q })

-- the law of two words `P Q`
unfoldable pub law_of : List ℕ → List ℕ → Option Law
law_of p q = law_by (signed_of p) (signed_of q)

-- behind `all`: nothing
unfoldable pub all_shape : List (List ℕ) → Option Shaped
all_shape [] = Some (All, false)
all_shape (word ∷ more) = None

-- behind `exact`: `P Q`
unfoldable pub exact_shape : List (List ℕ) → Option Shaped
exact_shape more = option_map (λ l. (Exact l, false)) (option_and_then (λ w. law_of w.0 w.1) (two_words more))

-- behind `atmost P Q`: nothing, or `letter`
unfoldable pub letter_given : List (List ℕ) → Option Bool
letter_given [] = Some false
letter_given (word ∷ []) = cond (bytes_eq word (codes "letter")) (Some true) None
letter_given (word ∷ more ∷ rest) = None

unfoldable pub at_most_by : Option Law → Option Bool → Option Shaped
at_most_by None letter = None
at_most_by (Some l) letter = option_map (λ has. (AtMost l, has)) letter

-- behind `atmost`: `P Q` or `P Q letter`
unfoldable pub at_most_shape : List (List ℕ) → Option Shaped
at_most_shape [] = None
at_most_shape (p ∷ []) = None
at_most_shape (p ∷ q ∷ more) = at_most_by (law_of p q) (letter_given more)

-- behind `shape`
unfoldable pub shape_words : List (List ℕ) → Option Shaped
shape_words [] = None
shape_words (word ∷ more) =
    cond (bytes_eq word (codes "all")) (all_shape more)
    (cond (bytes_eq word (codes "exact")) (exact_shape more)
    (cond (bytes_eq word (codes "atmost")) (at_most_shape more) None))

-- `shape all`, `shape exact P Q`, `shape atmost P Q` or `shape atmost P Q letter`
unfoldable pub shape_line : List (List ℕ) → Option Shaped
shape_line [] = None
shape_line (word ∷ more) = cond (bytes_eq word (codes "shape")) (shape_words more) None

-- ---- a line of an entry, or `end`

-- What it gives to the entries before it: the entries with it, or the end, or the first check that it fails.
pub data Said : Type 0 where
  Stored : Entries → Said
  Ended : Said
  Fails : LineKind → Said

-- what follows from what was found, or a failed check
unfoldable pub checked : {A : Type 0} → LineKind → Option A → (A → Said) → Said
checked kind None next = Fails kind
checked kind (Some x) next = next x

-- a value that isn't 0 wants an entry that keeps the grading, and then a place that isn't taken
unfoldable pub stored : Bool → Bool → ℚ → Entries → Said
stored graded taken v t = cond (is_zero v) (Stored t) (cond graded (cond taken (Fails Twice) (Stored t)) (Fails Grade))

-- three indices and a value
unfoldable pub place_line : Part → Entries → List (List ℕ) → Said
place_line letter t more = checked Count (place_words more) λ w.
    checked Index (index_of t.dim w.i) λ i.
    checked Index (index_of t.dim w.j) λ j.
    checked Index (index_of t.dim w.k) λ k.
    checked Number (read_value_of w.v) λ v.
    stored (keeps_in letter t.shape i j k) (taken_in letter t i j k) v (with_in letter t i j k v)

-- an index and a value, of D
unfoldable pub index_line : Entries → List (List ℕ) → Said
index_line t more = checked Count (two_words more) λ w.
    checked Index (index_of t.dim w.0) λ i.
    checked Number (read_value_of w.1) λ v. stored (keeps_d t.shape i) (is_given t.d i) v (with_d t i v)

unfoldable pub end_line : List (List ℕ) → Said
end_line [] = Ended
end_line (word ∷ more) = Fails Count

unfoldable pub letter_of : List ℕ → Option Part
letter_of word =
    cond (bytes_eq word (codes "A")) (Some A)
    (cond (bytes_eq word (codes "B")) (Some B)
    (cond (bytes_eq word (codes "C")) (Some C) None))

unfoldable pub said_by : Option Part → Entries → List ℕ → List (List ℕ) → Said
said_by (Some letter) t word more = place_line letter t more
said_by None t word more =
    cond (bytes_eq word (codes "D")) (index_line t more)
    (cond (bytes_eq word (codes "end")) (end_line more) (Fails Word))

-- by its first word; a line that counts has one
unfoldable pub said : Entries → List (List ℕ) → Said
said t [] = Fails Word
said t (word ∷ more) = said_by (letter_of word) t word more

-- ---- the lines in order, from the last to the first

-- behind `end`
unfoldable pub after_end : Entries → Lines → TextReading
after_end t (End n) = Read t
after_end t (Line n line rest) = Refused n After

-- what line n leads to, by what it gives: further entries, or what stands behind `end`
unfoldable pub then_read : ℕ → Said → (Entries → TextReading) → TextReading → TextReading
then_read n (Stored t) next ended = next t
then_read n Ended next ended = ended
then_read n (Fails kind) next ended = Refused n kind

-- behind the first lines and some entries
unfoldable pub entries_from : Entries → Lines → TextReading
entries_from t (End n) = Refused n NoEnd
entries_from t (Line n line rest) = then_read n (said t line) (λ u. entries_from u rest) (after_end t rest)

unfoldable pub shape_read : ℕ → ℕ → Option Shaped → Lines → TextReading
shape_read dim n None rest = Refused n kinds.Shape
shape_read dim n (Some shaped) rest = entries_from (no_entries dim shaped.0 shaped.1) rest

-- behind the dim line of `airy 2`
unfoldable pub shape_from : ℕ → Lines → TextReading
shape_from dim (End n) = Refused n kinds.Shape
shape_from dim (Line n line rest) = shape_read dim n (shape_line line) rest

unfoldable pub dim_read : Bool → ℕ → Option ℕ → Lines → TextReading
dim_read has_shape n None rest = Refused n Dim
dim_read has_shape n (Some dim) rest = cond has_shape (shape_from dim rest) (entries_from (no_entries dim All false) rest)

-- behind the header
unfoldable pub dim_from : Bool → Lines → TextReading
dim_from has_shape (End n) = Refused n Dim
dim_from has_shape (Line n line rest) = dim_read has_shape n (dim_line line) rest

unfoldable pub header_read : ℕ → Option Bool → Lines → TextReading
header_read n None rest = Refused n Header
header_read n (Some has_shape) rest = dim_from has_shape rest

unfoldable pub header_from : Lines → TextReading
header_from (End n) = Refused n Header
header_from (Line n line rest) = header_read n (header_line line) rest

-- What the grammar gives to a text.
unfoldable pub reading_of : List ℕ → TextReading
reading_of text = header_from (counted 1 (lines text))
