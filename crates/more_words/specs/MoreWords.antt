-- The words of the command line of `airymore`, every command's reading, from left to right. All words are plain.
use Rattle.std.specs.Prelude.{ℕ, List, [], ◌∷◌, codes, cond, Option, Result, Ok, Err}
use Rattle.std.specs.Str.{bytes_eq}
use Rattle.airy_math.specs.Rational.{ℚ}
use Rattle.command_words.specs.Words.{Kind, kind_of_word, long_number, short_number}
use Rattle.command_words.specs.Options.{Parted, Next, End, Broken, Dashed, parted, next_read, items}
use Rattle.tensor_text.specs.Values.{read_value_of}

-- what the words ask for, or the number of the first word that breaks a rule; missing words have the count of words plus 1
pub data Reading : Type 0 where
  -- the table of the curve of some numbers, up to a bound, with so many workers; what is written doesn't depend on them
  Curve : ℕ → ℕ → List ℚ → Reading
  -- the relations of that curve's tensors, in so many places
  CurveRelations : ℕ → List ℚ → Reading
  -- the brackets of the operators of a text
  Brackets : Reading
  -- the table of a text up to a bound, with so many workers, without a look at any further pivot
  Quick : ℕ → ℕ → Reading
  -- the JSON document of a table up to a bound, with so many workers
  Json : Kind → ℕ → ℕ → Reading
  -- whether the values of the source's document are a solution
  Verify : Reading
  Refused : ℕ → Reading

-- words from a place on: all are plain, as behind `--`
abbrev pub numbered : ℕ → List (List ℕ) → Parted
numbered place ws = parted (Dashed 0) place ws

-- ---- the places of the commands

-- what a thing that was read leads to, or the number of the refused word
abbrev pub goes_on : {A : Type 0} → (A → Reading) → Result A ℕ → Reading
goes_on f (Ok x) = f x
goes_on f (Err place) = Refused place

-- no word is left
abbrev pub ended : Parted → Result Unit ℕ
ended (Next place w s) = Err place
ended (End place n) = Ok tt
ended (Broken place) = Err place

abbrev pub ends : Reading → Parted → Reading
ends r s = goes_on (λ none. r) (ended s)

abbrev pub reads : {A : Type 0} → (List ℕ → Option A) → (A → Parted → Reading) → Parted → Reading
reads read f s = goes_on (λ x. f x.0 x.1) (next_read read s)

-- values up to the end, at most so many
abbrev pub values : ℕ → Parted → Result (List ℚ) ℕ
values room s = items read_value_of room s

-- the numbers U: 0 to 24 values
abbrev pub reads_u : (List ℚ → Reading) → Parted → Reading
reads_u f s = goes_on f (values 24 s)

-- ---- the commands

-- WORKERS: 1 to 3 digits with a value up to 16
abbrev pub crew_number : List ℕ → Option ℕ
crew_number w = short_number 0 16 w

-- curve X WORKERS U...
abbrev pub read_curve : Parted → Reading
read_curve = reads long_number λ X. reads crew_number λ n. reads_u (Curve X n)

-- curve-relations N U...
abbrev pub read_curve_relations : Parted → Reading
read_curve_relations = reads (short_number 1 32) λ N. reads_u (CurveRelations N)

-- brackets
abbrev pub read_brackets : Parted → Reading
read_brackets = ends Brackets

-- quick X WORKERS
abbrev pub read_quick : Parted → Reading
read_quick = reads long_number λ X. reads crew_number λ n. ends (Quick X n)

-- json KIND X WORKERS
abbrev pub read_json : Parted → Reading
read_json = reads kind_of_word λ kind. reads long_number λ X. reads crew_number λ n. ends (Json kind X n)

-- verify
abbrev pub read_verify : Parted → Reading
read_verify = ends Verify

-- what a command asks for with the words behind it
unfoldable pub read_behind : List ℕ → Parted → Reading
read_behind w s =
    cond (bytes_eq w (codes "curve")) (read_curve s)
    (cond (bytes_eq w (codes "curve-relations")) (read_curve_relations s)
    (cond (bytes_eq w (codes "brackets")) (read_brackets s)
    (cond (bytes_eq w (codes "quick")) (read_quick s)
    (cond (bytes_eq w (codes "json")) (read_json s)
    (cond (bytes_eq w (codes "verify")) (read_verify s) (Refused 1))))))

-- what the words ask for
unfoldable pub reading_of : List (List ℕ) → Reading
reading_of [] = Refused 1
reading_of (w ∷ ws) = read_behind w (numbered 2 ws)
