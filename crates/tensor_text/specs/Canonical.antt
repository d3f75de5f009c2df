-- The one text that tensors are written as.
use Rattle.std.specs.Prelude.{ℕ, List, [], ◌++◌, Bool, cond, codes, decimal}
use Rattle.std.specs.Fmt.{signed_decimal}
use Rattle.std.specs.List.{flat_map}
use Rattle.airy_math.specs.Rational.{ℚ}
use Rattle.airy_math.specs.declared.Law.{Law}
use Rattle.airy_math.specs.declared.Shape.{Shape}
use Rattle.airy_math.specs.declared.Shape.TheVariants.{All, Exact, AtMost}
use Rattle.frac128.specs.Fraction.{fraction_text}
use Rattle.sparse_tensor.specs.Entries.{Entries, Entry}
use Rattle.sparse_tensor.specs.declared.parts.Part.{Part}
use Rattle.sparse_tensor.specs.declared.parts.Part.TheVariants.{A, B, C}

-- the word of a letter
abbrev pub letter_text : Part → List ℕ
letter_text A = codes "A"
letter_text B = codes "B"
letter_text C = codes "C"

-- a space and a number
abbrev pub spaced : ℕ → List ℕ
spaced n = codes " " ++ decimal n

-- a letter, three indices and a value
unfoldable pub place_text : Part → Entry → List ℕ
place_text letter e = letter_text letter ++ spaced e.i ++ spaced e.j ++ spaced e.k ++ codes " " ++ fraction_text e.v ++ codes "\n"

-- `D`, an index and a value
unfoldable pub index_text : ℕ × ℚ → List ℕ
index_text e = codes "D" ++ spaced e.0 ++ codes " " ++ fraction_text e.1 ++ codes "\n"

unfoldable pub dim_text : ℕ → List ℕ
dim_text dim = codes "dim" ++ spaced dim ++ codes "\n"

-- `airy 1` where there is no law, and else `airy 2`
unfoldable pub header_text : Shape → List ℕ
header_text All = codes "airy 1\n"
header_text (Exact l) = codes "airy 2\n"
header_text (AtMost l) = codes "airy 2\n"

-- a law's numbers `P Q`, each behind a space
abbrev pub law_text : Law → List ℕ
law_text l = codes " " ++ signed_decimal l.per_g ++ codes " " ++ signed_decimal l.per_n

abbrev pub letter_word : Bool → List ℕ
letter_word letter = cond letter (codes " letter") []

-- the shape line, where there is a law
unfoldable pub shape_text : Shape → Bool → List ℕ
shape_text All letter = []
shape_text (Exact l) letter = codes "shape exact" ++ law_text l ++ codes "\n"
shape_text (AtMost l) letter = codes "shape atmost" ++ law_text l ++ letter_word letter ++ codes "\n"

-- the first lines: the header, the dim, and the shape where there is a law
unfoldable pub first_text : Entries → List ℕ
first_text t = header_text t.shape ++ (dim_text t.dim ++ shape_text t.shape t.letter)

-- the entries of A, B, C and D in their order, and `end`
unfoldable pub entries_text : Entries → List ℕ
entries_text t =
    flat_map (place_text A) t.a ++ (flat_map (place_text B) t.b
    ++ (flat_map (place_text C) t.c ++ (flat_map index_text t.d ++ codes "end\n")))

-- The header, the dim, the shape where there is a law, the entries of A, B, C and D in their order, and `end`, each on a line.
unfoldable pub canonical_text : Entries → List ℕ
canonical_text t = first_text t ++ entries_text t
