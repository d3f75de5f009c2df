-- How a text is cut into lines, and a line into words.
use Rattle.std.specs.Prelude.{ℕ, List, [], ◌∷◌, map, Bool, ◌||◌, ◌==◌, cond}
use Rattle.std.specs.Str.Lines.{strip_carriage_return}

-- the list with c before its first part
unfoldable pub onto_first : ℕ → List (List ℕ) → List (List ℕ)
onto_first c [] = (c ∷ []) ∷ []
onto_first c (part ∷ parts) = (c ∷ part) ∷ parts

-- The parts that end at each byte of a kind, without that byte. What stands behind the last such byte is a part where it isn't empty.
unfoldable pub parts : (ℕ → Bool) → List ℕ → List (List ℕ)
parts ends [] = []
parts ends (c ∷ cs) = cond (ends c) ([] ∷ parts ends cs) (onto_first c (parts ends cs))

-- a line feed
abbrev pub is_feed : ℕ → Bool
is_feed c = c == 10

-- a space or a tab
abbrev pub is_blank : ℕ → Bool
is_blank c = (c == 32) || (c == 9)

-- The lines of a text. One carriage return at the end of a line is no part of it.
unfoldable pub lines : List ℕ → List (List ℕ)
lines text = map strip_carriage_return (parts is_feed text)

-- those that aren't empty
unfoldable pub nonempty : List (List ℕ) → List (List ℕ)
nonempty [] = []
nonempty ([] ∷ parts) = nonempty parts
nonempty ((c ∷ cs) ∷ parts) = (c ∷ cs) ∷ nonempty parts

-- The words of a line: its longest runs of bytes that aren't blank.
unfoldable pub words : List ℕ → List (List ℕ)
words line = nonempty (parts is_blank line)
