-- The words of a script.
use Rattle.std.specs.Prelude.{ℕ, ◌==◌, List, [], ◌∷◌, length, take, drop, cond, codes, nat_le, ◌&&◌, Option, Some, None}
use Rattle.std.specs.List.{slice_split}
use Rattle.std.specs.Str.{bytes_eq}
use Rattle.airy_math.specs.Keys.{euler, key_of, ordered}
use Rattle.command_words.specs.declared.line.Line.{Line}
use Rattle.command_words.specs.declared.line.Line.TheVariants.{Ask, Finish, Grow}
use Rattle.command_words.specs.Words.{long_number, short_number}

-- the parts of a word between the letters c
abbrev pub parts : ℕ → List ℕ → List (List ℕ)
parts c w = slice_split (λ x. x == c) w

-- a genus or an index: 1 to 3 digits with a value up to 255
abbrev pub byte_of_word : List ℕ → Option ℕ
byte_of_word w = short_number 0 255 w

abbrev pub with_first : Option ℕ → Option (List ℕ) → Option (List ℕ)
with_first None xs = None
with_first (Some x) None = None
with_first (Some x) (Some xs) = Some (x ∷ xs)

abbrev pub bytes_of_words : List (List ℕ) → Option (List ℕ)
bytes_of_words [] = Some []
bytes_of_words (w ∷ ws) = with_first (byte_of_word w) (bytes_of_words ws)

-- an ask for the key of a genus and indices in any order: 1 to 26 of them, and stable
abbrev pub ask_for : ℕ → Option (List ℕ) → Option Line
ask_for g None = None
ask_for g (Some idx) =
    cond (nat_le 1 (length idx) && nat_le (length idx) 26 && nat_le 1 (euler g (length idx))) (Some (Ask (key_of g (ordered idx)))) None

abbrev pub ask_of_genus : Option ℕ → Option (List ℕ) → Option Line
ask_of_genus None idx = None
ask_of_genus (Some g) idx = ask_for g idx

-- `ask:G:D,D,...`, parted by its colons (58), and the last part by its commas (44)
abbrev pub ask_of_parts : List (List ℕ) → Option Line
ask_of_parts [] = None
ask_of_parts (a ∷ []) = None
ask_of_parts (a ∷ g ∷ []) = None
ask_of_parts (a ∷ g ∷ d ∷ []) = cond (bytes_eq a (codes "ask")) (ask_of_genus (byte_of_word g) (bytes_of_words (parts 44 d))) None
ask_of_parts (a ∷ g ∷ d ∷ e ∷ ws) = None

abbrev pub grow_to : Option ℕ → Option Line
grow_to None = None
grow_to (Some X) = Some (Grow X)

-- `finish`, `grow:X` with a number of 1 to 9 digits, or an ask
unfoldable pub line_of_word : List ℕ → Option Line
line_of_word w =
    cond (bytes_eq w (codes "finish")) (Some Finish)
    (cond (bytes_eq (take 5 w) (codes "grow:")) (grow_to (long_number (drop 5 w))) (ask_of_parts (parts 58 w)))
