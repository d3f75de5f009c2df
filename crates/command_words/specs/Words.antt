-- The words of the command line.
use Rattle.std.specs.Prelude.{ℕ, ◌+◌, ◌*◌, ◌-◌, List, [], ◌∷◌, length, Bool, true, cond, codes, nat_le, ◌&&◌, fold, Option, Some, None}
use Rattle.std.specs.Str.{bytes_eq}
use Rattle.airy_math.specs.declared.Family.{Family}
use Rattle.airy_math.specs.declared.Family.TheVariants.{Wk, Bgw, Wp}
use Rattle.airy_math.specs.Keys.{Key, euler}
use Rattle.command_words.specs.declared.line.Line.{Line}

-- what a table or a check is of
pub data Kind : Type 0 where
  -- a named structure: Witten-Kontsevich, Brezin-Gross-Witten, or Weil-Petersson
  Named : Family → Kind
  -- the text of the source
  Text : Kind

-- what the words ask for, or the number of the first word that breaks a rule; missing words have the count of words plus 1
pub data Reading : Type 0 where
  -- up to a bound, with so many workers; what is written doesn't depend on them
  Table : Kind → ℕ → ℕ → Reading
  Probe : ℕ → ℕ → Reading
  -- and the lines of a script
  Session : Kind → ℕ → ℕ → List Line → Reading
  Relations : ℕ → Kind → Reading
  -- one number of a family, by its key
  Number : Family → Key → Reading
  -- the volume of a pair (g,n)
  Volume : ℕ → ℕ → Reading
  -- of a structure made from a seed and a dim, up to a bound, with so many workers
  Bulk : ℕ → ℕ → ℕ → ℕ → Reading
  Refused : ℕ → Reading

abbrev pub is_digit : ℕ → Bool
is_digit c = nat_le 48 c && nat_le c 57

abbrev pub all_digits : List ℕ → Bool
all_digits [] = true
all_digits (c ∷ cs) = is_digit c && all_digits cs

-- one to so many decimal digits
abbrev pub is_number : ℕ → List ℕ → Bool
is_number most w = nat_le 1 (length w) && nat_le (length w) most && all_digits w

abbrev pub number_of : List ℕ → ℕ
number_of w = fold (λ n c. 10 * n + (c - 48)) 0 w

-- so many workers there are where the words name no number
abbrev pub default_workers : ℕ
default_workers = 2

-- X or SEED: 1 to 9 digits
abbrev pub long_number : List ℕ → Option ℕ
long_number w = cond (is_number 9 w) (Some (number_of w)) None

-- 1 to 3 digits with a value from the one to the other
abbrev pub short_number : ℕ → ℕ → List ℕ → Option ℕ
short_number least most w = cond (is_number 3 w && nat_le least (number_of w) && nat_le (number_of w) most) (Some (number_of w)) None

-- KIND
abbrev pub kind_of_word : List ℕ → Option Kind
kind_of_word w =
    cond (bytes_eq w (codes "wk")) (Some (Named Wk))
    (cond (bytes_eq w (codes "bgw")) (Some (Named Bgw))
    (cond (bytes_eq w (codes "wp")) (Some (Named Wp))
    (cond (bytes_eq w (codes "-")) (Some Text) None)))

-- FAMILY
abbrev pub family_of_word : List ℕ → Option Family
family_of_word w = cond (bytes_eq w (codes "wk")) (Some Wk) (cond (bytes_eq w (codes "bgw")) (Some Bgw) None)

-- the key or the pair that is asked for is stable: 2g - 2 + n is above 0
abbrev pub is_stable : Reading → Bool
is_stable (Number family key) = nat_le 1 (euler key.g (length key.idx))
is_stable (Volume g n) = nat_le 1 (euler g n)
is_stable (Table kind X workers) = true
is_stable (Probe X workers) = true
is_stable (Session kind X workers lines) = true
is_stable (Relations N kind) = true
is_stable (Bulk seed dim X workers) = true
is_stable (Refused place) = true

-- the reading, or the place where it is refused because what is asked for isn't stable
abbrev pub settled : ℕ → Reading → Reading
settled place reading = cond (is_stable reading) reading (Refused place)
