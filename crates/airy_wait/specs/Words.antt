-- The words of the command line of `airywait`, `KIND X WORKERS CALLERS ASK...`, from left to right. All words are plain.
use Rattle.std.specs.Prelude.{ℕ, zero, suc, List, [], ◌∷◌, ◌++◌, codes, Option, Some, None, Result, Ok, Err}
use Rattle.airy_math.specs.Keys.{Key}
use Rattle.command_words.specs.declared.line.Line.{Line}
use Rattle.command_words.specs.declared.line.Line.TheVariants.{Ask, Finish, Grow}
use Rattle.command_words.specs.Scripts.{line_of_word}
use Rattle.command_words.specs.Words.{Kind, kind_of_word, long_number, short_number}
use Rattle.command_words.specs.Options.{Parted, Next, End, Broken, next_read, items, read_item}
use Rattle.command_words.specs.Refusals.{FindsFirst}
use Rattle.more_words.specs.MoreWords.{numbered}

-- what the words ask for, or the number of the first word that breaks a rule; missing words have the count of words plus 1
pub data Reading : Type 0 where
  -- of a structure, up to a bound, with so many workers and callers: what these keys have, in order
  Waiting : Kind → ℕ → ℕ → ℕ → List Key → Reading
  Refused : ℕ → Reading

-- ---- asks

abbrev pub key_of_line : Option Line → Option Key
key_of_line None = None
key_of_line (Some (Ask key)) = Some key
key_of_line (Some Finish) = None
key_of_line (Some (Grow X)) = None

-- ASK: what may follow `ask:` in a word of a script
unfoldable pub key_of_word : List ℕ → Option Key
key_of_word w = key_of_line (line_of_word (codes "ask:" ++ w))

-- keys up to the end, at most so many
abbrev pub keys : ℕ → Parted → Result (List Key) ℕ
keys room s = items key_of_word room s

-- ---- the places

-- what a thing that was read leads to, or the number of the refused word
abbrev pub goes_on : {A : Type 0} → (A → Reading) → Result A ℕ → Reading
goes_on f (Ok x) = f x
goes_on f (Err place) = Refused place

abbrev pub reads : {A : Type 0} → (List ℕ → Option A) → (A → Parted → Reading) → Parted → Reading
reads read f s = goes_on (λ x. f x.0 x.1) (next_read read s)

-- one key or more, up to 256
abbrev pub all_keys : Parted → Result (List Key) ℕ
all_keys (End place n) = Err place
all_keys (Broken place) = Err place
all_keys (Next place w s) = read_item (key_of_word w) place (keys 255 s)

abbrev pub reads_keys : (List Key → Reading) → Parted → Reading
reads_keys f s = goes_on f (all_keys s)

-- WORKERS: 1 to 3 digits with a value from 1 to 16, and CALLERS: with one from 1 to 8
abbrev pub crew_number : List ℕ → Option ℕ
crew_number w = short_number 1 16 w

abbrev pub caller_number : List ℕ → Option ℕ
caller_number w = short_number 1 8 w

-- what the words ask for, from the number of the first word on
abbrev pub read_waiting : Parted → Reading
read_waiting = reads kind_of_word λ kind. reads long_number λ X. reads crew_number λ n. reads caller_number λ c.
    reads_keys (Waiting kind X n c)

unfoldable pub reading_of : List (List ℕ) → Reading
reading_of ws = read_waiting (numbered 1 ws)

-- ---- the first word that is refused

-- the number of the refused word, where one is
abbrev pub refused_of : Reading → Option ℕ
refused_of (Waiting kind X workers callers keys) = None
refused_of (Refused place) = Some place

abbrev pub refuses : List (List ℕ) → Option ℕ
refuses ws = refused_of (reading_of ws)

-- the number that a reading refuses the words with is that of the first refused word, and only where there is none it refuses nothing
unfoldable pub RefusesFirst : Reading → List (List ℕ) → Type 0
RefusesFirst reading ws = FindsFirst refuses refuses (refused_of reading) ws

abbrev pub FirstRefusedLaw : Type 0
FirstRefusedLaw = (ws : List (List ℕ)) → RefusesFirst (reading_of ws) ws
