-- The words of a command line with its options: every command's reading, from left to right.
use Rattle.std.specs.Prelude.{ℕ, zero, suc, ◌+◌, nat_eq, nat_lt, List, [], ◌∷◌, length, take, drop, codes, Bool, true, false, cond}
use Rattle.std.specs.Prelude.{Option, Some, None, Result, Ok, Err}
use Rattle.airy_math.specs.Keys.{key_of, ordered}
use Rattle.std.specs.Str.{bytes_eq}
use Rattle.command_words.specs.declared.line.Line.{Line}
use Rattle.command_words.specs.declared.line.Line.TheVariants.{Ask, Finish, Grow}
use Rattle.command_words.specs.Scripts.{byte_of_word, line_of_word}
use Rattle.command_words.specs.Words.{Reading, Table, Session, Probe, Relations, Number, Volume, Bulk, Refused, settled, default_workers}
use Rattle.command_words.specs.Words.{long_number, short_number, kind_of_word, family_of_word}

-- ---- the options

-- The words behind the first, parted into the plain ones, each with its number, and what ends them.
pub data Parted : Type 0 where
  -- a plain word, and what comes behind it
  Next : ℕ → List ℕ → Parted → Parted
  -- nothing is left: the number that a missing word has, and the number of workers
  End : ℕ → ℕ → Parted
  -- a word that breaks a rule of the options; behind it nothing is read
  Broken : ℕ → Parted

-- what a word may be, by the words before it
pub data Mode : Type 0 where
  -- an option, `--workers` among them or not, or a plain word; the number of workers so far
  Options : Bool → ℕ → Mode
  -- the value of `--workers`
  Value : Mode
  -- behind `--` all words are plain
  Dashed : ℕ → Mode

-- what is done with a word
pub data Act : Type 0 where
  Take : Mode → Act
  Skip : Mode → Act
  Break : Act

-- a value of `--workers`, which may stand once: a number up to 16
abbrev pub value_by : Option ℕ → Act
value_by None = Break
value_by (Some n) = Skip (Options false n)

abbrev pub value_act : List ℕ → Act
value_act w = value_by (short_number 0 16 w)

-- a word that begins with `-` (45) and isn't `-` alone
abbrev pub begins_dash : List ℕ → Bool
begins_dash [] = false
begins_dash (c ∷ []) = false
begins_dash (c ∷ d ∷ w) = nat_eq c 45

abbrev pub option_act : Bool → ℕ → List ℕ → Act
option_act may n w =
    cond (bytes_eq w (codes "--")) (Skip (Dashed n))
    (cond (bytes_eq w (codes "--workers")) (cond may (Skip Value) Break)
    (cond (bytes_eq (take 10 w) (codes "--workers=")) (cond may (value_act (drop 10 w)) Break)
    (cond (begins_dash w) Break (Take (Options may n)))))

abbrev pub act : Mode → List ℕ → Act
act (Options may n) w = option_act may n w
act Value w = value_act w
act (Dashed n) w = Take (Dashed n)

-- nothing is left
abbrev pub at_last : Mode → ℕ → Parted
at_last (Options may n) place = End place n
at_last Value place = Broken place
at_last (Dashed n) place = End place n

abbrev pub after : Act → ℕ → List ℕ → (Mode → Parted) → Parted
after (Take mode) place w behind = Next place w (behind mode)
after (Skip mode) place w behind = behind mode
after Break place w behind = Broken place

-- the words from a place on
abbrev pub parted : Mode → ℕ → List (List ℕ) → Parted
parted mode place [] = at_last mode place
parted mode place (w ∷ ws) = after (act mode w) place w (λ m. parted m (place + 1) ws)

-- the words behind the first, in a command that lists `--workers` or doesn't
abbrev pub behind_first : Bool → List (List ℕ) → Parted
behind_first lists ws = parted (Options lists default_workers) 2 ws

-- ---- the places of the commands

-- what a thing that was read leads to, or the number of the refused word
abbrev pub goes_on : {A : Type 0} → (A → Reading) → Result A ℕ → Reading
goes_on f (Ok x) = f x
goes_on f (Err place) = Refused place

-- the number of workers, where no word is left
abbrev pub ended : Parted → Result ℕ ℕ
ended (Next place w s) = Err place
ended (End place n) = Ok n
ended (Broken place) = Err place

abbrev pub ends : (ℕ → Reading) → Parted → Reading
ends f s = goes_on f (ended s)

abbrev pub with_rest : {A : Type 0} → Option A → ℕ → Parted → Result (A × Parted) ℕ
with_rest None place s = Err place
with_rest (Some x) place s = Ok (x, s)

-- the next plain word as it is read for its place, and the words behind it
abbrev pub next_read : {A : Type 0} → (List ℕ → Option A) → Parted → Result (A × Parted) ℕ
next_read read (Next place w s) = with_rest (read w) place s
next_read read (End place n) = Err place
next_read read (Broken place) = Err place

abbrev pub reads : {A : Type 0} → (List ℕ → Option A) → (A → Parted → Reading) → Parted → Reading
reads read f s = goes_on (λ x. f x.0 x.1) (next_read read s)

-- ---- words up to the end

-- one thing before others
abbrev pub with_item : {A : Type 0} → A → Result (List A) ℕ → Result (List A) ℕ
with_item x (Ok xs) = Ok (x ∷ xs)
with_item x (Err place) = Err place

abbrev pub read_item : {A : Type 0} → Option A → ℕ → Result (List A) ℕ → Result (List A) ℕ
read_item None place behind = Err place
read_item (Some x) place behind = with_item x behind

-- the plain words up to the end as they are read, at most so many
abbrev pub items : {A : Type 0} → (List ℕ → Option A) → ℕ → Parted → Result (List A) ℕ
items read room (End place n) = Ok []
items read room (Broken place) = Err place
items read zero (Next place w s) = Err place
items read (suc room) (Next place w s) = read_item (read w) place (items read room s)

-- ---- scripts

-- a word of a script: whether `finish` stands before it in its part, the last bound before it, and what is said of the words behind
abbrev pub fault_by : Option Line → ℕ → Bool → ℕ → (Bool → ℕ → Option ℕ) → Option ℕ
fault_by None place finished X behind = Some place
fault_by (Some (Ask key)) place finished X behind = behind finished X
fault_by (Some Finish) place false X behind = behind true X
fault_by (Some Finish) place true X behind = Some place
fault_by (Some (Grow Y)) place finished X behind = cond (nat_lt X Y) (behind false Y) (Some place)

-- The number of the first word that breaks a rule. A script has a word or more, `finish` stands at most once in each part, before the
-- first `grow`, between two, and behind the last, and each `grow` has a number above all bounds before it. Behind so much: whether a
-- word stands before, whether `finish` does in this part, and the last bound.
abbrev pub fault_of : Bool → Bool → ℕ → Parted → Option ℕ
fault_of some finished X (Next place w s) = fault_by (line_of_word w) place finished X (λ once Y. fault_of true once Y s)
fault_of false finished X (End place n) = Some place
fault_of true finished X (End place n) = None
fault_of some finished X (Broken place) = Some place

abbrev pub line_then : Option Line → List Line → List Line
line_then None lines = lines
line_then (Some line) lines = line ∷ lines

-- the lines of the words
abbrev pub lines_of : Parted → List Line
lines_of (Next place w s) = line_then (line_of_word w) (lines_of s)
lines_of (End place n) = []
lines_of (Broken place) = []

-- the number of workers
abbrev pub workers_of : Parted → ℕ
workers_of (Next place w s) = workers_of s
workers_of (End place n) = n
workers_of (Broken place) = default_workers

abbrev pub script_by : Option ℕ → Reading → Reading
script_by None reading = reading
script_by (Some place) reading = Refused place

-- a script behind the bound X
abbrev pub script : ℕ → (ℕ → List Line → Reading) → Parted → Reading
script X f s = script_by (fault_of false false X s) (f (workers_of s) (lines_of s))

-- ---- the commands

abbrev pub read_table : Parted → Reading
read_table = reads kind_of_word λ kind. reads long_number λ X. ends λ n. Table kind X n

abbrev pub read_probe : Parted → Reading
read_probe = reads long_number λ X. ends λ n. Probe X n

abbrev pub read_session : Parted → Reading
read_session = reads kind_of_word λ kind. reads long_number λ X. script X (Session kind X)

abbrev pub read_relations : Parted → Reading
read_relations = reads (short_number 1 32) λ N. reads kind_of_word λ kind. ends λ n. Relations N kind

-- one index or more, and at most 26
abbrev pub read_number : Parted → Reading
read_number = reads family_of_word λ family. reads byte_of_word λ g. reads byte_of_word λ d s.
    goes_on (λ ds. Number family (key_of g (ordered ds))) (with_item d (items byte_of_word 25 s))

abbrev pub read_volume : Parted → Reading
read_volume = reads byte_of_word λ g. reads (short_number 1 26) λ n. ends λ k. Volume g n

abbrev pub read_bulk : Parted → Reading
read_bulk = reads long_number λ seed. reads (short_number 1 8) λ dim. reads long_number λ X. ends λ n. Bulk seed dim X n

-- the reading by the rules of the words
unfoldable pub worded_of : List (List ℕ) → Reading
worded_of [] = Refused 1
worded_of (w ∷ ws) =
    cond (bytes_eq w (codes "table")) (read_table (behind_first true ws))
    (cond (bytes_eq w (codes "probe")) (read_probe (behind_first true ws))
    (cond (bytes_eq w (codes "session")) (read_session (behind_first true ws))
    (cond (bytes_eq w (codes "relations")) (read_relations (behind_first false ws))
    (cond (bytes_eq w (codes "number")) (read_number (behind_first false ws))
    (cond (bytes_eq w (codes "volume")) (read_volume (behind_first false ws))
    (cond (bytes_eq w (codes "bulk")) (read_bulk (behind_first true ws)) (Refused 1)))))))

-- the same, but what isn't stable is refused behind all words
unfoldable pub reading_of : List (List ℕ) → Reading
reading_of ws = settled (length ws + 1) (worded_of ws)
