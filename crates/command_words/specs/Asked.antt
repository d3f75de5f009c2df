-- What the code's reading stands for.
use Rattle.std.specs.Prelude.{◌≡◌, ◌≢◌, ℕ, ◌+◌, ◌≤◌, false, Some, None, Result, Ok, Err, ◌<◌, ◌^◌, length, map, string_bytes}
use Rattle.airy_math.specs.declared.Family.TheVariants.{Wp}
use Rattle.airy_math.specs.Keys.{euler}
use Rattle.airy_index.specs.Fields.{IsKey}
use Rattle.command_words.specs.declared.asked.Asked.{Asked}
use Rattle.command_words.specs.declared.asked.Asked.TheVariants as asked
use Rattle.command_words.specs.declared.asked.Kind.{Kind}
use Rattle.command_words.specs.declared.asked.Kind.TheVariants as kind
use Rattle.command_words.specs.declared.options.Mode.{Mode}
use Rattle.command_words.specs.declared.options.Mode.TheVariants as mode
use Rattle.command_words.specs.declared.options.Act.{Act}
use Rattle.command_words.specs.declared.options.Act.TheVariants as act
use Rattle.command_words.specs.declared.options.Left.{Left}
use Rattle.command_words.specs.declared.options.Next.{Next}
use Rattle.command_words.specs.declared.options.Next.TheVariants as next
use Rattle.command_words.specs.declared.line.Line.{Line}
use Rattle.command_words.specs.declared.line.Line.TheVariants as line
use Rattle.command_words.specs.declared.scripts.ScriptWord.{ScriptWord}
use Rattle.command_words.specs.declared.scripts.ScriptWord.TheVariants as script
use Rattle.command_words.specs.Bounds.{IsScript}
use Rattle.command_words.specs.Words as words
use Rattle.command_words.specs.Options as options

abbrev pub kind_of : Kind → words.Kind
kind_of (kind.Named family) = words.Named family
kind_of kind.Text = words.Text

abbrev pub mode_of : Mode → options.Mode
mode_of (mode.Options may workers) = options.Options may workers
mode_of mode.Value = options.Value
mode_of (mode.Dashed workers) = options.Dashed workers

abbrev pub act_of : Act → options.Act
act_of (act.Take m) = options.Take (mode_of m)
act_of (act.Skip m) = options.Skip (mode_of m)
act_of act.Break = options.Break

abbrev pub parted_of : Left → options.Parted
parted_of l = options.parted (mode_of l.mode) (l.before + 1) (map string_bytes l.words.now)

abbrev pub line_as : ScriptWord → Line
line_as (script.Ask key) = line.Ask key
line_as script.Finish = line.Finish
line_as (script.Grow X) = line.Grow X

abbrev pub token : Next → options.Parted
token (next.Word before word left) = options.Next (before + 1) word.now (parted_of left)
token (next.End before workers) = options.End (before + 1) workers
token (next.Broken before) = options.Broken (before + 1)

abbrev pub reading : Asked → words.Reading
reading (asked.Table k bound workers) = words.Table (kind_of k) bound workers
reading (asked.Session k bound workers script) = words.Session (kind_of k) bound workers (options.lines_of (parted_of script))
reading (asked.Probe bound workers) = words.Probe bound workers
reading (asked.Relations places k) = words.Relations places (kind_of k)
reading (asked.Number family key) = words.Number family key
reading (asked.Volume genus places) = words.Volume genus places
reading (asked.Bulk seed dim bound workers) = words.Bulk seed dim bound workers
reading (asked.Refused before) = words.Refused (before + 1)

-- what is asked for, or how many words stand before the first that is refused
abbrev pub reading_by : Result Asked ℕ → words.Reading
reading_by (Ok asked) = reading asked
reading_by (Err before) = words.Refused (before + 1)

-- a place that was read as something, and the words behind it
abbrev pub taken : {A B : Type 0} → (A → B) → Result (A × Left) ℕ → Result (B × options.Parted) ℕ
taken f (Ok x) = Ok (f x.0, parted_of x.1)
taken f (Err before) = Err (before + 1)

-- something that was read up to the end
abbrev pub whole : {A B : Type 0} → (A → B) → Result A ℕ → Result B ℕ
whole f (Ok x) = Ok (f x)
whole f (Err before) = Err (before + 1)

-- ---- what is known of them

-- a number of places that can be checked
abbrev pub IsPlaces : ℕ → Type 0
IsPlaces n = (1 ≤ n) × (n ≤ 32)

-- a number of workers
abbrev pub IsCrew : ℕ → Type 0
IsCrew n = n ≤ 16

abbrev pub IsMode : Mode → Type 0
IsMode (mode.Options may workers) = IsCrew workers
IsMode mode.Value = Unit {0}
IsMode (mode.Dashed workers) = IsCrew workers

abbrev pub IsAct : Act → Type 0
IsAct (act.Take m) = IsMode m
IsAct (act.Skip m) = IsMode m
IsAct act.Break = Unit {0}

-- the words can be counted
abbrev pub IsLeft : Left → Type 0
IsLeft l = IsMode l.mode × (l.before + length l.words.now < 2 ^ 64)

abbrev pub IsNext : Next → Type 0
IsNext (next.Word before word left) = IsLeft left
IsNext (next.End before workers) = IsCrew workers
IsNext (next.Broken before) = Unit {0}

-- words that come next are fewer
abbrev pub IsShorter : ℕ → Next → Type 0
IsShorter n (next.Word before word left) = length left.words.now < n
IsShorter n (next.End before workers) = Unit {0}
IsShorter n (next.Broken before) = Unit {0}

-- the words are those of a script behind the bound X, or this is the first that breaks a rule
abbrev pub IsChecked : ℕ → Result ℕ ℕ → options.Parted → Type 0
IsChecked X (Ok n) s = (options.fault_of false false X s ≡ None) × (options.workers_of s ≡ n) × IsCrew n
IsChecked X (Err before) s = options.fault_of false false X s ≡ Some (before + 1)

-- the numbers of what is asked for are within their limits
abbrev pub IsFit : Asked → Type 0
IsFit (asked.Relations places k) = IsPlaces places
IsFit (asked.Table k bound workers) = IsCrew workers
IsFit (asked.Session k bound workers script) = IsCrew workers × IsLeft script × IsScript bound (options.lines_of (parted_of script))
IsFit (asked.Probe bound workers) = IsCrew workers
IsFit (asked.Number family key) = IsKey key.g key.idx × (family ≢ Wp)
IsFit (asked.Volume genus places) = (0 < euler genus places) × (1 ≤ places) × (places ≤ 26)
IsFit (asked.Bulk seed dim bound workers) = (seed < 10 ^ 9) × (1 ≤ dim) × (dim ≤ 8) × IsCrew workers
IsFit (asked.Refused before) = Unit {0}
