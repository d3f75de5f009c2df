-- What the code's reading stands for.
use Rattle.std.specs.Prelude.{◌≡◌, ℕ, ◌+◌, ◌≤◌, List, filter_map, length, map, string_bytes, Some, Result, Ok, Err}
use Rattle.airy_math.specs.Keys.{Key}
use Rattle.command_words.specs.Asked.{kind_of}
use Rattle.airy_wait.specs.declared.words.Asked.{Asked}
use Rattle.airy_wait.specs.declared.words.Job.{Job}
use Rattle.airy_wait.specs.declared.words.Asked.TheVariants as asked
use Rattle.airy_wait.specs.Words as words
use Rattle.airy_wait.specs.Words.{key_of_word}

-- the keys of words
abbrev pub keys_of : List (List ℕ) → List Key
keys_of ws = filter_map key_of_word ws

-- those that a job's callers ask for
abbrev pub keys_asked : Job → List Key
keys_asked job = keys_of (map string_bytes job.asks.now)

abbrev pub reading : Asked → words.Reading
reading (asked.Waiting kind bound job) = words.Waiting (kind_of kind) bound job.workers job.callers (keys_asked job)
reading (asked.Refused before) = words.Refused (before + 1)

-- what is asked for, or how many words stand before the first that is refused
abbrev pub reading_by : Result Asked ℕ → words.Reading
reading_by (Ok asked) = reading asked
reading_by (Err before) = words.Refused (before + 1)

-- ---- what is known of them

-- each word is a key
abbrev pub AreKeys : List (List ℕ) → Type 0
AreKeys ws = map key_of_word ws ≡ map Some (keys_of ws)

-- a job within its limits, whose words are keys
pub record IsJob (job : Job) : Type 0 where
  pub some_workers : 1 ≤ job.workers
  pub most_workers : job.workers ≤ 16
  pub some_callers : 1 ≤ job.callers
  pub most_callers : job.callers ≤ 8
  pub most_asks : length job.asks.now ≤ 256
  pub keys : AreKeys (map string_bytes job.asks.now)

abbrev pub IsFit : Asked → Type 0
IsFit (asked.Waiting kind bound job) = IsJob job
IsFit (asked.Refused before) = Unit {0}
