-- What the code's reading stands for.
use Rattle.std.specs.Prelude.{ℕ, ◌+◌, ◌≤◌, ◌<◌, ◌^◌, List, [], ◌∷◌, length, map, string_bytes, Result, Ok, Err}
use Rattle.command_words.specs.Asked.{IsCrew, IsPlaces, kind_of}
use Rattle.command_words.specs.Options.{Parted, Next, End}
use Rattle.more_words.specs.declared.asked.MoreAsked.{MoreAsked}
use Rattle.more_words.specs.declared.asked.MoreAsked.TheVariants as asked
use Rattle.more_words.specs.declared.places.Left.{Left}
use Rattle.more_words.specs.MoreWords as words

abbrev pub numbered_of : Left → Parted
numbered_of l = words.numbered (l.before + 1) (map string_bytes l.words.now)

abbrev pub reading : MoreAsked → words.Reading
reading (asked.Curve bound workers u) = words.Curve bound workers u
reading (asked.CurveRelations places u) = words.CurveRelations places u
reading asked.Brackets = words.Brackets
reading (asked.Quick bound workers) = words.Quick bound workers
reading (asked.Json kind bound workers) = words.Json (kind_of kind) bound workers
reading asked.Verify = words.Verify
reading (asked.Refused before) = words.Refused (before + 1)

-- what is asked for, or how many words stand before the first that is refused
abbrev pub reading_by : Result MoreAsked ℕ → words.Reading
reading_by (Ok asked) = reading asked
reading_by (Err before) = words.Refused (before + 1)

-- the next word and the words behind it, or how many words stand before the one that is missing
abbrev pub told : {A : Type 0} → (A → List ℕ) → Result (A × Left) ℕ → Parted
told f (Ok x) = Next x.1.before (f x.0) (numbered_of x.1)
told f (Err before) = End (before + 1) 0

-- the words that are left: the next word before those behind it, or none
abbrev pub words_by : {A : Type 0} → (A → List ℕ) → Result (A × Left) ℕ → List (List ℕ)
words_by f (Ok x) = f x.0 ∷ map string_bytes x.1.words.now
words_by f (Err before) = []

-- a word that was read as something, and the words behind it
abbrev pub taken : {A B : Type 0} → (A → B) → Result (A × Left) ℕ → Result (B × Parted) ℕ
taken f (Ok x) = Ok (f x.0, numbered_of x.1)
taken f (Err before) = Err (before + 1)

-- something that was read up to the end
abbrev pub whole : {A B : Type 0} → (A → B) → Result A ℕ → Result B ℕ
whole f (Ok x) = Ok (f x)
whole f (Err before) = Err (before + 1)

-- ---- what is known of them

-- the words can be counted
abbrev pub IsLeft : Left → Type 0
IsLeft l = l.before + length l.words.now < 2 ^ 64

-- the numbers of what is asked for are within their limits
abbrev pub IsFit : MoreAsked → Type 0
IsFit (asked.Curve bound workers u) = (bound < 10 ^ 9) × IsCrew workers × (length u ≤ 24)
IsFit (asked.CurveRelations places u) = IsPlaces places × (length u ≤ 24)
IsFit asked.Brackets = Unit {0}
IsFit (asked.Quick bound workers) = (bound < 10 ^ 9) × IsCrew workers
IsFit (asked.Json kind bound workers) = (bound < 10 ^ 9) × IsCrew workers
IsFit asked.Verify = Unit {0}
IsFit (asked.Refused before) = Unit {0}
