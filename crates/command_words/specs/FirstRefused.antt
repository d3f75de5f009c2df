-- The first word that is refused.
use Rattle.std.specs.Prelude.{ℕ, List, Option, Some, None}
use Rattle.command_words.specs.Words.{Reading, Table, Session, Probe, Relations, Number, Volume, Bulk, Refused}
use Rattle.command_words.specs.Options.{worded_of, reading_of}
use Rattle.command_words.specs.Refusals.{FindsFirst}

-- the number that a reading refuses the words with
abbrev pub refused_of : Reading → Option ℕ
refused_of (Table kind X workers) = None
refused_of (Probe X workers) = None
refused_of (Session kind X workers lines) = None
refused_of (Relations N kind) = None
refused_of (Number family key) = None
refused_of (Volume g n) = None
refused_of (Bulk seed dim X workers) = None
refused_of (Refused place) = Some place

-- the word that breaks a rule, or is missing
abbrev pub breaks : List (List ℕ) → Option ℕ
breaks ws = refused_of (worded_of ws)

-- and behind all words, where the key or the pair that is asked for isn't stable
abbrev pub refuses : List (List ℕ) → Option ℕ
refuses ws = refused_of (reading_of ws)

-- the number that a reading refuses the words with is that of the first refused word, and only where there is none it refuses nothing
unfoldable pub RefusesFirst : Reading → List (List ℕ) → Type 0
RefusesFirst reading ws = FindsFirst breaks refuses (refused_of reading) ws

abbrev pub FirstRefusedLaw : Type 0
FirstRefusedLaw = (ws : List (List ℕ)) → RefusesFirst (reading_of ws) ws
