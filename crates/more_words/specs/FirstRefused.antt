-- The first word that is refused. No word breaks a rule, and none is missing, exactly where the words are accepted.
use Rattle.std.specs.Prelude.{ℕ, List, Option, Some, None}
use Rattle.command_words.specs.Refusals.{FindsFirst}
use Rattle.more_words.specs.MoreWords.{Reading, Curve, CurveRelations, Brackets, Quick, Json, Verify, Refused, reading_of}

-- the number that a reading refuses the words with
abbrev pub refused_of : Reading → Option ℕ
refused_of (Curve X workers us) = None
refused_of (CurveRelations N us) = None
refused_of Brackets = None
refused_of (Quick X workers) = None
refused_of (Json kind X workers) = None
refused_of Verify = None
refused_of (Refused place) = Some place

abbrev pub refuses : List (List ℕ) → Option ℕ
refuses ws = refused_of (reading_of ws)

-- the number that a reading refuses the words with is that of the first refused word, and only where there is none it refuses nothing
unfoldable pub RefusesFirst : Reading → List (List ℕ) → Type 0
RefusesFirst reading ws = FindsFirst refuses refuses (refused_of reading) ws

abbrev pub FirstRefusedLaw : Type 0
FirstRefusedLaw = (ws : List (List ℕ)) → RefusesFirst (reading_of ws) ws
