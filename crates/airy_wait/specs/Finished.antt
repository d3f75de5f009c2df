-- Asks behind a `finish`.
use Rattle.std.specs.Prelude.{◌≡◌, ◌↔◌, ℕ, List, ◌∷◌, map}
use Rattle.airy_math.specs.Keys.{Key}
use Rattle.ask_seats.specs.Replies.{Reply}
use Rattle.ask_seats.specs.Sessions.{Session, Admitted, told}
use Rattle.command_words.specs.declared.line.Line.{Line}
use Rattle.command_words.specs.declared.line.Line.TheVariants.{Ask, Finish}

-- the lines of a session that finishes first, and then asks for the keys
abbrev pub finished_asks : List Key → List Line
finished_asks keys = Finish ∷ map Ask keys

-- Such a session has one list of replies, however many workers it has: what there is to tell of the keys.
abbrev pub OneListLaw : Type 0
OneListLaw = (s : Session) (X : ℕ) (keys : List Key) (replies : List Reply)
    → Admitted s X (finished_asks keys) replies ↔ (replies ≡ map (told s.tensors s.letter X) keys)
