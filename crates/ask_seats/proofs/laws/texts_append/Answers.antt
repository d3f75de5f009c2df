use Rattle.ask_seats.proofs.SpeakLemmas.{text-append}
use Rattle.ask_seats.proofs.laws.texts_append.Goals as goal

pub returns : goal.returns
returns c = text-append
