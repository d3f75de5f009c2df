use Rattle.ask_seats.proofs.TalkLemmas.{key_asked}
use Rattle.ask_seats.proofs.replies.answer_line.Goals as goal

pub unreachable-requires : goal.unreachable-requires
unreachable-requires g c = let k = key_asked c.args.line.now c.requires.asks in c.in_default.not-Ask k.0 k.1
