use Rattle.std.proofs.Common.{rules, ◌≡◌, ◌++◌, ◌≤◌, [], ◌∷◌, length, true, refl, vec_capacity}
use Rattle.cell_words.proofs.Names.{dependents_at, act_of}
use Rattle.cell_words.proofs.SeatLemmas.{done_seat}
use Rattle.cell_words.proofs.countdown.Countdown.receipt.Goals as goal

pub returns-clause-rests : goal.returns-clause-rests
returns-clause-rests c =
    let b = c.args.self.now in let s = c.args.seat.now in
    let items : c.push.new.self.items ≡ s.done.items ++ c.args.rank ∷ [] = search rules in
    let more : vec_capacity s.done ≤ vec_capacity c.push.new.self = search rules in
    done_seat b s _ (act_of c.args.rank 4 true (length (dependents_at b.base.plan c.args.rank)) c.requires.act.0) c.requires.act.1 refl refl refl refl items more
