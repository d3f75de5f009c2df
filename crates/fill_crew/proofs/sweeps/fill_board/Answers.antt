use Rattle.std.proofs.Common.{rules, ◌≡◌, ◌++◌, ◌∷◌, [], arith, sym, subst}
use Rattle.cell_words.proofs.Names.{AreAll}
use Rattle.fill_crew.proofs.CrewLemmas.{rest_idle, last_idle, rejoined, idle_back}
use Rattle.fill_crew.proofs.sweeps.fill_board.Goals as goal

pub fill_beside-seats-requires-clause-seats : goal.fill_beside-seats-requires-clause-seats
fill_beside-seats-requires-clause-seats g c κs within = λ k d l.
    let rest = c.pop.new.self in let own = c.in-Some.own in
    let is : c.args.seats.items ≡ rest.items ++ own ∷ [] = search rules in
    rest_idle c.args.board c.args.seats.items rest.items own c.requires.seats is k d l

pub close_swept-requires : goal.close_swept-requires
close_swept-requires g c =
    let b = c.args.board in let rest = c.pop.new.self in let own = c.in-Some.own in let back = c.fill_beside-seats.result.0 in
    let is : c.args.seats.items ≡ rest.items ++ own ∷ [] = search rules in
    let pushed : c.push.new.self.items ≡ back.items ++ own ∷ [] = search rules in
    subst (AreAll b) (sym pushed)
    (rejoined b c.args.seats.items rest.items own c.requires.seats is back.items own (omega (arith, c.fill_beside-seats.ensures.len, back.ok.0, rest.ok.0)) (λ k d l. (c.fill_beside-seats.ensures.back k d l).back)
    (idle_back b own (last_idle b c.args.seats.items rest.items own c.requires.seats is)))
