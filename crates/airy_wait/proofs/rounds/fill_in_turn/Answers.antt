use Rattle.std.proofs.Common.{◌++◌, ◌∷◌, [], inl, inr, refl, ap, ◌∙◌}
use Rattle.fill_crew.proofs.CrewLemmas.{worked_none, worked_more}
use Rattle.airy_wait.proofs.rounds.fill_in_turn.Goals as goal

pub loop-init : goal.loop-init
loop-init g c = (worked_none c.args.board.now c.args.seat.now c.requires.seat, refl)

pub claim-requires-clause-seat : goal.claim-requires-clause-seat
claim-requires-clause-seat g c = c.loop.invariant.0.back.seat

pub claim-requires-clause-free : goal.claim-requires-clause-free
claim-requires-clause-free g c = c.loop.invariant.0.back.held

pub returns-in-Mine-clause-back : goal.returns-in-Mine-clause-back
returns-in-Mine-clause-back g c =
    let r = c.args.rank in let e = c.fill.ensures in let d = c.claim.ensures in
    worked_more c.args.board.now c.args.seat.now c.loop.seat c.fill.new.seat (r ∷ []) c.loop.invariant.0 (e.seat, e.held) (e.number ∙ d.number)
    (e.done ∙ ap (λ l. l ++ r ∷ []) d.done) (λ k known. e.keeps k (d.keeps k known))

pub returns-in-Mine-clause-fills : goal.returns-in-Mine-clause-fills
returns-in-Mine-clause-fills g c = inr (c.fill.ensures.done ∙ ap (λ l. l ++ c.args.rank ∷ []) (c.claim.ensures.done ∙ c.loop.invariant.1))

pub returns-in-Mine-clause-passed : goal.returns-in-Mine-clause-passed
returns-in-Mine-clause-passed g c = inl c.fill.ensures.knows
