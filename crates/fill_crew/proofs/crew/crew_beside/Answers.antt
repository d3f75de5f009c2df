use Rattle.std.proofs.Common.{◌≡◌, ◌<◌, length, map, get_or, arith, sym, ap, ◌∙◌, subst}
use Rattle.cell_words.proofs.DealLemmas.{whole}
use Rattle.cell_words.proofs.Names.{length-map}
use Rattle.fill_crew.specs.Crews.{IsIdle, HasWorked}
use Rattle.fill_crew.proofs.CrewLemmas.{unmap, map-both}
use Rattle.fill_crew.proofs.crew.crew_beside.Goals as goal

pub run_beside-answer-requires-clause-seats : goal.run_beside-answer-requires-clause-seats
run_beside-answer-requires-clause-seats g c κs within = unmap (IsIdle c.args.board.now) (λ m. m.seat) _ c.args.crew.items (ap (map (λ m. m.seat)) c.as_mut_slice.ensures.value ∙ c.seated-members.ensures) c.requires.seats

pub returns-clause-back : goal.returns-clause-back
returns-clause-back g c = λ k d l.
    let v = c.seated-members.result in let old = c.as_mut_slice.result.now in let new = c.run_beside-answer.new.members in let b = c.args.board.now in
    let items : length v.items ≡ v.len = omega (arith, v.ok.0) in
    let len : length new ≡ length old = c.run_beside-answer.ensures.len in
    let slice : length old ≡ length v.items = ap length c.as_mut_slice.ensures.value in
    let crew : map (λ m. m.seat) old ≡ c.args.crew.items = ap (map (λ m. m.seat)) c.as_mut_slice.ensures.value ∙ c.seated-members.ensures in
    let back : c.unseated.result.items ≡ map (λ m. m.seat) new = c.unseated.ensures.seats ∙ ap (map (λ m. m.seat)) (whole v.len new v.items (omega (arith, len, slice, items)) items) in
    let low : k < length old = omega (arith, l, ap length crew, length-map old (λ m. m.seat)) in
    subst (λ ss. HasWorked b (get_or ss k d) (get_or c.unseated.result.items k d)) crew
    (subst (λ ss. HasWorked b (get_or (map (λ m. m.seat) old) k d) (get_or ss k d)) (sym back) (map-both (HasWorked b) (λ m. m.seat) old new len c.run_beside-answer.ensures.back k d low))
