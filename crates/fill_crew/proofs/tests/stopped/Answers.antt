use Rattle.std.proofs.Common.{◌≡◌, ◌<◌, arith}
use Rattle.fill_crew.proofs.CrewLemmas.{all_back}
use Rattle.fill_crew.proofs.tests.stopped.Goals as goal

pub fill_beside-seats-requires-clause-seats : goal.fill_beside-seats-requires-clause-seats
fill_beside-seats-requires-clause-seats g c κs within = λ k d l. let all = c.in-Ok.ensures.all in (all.seats.each k d l, all.seats.free k d l)

pub close-requires : goal.close-requires
close-requires g c =
    let made = c.in-Ok.seats in let back = c.fill_beside-seats.result.0 in
    record { seats = all_back c.in-Ok.board made.items back.items c.in-Ok.ensures.all (omega (arith, c.fill_beside-seats.ensures.len, back.ok.0, made.ok.0)) (λ k d l. (c.fill_beside-seats.ensures.back k d l).back) }
