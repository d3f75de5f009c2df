use Rattle.cell_words.proofs.tests.last_seats.Goals as goal

pub last_two-first-requires-clause-each : goal.last_two-first-requires-clause-each
last_two-first-requires-clause-each c = λ k d l. let s = c.in-Ok.ensures.seats k d l in (s.seat, s.held, s.number)
