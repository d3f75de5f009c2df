use Rattle.std.proofs.Common.{◌≡◌, None}
use Rattle.cell_words.proofs.Names.{IsSeatOf, held_of, number_of}
use Rattle.cell_words.proofs.tests.work.Given as goal

abbrev pub invariant-loop-rank : goal.invariant-loop-rank
invariant-loop-rank l = IsSeatOf l.board l.seat × (held_of l.seat ≡ None) × (number_of l.seat ≡ number_of l.fn.seat)

abbrev pub invariant-loop : goal.invariant-loop
invariant-loop l = IsSeatOf l.board l.seat × (held_of l.seat ≡ None) × (number_of l.seat ≡ number_of l.fn.seat)
