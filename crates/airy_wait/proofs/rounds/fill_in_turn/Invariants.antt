use Rattle.std.proofs.Common.{◌≡◌}
use Rattle.run_reports.proofs.Names.{done_of, HasWorked}
use Rattle.airy_wait.proofs.rounds.fill_in_turn.Given as goal

abbrev pub invariant-loop : goal.invariant-loop
invariant-loop g l = HasWorked l.board l.initial.seat l.seat × (done_of l.seat ≡ done_of l.initial.seat)
