use Rattle.std.proofs.Common.{◌≤◌}
use Rattle.fill_crew.specs.Crews.{HasWorked}
use Rattle.fill_crew.proofs.crew.work.Given as goal

abbrev pub invariant-loop : goal.invariant-loop
invariant-loop g l = HasWorked l.board l.initial.member.seat l.member.seat × (l.done ≤ l.counter)
