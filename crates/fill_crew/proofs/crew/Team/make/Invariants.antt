use Rattle.std.proofs.Common.{◌≡◌, vec_len}
use Rattle.fill_crew.proofs.crew.Team.make.Given as goal

abbrev pub invariant-loop : goal.invariant-loop
invariant-loop g l = vec_len l.deques ≡ l.counter
