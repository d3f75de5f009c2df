use Rattle.std.proofs.Common.{◌≡◌}
use Rattle.cell_words.proofs.Names.{number_of}
use Rattle.fill_crew.specs.Crews.{IsIdle}
use Rattle.fill_crew.proofs.tests.pass.Given as goal

abbrev pub invariant-loop-k : goal.invariant-loop-k
invariant-loop-k l = IsIdle l.board l.seat × (number_of l.seat ≡ number_of l.initial.seat)
