use Rattle.airy_curve.specs.Numbers.{Begins}
use Rattle.airy_curve.proofs.numbers.sequence_of.Given as goal

abbrev pub invariant-loop-l : goal.invariant-loop-l
invariant-loop-l l = Begins l.list l.l l.sequence
