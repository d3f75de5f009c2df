use Rattle.std.specs.Prelude.{pos}
use Rattle.running_sum.proofs.UnreducedLemmas.{none_of}
use Rattle.running_sum.proofs.unreduced.Unreduced.none.Goals as goal

pub returns : goal.returns
returns c = none_of (pos 0) 0
