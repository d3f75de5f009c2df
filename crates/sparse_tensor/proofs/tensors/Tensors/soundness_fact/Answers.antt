use Rattle.std.proofs.Common.{subst}
use Rattle.sparse_tensor.specs.Entries.{Entries}
use Rattle.sparse_tensor.specs.Grades.{AreSound}
use Rattle.sparse_tensor.proofs.SoundLaw.{sound}
use Rattle.sparse_tensor.proofs.tensors.Tensors.soundness_fact.Goals as goal

pub returns : goal.returns
returns c = subst (λ (t : Entries). AreSound t) c.self.view_is (sound _ c.self.invariant.entries)
