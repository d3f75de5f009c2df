-- Stored tensors meet the relations that the tensors meet for which they stand.
use Rattle.std.proofs.Common.{ℕ, ◌≤◌}
use Rattle.airy_math.specs.BelowDim.{BelowDimLaw}
use Rattle.airy_math.specs.Relations.{Close}
use Rattle.airy_math.specs.Tensors.{Tensors, SameEntries}
use Rattle.airy_relations.specs.NoDifference.{NoDifferenceLaw}
use Rattle.sparse_tensor.specs.Entries.{Entries, looked_up}
use Rattle.airy_curve.specs.Storing.{MeetsRelations}
use Rattle.sparse_tensor.proofs.SoundLaw.{symmetric}

pub meets : BelowDimLaw → NoDifferenceLaw → (t : Entries) (T : Tensors) (N : ℕ) → SameEntries (looked_up t) T → N ≤ t.dim → Close T N → MeetsRelations t N
unfolding looked_up
meets same never t T N is h c =
    let closes = ((same (looked_up t) T is).relations N h).1 c in
    record { closes = closes; found = never (looked_up t) N (symmetric t) closes }
