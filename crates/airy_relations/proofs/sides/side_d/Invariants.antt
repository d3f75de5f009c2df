use Rattle.std.proofs.Common.{◌≡◌, Some, drop, map}
use Rattle.sparse_tensor.specs.Entries.{looked_up}
use Rattle.airy_relations.specs.Sides.{D, obtained_side, of_pair}
use Rattle.airy_relations.specs.Steps.{added_all}
use Rattle.airy_relations.proofs.sides.side_d.Given as goal

abbrev pub invariant-loop-entry : goal.invariant-loop-entry
invariant-loop-entry l = added_all (Some l.total) (map (of_pair (looked_up l.t) l.j) (drop l.entry-index l.row)) ≡ obtained_side (looked_up l.t) D l.i l.j 0 0
