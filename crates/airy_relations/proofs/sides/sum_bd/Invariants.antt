use Rattle.sparse_tensor.specs.Entries.{looked_up}
use Rattle.airy_relations.proofs.SumLoop.{IsAtD}
use Rattle.airy_relations.proofs.sides.sum_bd.Given as goal

abbrev pub invariant-loop-a : goal.invariant-loop-a
invariant-loop-a l = IsAtD (looked_up l.t) l.i l.j l.a l.row.rest.now l.total
