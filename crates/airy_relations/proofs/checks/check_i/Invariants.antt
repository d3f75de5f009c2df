use Rattle.std.proofs.Common.{◌≡◌}
use Rattle.sparse_tensor.specs.Entries.{looked_up}
use Rattle.airy_relations.specs.Places.{from_to}
use Rattle.airy_relations.specs.Verdicts.{first_over}
use Rattle.airy_relations.specs.Walks.{over_i, over_j}
use Rattle.airy_relations.proofs.checks.check_i.Given as goal

abbrev pub invariant-loop-i : goal.invariant-loop-i
invariant-loop-i l = first_over (from_to l.i l.places) (λ i. over_j (looked_up l.t) l.places l.rel i) ≡ over_i (looked_up l.t) l.places l.rel
