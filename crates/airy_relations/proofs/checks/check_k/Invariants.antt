use Rattle.std.proofs.Common.{◌≡◌}
use Rattle.sparse_tensor.specs.Entries.{looked_up}
use Rattle.airy_relations.specs.Places.{from_to}
use Rattle.airy_relations.specs.Verdicts.{first_over}
use Rattle.airy_relations.specs.Walks.{over_k, over_l}
use Rattle.airy_relations.proofs.checks.check_k.Given as goal

abbrev pub invariant-loop-k : goal.invariant-loop-k
invariant-loop-k l = first_over (from_to l.k l.end) (λ k. over_l (looked_up l.t) l.places l.rel l.i l.j k) ≡ over_k (looked_up l.t) l.places l.rel l.i l.j
