use Rattle.std.proofs.Common.{◌≡◌}
use Rattle.sparse_tensor.specs.Entries.{looked_up}
use Rattle.airy_relations.specs.Places.{from_to}
use Rattle.airy_relations.specs.Verdicts.{first_over}
use Rattle.airy_relations.specs.Walks.{over_j, over_k}
use Rattle.airy_relations.proofs.checks.check_j.Given as goal

abbrev pub invariant-loop-j : goal.invariant-loop-j
invariant-loop-j l = first_over (from_to l.j l.places) (λ j. over_k (looked_up l.t) l.places l.rel l.i j) ≡ over_j (looked_up l.t) l.places l.rel l.i
