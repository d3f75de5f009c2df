use Rattle.std.proofs.Common.{◌≡◌}
use Rattle.sparse_tensor.specs.Entries.{looked_up}
use Rattle.airy_relations.specs.Places.{from_to}
use Rattle.airy_relations.specs.Verdicts.{first_over, verdict_at}
use Rattle.airy_relations.specs.Walks.{place, over_l}
use Rattle.airy_relations.proofs.checks.check_l.Given as goal

abbrev pub invariant-loop-l : goal.invariant-loop-l
invariant-loop-l l = first_over (from_to l.l l.end) (λ m. verdict_at (looked_up l.t) (place l.rel l.i l.j l.k m)) ≡ over_l (looked_up l.t) l.places l.rel l.i l.j l.k
