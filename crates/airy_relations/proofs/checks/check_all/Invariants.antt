use Rattle.std.proofs.Common.{◌≡◌, drop}
use Rattle.sparse_tensor.specs.Entries.{looked_up}
use Rattle.airy_relations.specs.Verdicts.{first_over, verdict}
use Rattle.airy_relations.specs.Walks.{over_i}
use Rattle.airy_relations.proofs.checks.check_all.Given as goal

abbrev pub invariant-loop-rel : goal.invariant-loop-rel
invariant-loop-rel l = first_over (drop l.rel-index l.rel-items) (over_i (looked_up l.t) l.places) ≡ verdict (looked_up l.t) l.places
