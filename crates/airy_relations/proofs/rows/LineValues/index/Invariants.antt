use Rattle.std.proofs.Common.{◌≡◌, length}
use Rattle.airy_relations.specs.Rows.{others}
use Rattle.airy_relations.proofs.rows.LineValues.index.Given as goal

abbrev pub invariant-loop-b : goal.invariant-loop-b
invariant-loop-b l = (l.self.l ≡ l.initial.self.l) × (others l.self.l l.self.rest.now ≡ others l.initial.self.l l.initial.self.rest.now)

abbrev pub decreases-loop-b : goal.decreases-loop-b
decreases-loop-b l = length l.self.rest.now
