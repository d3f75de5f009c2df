use Rattle.std.proofs.Common.{ap, ◌++◌, List, ℕ}
use Rattle.amp_plan.proofs.Words.{b_part, c_part, RankedTerm}
use Rattle.amp_plan.proofs.WalkLemmas.{takes-same, takes-append, allowed-left, allowed-right, allowed-still}
use Rattle.amp_plan.proofs.walk.walk_parts.Goals as goal

pub walk_b-requires-clause-allowed : goal.walk_b-requires-clause-allowed
walk_b-requires-clause-allowed g c = rw c.of-rest.ensures.list (allowed-left _ _ _ c.requires.allowed)

pub walk_c-requires-clause-allowed : goal.walk_c-requires-clause-allowed
walk_c-requires-clause-allowed g c =
    rw c.of-rest.ensures.list (allowed-still _ c.walk_b.ensures (allowed-right _ (b_part c.args.ranking.now c.args.pivot c.args.genus c.args.rest.now) _ c.requires.allowed))

pub returns : goal.returns
returns g c =
    let part : List ℕ → List RankedTerm = λ l. b_part c.args.ranking.now c.args.pivot c.args.genus l ++ c_part c.args.ranking.now c.args.pivot c.args.genus l in
    takes-same (ap part c.of-rest.ensures.list) (takes-append c.walk_b.ensures c.walk_c.ensures)
