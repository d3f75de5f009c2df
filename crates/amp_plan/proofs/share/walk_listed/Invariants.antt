use Rattle.amp_plan.proofs.Words.{splits, split_part}
use Rattle.amp_plan.proofs.ChainWalkLemmas.{HasWalked}
use Rattle.amp_plan.proofs.share.walk_listed.Given as goal

abbrev pub invariant-loop-left : goal.invariant-loop-left
invariant-loop-left g l = HasWalked g.V.TermVisitor.allows g.V.TermVisitor.state g.V.TermVisitor.step (split_part l.ranking l.share.genus l.share.pair.now.a l.share.pair.now.b l.share.pair.now.weight l.share.k) l.share.per_n l.chain (splits l.list.rest.list.items) l.left l.initial.visitor l.visitor

abbrev pub decreases-loop-left : goal.decreases-loop-left
decreases-loop-left g l = l.left
