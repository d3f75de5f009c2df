use Rattle.std.proofs.Common.{arith, rules, refl, ◌+◌}
use Rattle.amp_plan.proofs.Words.{code_of_genus, tensors_of}
use Rattle.amp_plan.proofs.FindLemmas.{unstable, uncovered, found_live}
use Rattle.amp_plan.proofs.finding.find_live.Goals as goal

pub returns-then-from-le2 : goal.returns-then-from-le2
returns-then-from-le2 c = λ key h. unstable c.args.ranking.now c.args.genus c.args.indices key h (omega (arith, c.if-from-le2.true))

pub returns-then-not-covers_excess : goal.returns-then-not-covers_excess
returns-then-not-covers_excess c = λ key h. uncovered c.args.ranking.now c.args.genus c.args.indices key h (search rules)

pub returns : goal.returns
returns c = λ key h. found_live c.args.ranking.now c.args.genus c.args.indices key h (omega (arith, c.if-from-le2.false)) (search rules) (c.planned_once.ensures (tensors_of c.args.ranking.now) c.args.ranking.now.bound) c.find.result (code_of_genus c.args.genus + c.args.indices.code) refl (search rules)
