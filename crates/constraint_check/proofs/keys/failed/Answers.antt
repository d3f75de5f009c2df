use Rattle.std.proofs.Common.{refl, ap, ◌∙◌, get_or}
use Rattle.constraint_check.proofs.keys.failed.Goals as goal
use Rattle.amp_plan.proofs.NeedLemmas.{head_read}

pub returns-in-Some : goal.returns-in-Some
returns-in-Some c = (refl, refl, c.in-Some.is, ap (λ xs. get_or xs 0 0) c.idx.ensures ∙ head_read c.args.failure.key.idx, refl)
