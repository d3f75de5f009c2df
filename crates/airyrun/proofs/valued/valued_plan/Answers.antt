use Rattle.airyrun.proofs.ValuedLemmas.{if_ok, if_err, is_stored, stored_refuses, cause_refuses}
use Rattle.airyrun.proofs.valued.valued_plan.Goals as goal

pub returns-in-Ok-clause-valued : goal.returns-in-Ok-clause-valued
returns-in-Ok-clause-valued g c =
    if_ok (λ v. is_stored c.args.tensors c.args.bound c.in-Ok.plan c.in-Ok.ensures.plan c.in-Ok.ensures.within v.plan v.table) c.fill.result c.fill.ensures.valued

pub returns-in-Ok-clause-refused : goal.returns-in-Ok-clause-refused
returns-in-Ok-clause-refused g c =
    if_err (λ status h. stored_refuses c.args.tensors c.args.bound c.in-Ok.plan c.in-Ok.ensures.plan c.in-Ok.ensures.within _ _ status h) c.fill.result c.fill.ensures.refused

pub returns-in-Err-clause-refused : goal.returns-in-Err-clause-refused
returns-in-Err-clause-refused g c =
    cause_refuses c.args.tensors c.args.bound c.in-Err.refused.cause _ _ _ c.in-Err.ensures.cause c.refuse_plan.ensures
