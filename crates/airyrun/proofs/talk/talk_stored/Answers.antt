use Rattle.airyrun.proofs.TalkLemmas.{cause-ends, plan-ends}
use Rattle.airyrun.proofs.talk.talk_stored.Goals as goal

pub returns-in-Ok : goal.returns-in-Ok
returns-in-Ok g c = plan-ends c.args.tensors c.args.bound c.args.workers c.args.lines.now c.in-Ok.plan _ _ _ c.in-Ok.ensures.plan c.in-Ok.ensures.within c.talk_planned.ensures

pub returns-in-Err : goal.returns-in-Err
returns-in-Err g c = cause-ends c.args.tensors c.args.bound c.args.workers c.args.lines.now c.in-Err.refused.cause _ _ _ c.in-Err.ensures.cause c.refuse_plan.ensures
