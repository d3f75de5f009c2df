use Rattle.std.proofs.Common.{subst, sym}
use Rattle.airymore.proofs.Words.{Close, Planning, tensors_of, ends_by}
use Rattle.airymore.proofs.QuickLemmas.{quick_of_plan, quick_of_cause}
use Rattle.airymore.proofs.quick.print_planned.Goals as goal

pub fill_and_print-requires-clause-close : goal.fill_and_print-requires-clause-close
unfolding tensors_of
fill_and_print-requires-clause-close g c κs within = subst (λ (p : Planning). Close (tensors_of p) p.tensors.dim) (sym c.in-Ok.ensures.plan) c.requires.close

pub returns-in-Ok : goal.returns-in-Ok
returns-in-Ok g c = rw (quick_of_plan c.args.tensors c.args.bound c.in-Ok.plan c.in-Ok.ensures.plan c.in-Ok.ensures.within) c.fill_and_print.ensures

pub returns-in-Err : goal.returns-in-Err
returns-in-Err g c = ends_by _ _ _ _ _ (quick_of_cause c.args.tensors c.args.bound c.in-Err.refused.cause c.in-Err.ensures.cause) c.refuse_plan.ensures
