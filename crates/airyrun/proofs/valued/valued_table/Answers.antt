use Rattle.run_reports.specs.StructureTables.{structure_of}
use Rattle.airyrun.proofs.ValuedLemmas.{if_ok, if_err, is_valued, valued_refuses, making_refuses}
use Rattle.airyrun.proofs.valued.valued_table.Goals as goal

pub returns-in-Ok-clause-valued : goal.returns-in-Ok-clause-valued
returns-in-Ok-clause-valued g c =
    if_ok (λ v. is_valued (structure_of c.args.family) c.in-Ok.tensors c.args.bound c.planned_once.ensures c.below_dim.ensures c.same_tables.ensures c.requires.within c.in-Ok.ensures.made c.in-Ok.ensures.planned v.plan v.table)
    c.valued_plan.result c.valued_plan.ensures.valued

pub returns-in-Ok-clause-refused : goal.returns-in-Ok-clause-refused
returns-in-Ok-clause-refused g c =
    if_err (λ status h. valued_refuses (structure_of c.args.family) c.in-Ok.tensors c.args.bound c.planned_once.ensures c.below_dim.ensures c.same_tables.ensures c.requires.within c.in-Ok.ensures.made c.in-Ok.ensures.planned _ _ status h)
    c.valued_plan.result c.valued_plan.ensures.refused

pub returns-in-Err-clause-refused : goal.returns-in-Err-clause-refused
returns-in-Err-clause-refused g c =
    making_refuses (structure_of c.args.family) c.args.bound c.in-Err.refusal _ _ _ c.requires.within c.in-Err.ensures.over c.refuse_making.ensures
