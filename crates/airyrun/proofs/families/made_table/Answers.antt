use Rattle.run_reports.specs.StructureTables.{structure_of}
use Rattle.run_reports.proofs.StructureLemmas.{stood_report, error_ends}
use Rattle.airyrun.proofs.families.made_table.Goals as goal

pub returns-in-Ok : goal.returns-in-Ok
returns-in-Ok g c =
    rw (stood_report (structure_of c.args.family) c.in-Ok.tensors c.args.bound c.planned_once.ensures c.below_dim.ensures c.same_tables.ensures c.requires.within c.in-Ok.ensures.made c.in-Ok.ensures.planned) c.print_stored.ensures

pub returns-in-Err : goal.returns-in-Err
returns-in-Err g c = error_ends (structure_of c.args.family) c.args.bound c.in-Err.refusal _ _ _ c.requires.within c.in-Err.ensures.over c.refuse_making.ensures
