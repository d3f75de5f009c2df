use Rattle.std.proofs.Common.{◌∙◌, sym, ap, length, List, Option}
use Rattle.run_reports.proofs.Names.{Outcome}
use Rattle.run_reports.proofs.ReportLemmas.{full-length}
use Rattle.airyrun.proofs.NumberLemmas.{NumberLaws, IsMade, is_quotient, failed_quotient, holds_full}
use Rattle.airyrun.proofs.numbers.print_number.Goals as goal

pub number-requires : goal.number-requires
number-requires g c = ap (λ (t : List (Option Outcome)). length t) c.requires.valued.table ∙ full-length c.args.plan.now

pub returns-in-Ok : goal.returns-in-Ok
returns-in-Ok g c =
    let laws : NumberLaws = record {
      table = record { plan = c.planned_once.ensures; below = c.below_dim.ensures; tables = c.same_tables.ensures; unique = c.job_uniqueness.ensures };
      witten = c.witten.ensures;
      norbury = c.norbury.ensures;
    } in
    let made : IsMade c.args.family c.args.key.now c.args.plan.now c.args.table.now = record { is_key = c.validity_fact.ensures; plain = c.requires.family; valued = c.requires.valued } in
    is_quotient laws c.args.family c.args.key.now c.args.plan.now c.args.table.now made c.in-Ok.number (sym c.number.ensures.answer ∙ c.in-Ok.is)
    (c.in-Ok.ensures.unique (holds_full c.args.plan.now c.args.table.now c.requires.valued.table)) _ _ _ c.say_number.ensures

pub returns-in-Err : goal.returns-in-Err
returns-in-Err g c =
    let laws : NumberLaws = record {
      table = record { plan = c.planned_once.ensures; below = c.below_dim.ensures; tables = c.same_tables.ensures; unique = c.job_uniqueness.ensures };
      witten = c.witten.ensures;
      norbury = c.norbury.ensures;
    } in
    let made : IsMade c.args.family c.args.key.now c.args.plan.now c.args.table.now = record { is_key = c.validity_fact.ensures; plain = c.requires.family; valued = c.requires.valued } in
    failed_quotient laws c.args.family c.args.key.now c.args.plan.now c.args.table.now made _ (sym c.number.ensures.answer ∙ c.in-Err.is) _ _ _ c.refuse_key.ensures
