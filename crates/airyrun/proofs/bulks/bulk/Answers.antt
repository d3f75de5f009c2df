use Rattle.std.proofs.Common.{◌≡◌, rules, true, false}
use Rattle.run_reports.proofs.Names.{is_bound}
use Rattle.airyrun.proofs.BulkLemmas.{BulkLaws, beyond_bulk, bulk_ends, error_bulk}
use Rattle.airyrun.proofs.bulks.bulk.Goals as goal

pub returns-then-not-is_bound : goal.returns-then-not-is_bound
returns-then-not-is_bound g c =
    let no : is_bound c.args.bound ≡ false = search rules in
    beyond_bulk c.args.seed c.args.dim c.args.bound _ _ _ no c.refuse_bound.ensures

pub returns-in-Ok : goal.returns-in-Ok
returns-in-Ok g c =
    let bounded : is_bound c.args.bound ≡ true = search rules in
    let laws : BulkLaws = record {
      jobs = record { unique = c.job_uniqueness.ensures; checked = c.job_checked.ensures; planned = c.planned_once.ensures };
      below = c.below_dim.ensures;
      tables = c.same_tables.ensures;
      verdicts = c.same_verdict.ensures;
      orders = c.no_orders.ensures;
    } in
    bulk_ends laws c.args.seed c.args.dim c.args.bound c.in-Ok.tensors c.in-Ok.ensures.tensors bounded c.print_bulk.ensures.tells _ _ _ c.print_bulk.ensures.ends

pub returns-in-Err : goal.returns-in-Err
returns-in-Err g c =
    let bounded : is_bound c.args.bound ≡ true = search rules in
    error_bulk c.args.seed c.args.dim c.args.bound c.in-Err.refusal _ _ _ bounded c.in-Err.ensures.over c.refuse_bulk.ensures
