use Rattle.std.proofs.Common.{◌≡◌, rules, Some}
use Rattle.run_reports.proofs.Names.{tensors_of, full_table, first_without}
use Rattle.amp_plan.specs.Plans.{key_at}
use Rattle.airyrun.proofs.ValuedLemmas.{ends_wanting, first_refuses}
use Rattle.airyrun.proofs.valued.fill.Goals as goal

pub returns-in-Err-clause-refused : goal.returns-in-Err-clause-refused
returns-in-Err-clause-refused g c = ends_wanting _ _ _ _ c.refuse_memory.ensures

pub returns-in-Some-clause-refused : goal.returns-in-Some-clause-refused
unfolding key_at
returns-in-Some-clause-refused g c =
    let first : first_without (full_table (tensors_of c.args.plan) c.args.plan.bound) ≡ Some c.in-Some.rank = search rules in
    first_refuses c.args.plan c.in-Some.rank _ _ _ first (rw (← c.key.ensures) c.refuse_key.ensures)
