use Rattle.std.proofs.Common.{◌≡◌, rules, false}
use Rattle.airymore.proofs.Words.{is_bound, curve_tensors}
use Rattle.airymore.proofs.CurveLemmas.{CurveLaws, beyond_ends, made_ends, unmade_ends}
use Rattle.airymore.proofs.curves.table_of_curve.Goals as goal

pub returns-then-not-is_bound : goal.returns-then-not-is_bound
returns-then-not-is_bound g c =
    let no : is_bound c.args.bound ≡ false = search rules in
    beyond_ends c.args.u.now c.args.bound _ _ _ no c.refuse_bound.ensures

pub returns-in-Ok : goal.returns-in-Ok
unfolding curve_tensors
returns-in-Ok g c =
    let laws : CurveLaws = record { planned = c.planned_once.ensures; tables = c.curve_tables.ensures } in
    made_ends laws c.args.u.now c.args.bound _ _ _ c.below_dim.ensures c.same_tables.ensures c.in-Ok.tensors (search rules) c.in-Ok.ensures.stands c.in-Ok.ensures.obtained c.print_stored.ensures

pub returns-in-Err : goal.returns-in-Err
returns-in-Err g c =
    let laws : CurveLaws = record { planned = c.planned_once.ensures; tables = c.curve_tables.ensures } in
    unmade_ends laws c.args.u.now c.args.bound _ _ _ c.in-Err.refusal (search rules) c.in-Err.ensures.over c.refuse_curve.ensures
