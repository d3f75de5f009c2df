use Rattle.std.proofs.Common.{◌≡◌, rules, true, false, refl}
use Rattle.run_reports.proofs.Names.{is_bound, structure_of}
use Rattle.run_reports.proofs.TableHeadline.{family_sound}
use Rattle.session_law.proofs.SessionLemmas.{SessionLaws}
use Rattle.airy_wait.specs.Asked.{keys_asked}
use Rattle.airy_wait.specs.Waiting.{waiting_report}
use Rattle.airy_wait.proofs.WaitLemmas.{bound-leads, making-leads, stored-leads}
use Rattle.airy_wait.proofs.jobs.wait_on_family.Goals as goal
use Rattle.command_words.proofs.ScriptLemmas.{bound_some}

pub returns-then-not-is_bound : goal.returns-then-not-is_bound
returns-then-not-is_bound g c =
    let no : is_bound c.args.bound ≡ false = search rules in
    bound-leads (structure_of c.args.family) c.args.bound (keys_asked c.args.job) _ _ _ no c.refuse_bound.ensures

pub returns-in-Ok : goal.returns-in-Ok
returns-in-Ok g c =
    let s = structure_of c.args.family in let X = c.args.bound in let keys = keys_asked c.args.job in
    let bounded : is_bound X ≡ true = search rules in
    let laws : SessionLaws = record { shown = c.job_session.ensures; once = c.planned_once.ensures; below = c.below_dim.ensures; tables = c.same_tables.ensures } in
    stored-leads s X keys _ _ _ c.in-Ok.tensors (waiting_report s X keys) laws (family_sound c.args.family) (bound_some X bounded) bounded
    c.in-Ok.ensures.made c.in-Ok.ensures.planned refl c.wait_stored.ensures

pub returns-in-Err : goal.returns-in-Err
returns-in-Err g c =
    let bounded : is_bound c.args.bound ≡ true = search rules in
    making-leads (structure_of c.args.family) c.args.bound (keys_asked c.args.job) _ _ _ c.in-Err.refusal bounded c.in-Err.ensures.over c.refuse_making.ensures
