use Rattle.std.proofs.Common.{◌≡◌, true, false, sym, subst, ap, ◌∙◌, None}
use Rattle.run_reports.proofs.Names.{Ends, bound_refused, ArePlanned, is_bound, making_over, structure_of, Names, reach, parted_of}
use Rattle.command_words.specs.Options.{lines_of}
use Rattle.run_reports.proofs.TableHeadline.{family_sound}
use Rattle.airyrun.proofs.TalkLemmas.{bound-leads, making-leads, stored-leads, reached_bound}
use Rattle.airyrun.proofs.talk.session_of_family.Goals as goal

pub returns-in-Err : goal.returns-in-Err
returns-in-Err g c =
    let e = c.in-Err.ensures in
    bound-leads (structure_of c.args.family) c.args.bound c.args.workers (lines_of (parted_of c.args.script)) _ _ _ (subst (λ n. is_bound n ≡ false) e.0 e.1)
    (subst (λ n. Ends (bound_refused n) (g.W.Sink.state c.args.out.now) (g.W.Sink.state c.refuse_bound.new.out) c.refuse_bound.result) e.0 c.refuse_bound.ensures)

pub returns-in-Ok-tensors_of : goal.returns-in-Ok-tensors_of
returns-in-Ok-tensors_of g c =
    let s = structure_of c.args.family in let e = c.in-Ok.ensures in let made = c.in-Ok-tensors_of.ensures in
    stored-leads s c.args.bound c.args.workers (lines_of (parted_of c.args.script)) _ _ _ c.in-Ok-tensors_of.tensors
    (record { shown = c.job_session.ensures; once = c.planned_once.ensures; below = c.below_dim.ensures; tables = c.same_tables.ensures })
    (subst (λ n. ArePlanned c.in-Ok-tensors_of.tensors s n) e.0 made.planned) (family_sound c.args.family) e.1 e.4
    (reached_bound c.args.bound c.in-Ok.top (lines_of (parted_of c.args.script)) e) (subst (λ n. making_over s n ≡ None) e.0 made.made) c.talk_script.ensures

pub returns-in-Err-tensors_of : goal.returns-in-Err-tensors_of
returns-in-Err-tensors_of g c =
    let s = structure_of c.args.family in let e = c.in-Ok.ensures in
    making-leads s c.args.bound c.args.workers (lines_of (parted_of c.args.script)) _ _ _ c.in-Err-tensors_of.refusal
    (reached_bound c.args.bound c.in-Ok.top (lines_of (parted_of c.args.script)) e)
    (subst (λ n. Names c.in-Err-tensors_of.refusal (making_over s n)) e.0 c.in-Err-tensors_of.ensures.over) c.refuse_making.ensures
