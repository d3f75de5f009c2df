use Rattle.std.proofs.Common.{◌≡◌, false, refl, subst}
use Rattle.run_reports.proofs.Names.{Ends, bound_refused, is_bound, beyond, reach, parted_of}
use Rattle.command_words.specs.Options.{lines_of}
use Rattle.airyrun.proofs.TalkLemmas.{reached_bound}
use Rattle.run_reports.proofs.TextLemmas.{within_bound}
use Rattle.airyrun.proofs.texts.session_of_text.Goals as goal

pub session_within-requires-clause-within : goal.session_within-requires-clause-within
session_within-requires-clause-within g c κs within = reached_bound c.args.bound _ (lines_of (parted_of c.args.script)) c.in-Ok.ensures

pub returns-in-Ok : goal.returns-in-Ok
returns-in-Ok g c = within_bound _ _ _ _ _ _ _ (reached_bound c.args.bound _ (lines_of (parted_of c.args.script)) c.in-Ok.ensures) c.session_within.ensures

pub returns-in-Err : goal.returns-in-Err
returns-in-Err g c =
    let e = c.in-Err.ensures in let Y = reach c.args.bound (lines_of (parted_of c.args.script)) in (
      bound_refused Y,
      beyond (subst (λ n. is_bound n ≡ false) e.0 e.1) refl refl,
      subst (λ n. Ends (bound_refused n) (g.W.Sink.state c.args.out.now) (g.W.Sink.state c.refuse_bound.new.out) c.refuse_bound.result) e.0 c.refuse_bound.ensures,
    )
