use Rattle.std.proofs.Common.{◌≡◌, false, rules, sym, subst, inr, refl, arith, List}
use Rattle.run_reports.proofs.Names.{FinishesOnce, Rises, Line, looked_up, out_of_memory, parted_of}
use Rattle.session_law.specs.Sessions.{stored_session}
use Rattle.airyrun.specs.Sessions.{EndsReplies}
use Rattle.command_words.specs.Options.{lines_of}
use Rattle.airyrun.proofs.TalkLemmas.{other-ends}
use Rattle.airyrun.proofs.talk.talk_script.Goals as goal

pub talk_stored-requires-clause-finish : goal.talk_stored-requires-clause-finish
talk_stored-requires-clause-finish g c κs within =
    let e : c.deref.result.now ≡ lines_of (parted_of c.args.script) = search rules in
    subst (FinishesOnce false) (sym e) c.requires.finish

pub talk_stored-requires-clause-rises : goal.talk_stored-requires-clause-rises
talk_stored-requires-clause-rises g c κs within =
    let e : c.deref.result.now ≡ lines_of (parted_of c.args.script) = search rules in
    subst (Rises c.args.bound) (sym e) c.requires.rises

pub returns-in-Ok : goal.returns-in-Ok
returns-in-Ok g c =
    let t = c.args.tensors in
    let e : c.deref.result.now ≡ lines_of (parted_of c.args.script) = search rules in
    subst (λ (lines : List Line). EndsReplies (record { tensors = looked_up t; letter = t.letter; crew = c.args.workers }) c.args.bound lines (stored_session t c.args.bound) (g.W.Sink.state c.args.out.now) (g.W.Sink.state c.talk_stored.new.out) c.talk_stored.result)
    e c.talk_stored.ensures

pub returns-in-Err : goal.returns-in-Err
returns-in-Err g c =
    let t = c.args.tensors in
    other-ends (record { tensors = looked_up t; letter = t.letter; crew = c.args.workers }) c.args.bound (lines_of (parted_of c.args.script)) _ _ (stored_session t c.args.bound) out_of_memory _ (inr refl) (λ z. omega arith) c.refuse_memory.ensures
