use Rattle.std.proofs.Common.{inl, subst}
use Rattle.run_reports.proofs.Names.{Planning, Ends}
use Rattle.session_law.specs.Sessions.{answered}
use Rattle.airy_wait.specs.Asked.{keys_asked}
use Rattle.airy_wait.specs.Turns.{plan_replies}
use Rattle.airy_wait.proofs.jobs.wait_planned.Goals as goal

pub returns : goal.returns
returns g c =
    inl (subst (λ (p : Planning). Ends (answered (plan_replies p (keys_asked c.args.job))) (g.W.Sink.state c.args.out.now) (g.W.Sink.state c.ask_and_print.new.out) c.ask_and_print.result)
    c.in-Ok.ensures.plan c.ask_and_print.ensures)
