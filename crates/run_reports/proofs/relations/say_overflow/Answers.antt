use Rattle.std.proofs.Common.{rules, ◌≡◌, subst, codes}
use Rattle.run_reports.proofs.Names.{Ends, refusal, place_text, relations_report}
use Rattle.run_reports.proofs.relations.say_overflow.Goals as goal

pub returns : goal.returns
unfolding relations_report
returns g c =
    let text : c.bytes.result.now ≡ place_text c.args.rel c.args.place.now = search rules in
    subst (λ which. Ends (record { status = 6; bytes = refusal (codes "over in ") which }) (g.W.Sink.state c.args.out.now) (g.W.Sink.state c.refuse.new.out) c.refuse.result)
    text c.refuse.ensures
