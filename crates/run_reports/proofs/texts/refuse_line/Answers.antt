use Rattle.std.proofs.Common.{rules, ◌≡◌, ◌++◌, subst, codes, decimal}
use Rattle.run_reports.proofs.Names.{Ends, refusal, line_refused, kind_text}
use Rattle.run_reports.proofs.texts.refuse_line.Goals as goal

pub returns : goal.returns
unfolding line_refused
returns g c =
    let text : c.bytes.result.now ≡ (decimal c.args.number ++ codes " ") ++ kind_text c.args.kind = search rules in
    subst (λ which. Ends (record { status = 3; bytes = refusal (codes "line ") which }) (g.W.Sink.state c.args.out.now) (g.W.Sink.state c.refuse.new.out) c.refuse.result)
    text c.refuse.ensures
