use Rattle.std.proofs.Common.{rules, ◌≡◌, subst, codes}
use Rattle.run_reports.proofs.Names.{Ends, refusal, pivot_text}
use Rattle.run_reports.proofs.pivots.refuse_pivot.Goals as goal

pub returns : goal.returns
returns g c =
    let text : c.bytes.result.now ≡ pivot_text c.args.key.now c.args.pivot = search rules in
    subst (λ which. Ends (record { status = 6; bytes = refusal (codes "over at ") which }) (g.W.Sink.state c.args.out.now) (g.W.Sink.state c.refuse.new.out) c.refuse.result)
    text c.refuse.ensures
