use Rattle.std.proofs.Common.{◌∙◌, subst, List, ℕ, codes}
use Rattle.run_reports.proofs.Names.{Ends, refusal}
use Rattle.run_reports.proofs.report.refuse_word.Goals as goal

pub returns : goal.returns
returns g c =
    subst (λ (t : List ℕ). Ends (record { status = 2; bytes = refusal (codes "word ") t }) (g.W.Sink.state c.args.out.now) (g.W.Sink.state c.refuse.new.out) c.refuse.result)
    (c.as_bytes.ensures.value ∙ c.format.ensures.text) c.refuse.ensures
