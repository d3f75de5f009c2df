use Rattle.std.proofs.Common.{◌∙◌, subst, List, ℕ, codes}
use Rattle.airymore.proofs.Words.{Ends, refusal}
use Rattle.airymore.proofs.verify.refuse_bound_of.Goals as goal

pub returns : goal.returns
returns g c =
    subst (λ (t : List ℕ). Ends (record { status = 5; bytes = refusal (codes "bound ") t }) (g.W.Sink.state c.args.out.now) (g.W.Sink.state c.refuse.new.out) c.refuse.result)
    (c.as_bytes.ensures.value ∙ c.format.ensures.text) c.refuse.ensures
