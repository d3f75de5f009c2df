use Rattle.std.proofs.Common.{rules, ◌≡◌, subst, codes}
use Rattle.airymore.proofs.Words.{Ends, refusal, place_text}
use Rattle.airymore.proofs.brackets.refuse_place.Goals as goal

pub returns : goal.returns
returns g c =
    let text : c.bytes.result.now ≡ place_text c.args.place = search rules in
    subst (λ which. Ends (record { status = 6; bytes = refusal (codes "over in bracket at ") which }) (g.W.Sink.state c.args.out.now) (g.W.Sink.state c.refuse.new.out) c.refuse.result)
    text c.refuse.ensures
