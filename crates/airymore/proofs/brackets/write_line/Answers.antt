use Rattle.std.proofs.Common.{rules, ◌≡◌, ◌++◌, ◌∙◌, subst, sym, codes, IsTrue, false}
use Rattle.airymore.proofs.Words.{Writes, 0ℚ, fraction_text, place_text}
use Rattle.airymore.proofs.BracketLemmas.{text_of_zero, text_of_other}
use Rattle.airymore.proofs.brackets.write_line.Goals as goal
use Rattle.tensor_text.proofs.WriteLemmas.{writes_nothing}

pub returns-then-is_zero : goal.returns-then-is_zero
returns-then-is_zero g c =
    rw (text_of_zero c.args.place c.args.number (c.is_zero.ensures.0 c.if-is_zero.true)) (writes_nothing (g.W.Sink.state c.args.out.now) tt)

pub returns : goal.returns
returns g c =
    let text : c.bytes.result.now ≡ place_text c.args.place ++ codes " " ++ fraction_text c.args.number ++ codes "\n" = search rules in
    let other : (c.args.number ≡ 0ℚ → ⊥) = λ e. let yes : IsTrue c.is_zero.result = c.is_zero.ensures.1 e in let no : c.is_zero.result ≡ false = c.if-is_zero.false in cc in
    subst (λ t. Writes t (g.W.Sink.state c.args.out.now) (g.W.Sink.state c.write_all.new.out) c.write_all.result)
    (text ∙ sym (text_of_other c.args.place c.args.number other)) c.write_all.ensures
