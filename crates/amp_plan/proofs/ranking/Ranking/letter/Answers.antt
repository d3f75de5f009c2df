use Rattle.std.proofs.Common.{◌∙◌, ◌≡◌, sym, subst}
use Rattle.amp_plan.proofs.Words.{Planning, letter_power}
use Rattle.amp_plan.proofs.PlanLemmas.{no_letter, with_letter}
use Rattle.amp_plan.proofs.ranking.Ranking.letter.Goals as goal

pub returns-then-not-letter : goal.returns-then-not-letter
returns-then-not-letter c =
    let p : Planning = record { tensors = c.self.inside.tensors; bound = c.self.inside.bound } in
    subst (λ v. 0 ≡ letter_power v c.args.key.now) c.self.view_is (sym (no_letter p c.args.key.now (sym c.letter.ensures ∙ c.if-not-letter.true)))

pub returns : goal.returns
returns c =
    let p : Planning = record { tensors = c.self.inside.tensors; bound = c.self.inside.bound } in
    subst (λ v. c.letter_at.result ≡ letter_power v c.args.key.now) c.self.view_is (c.letter_at.ensures ∙ sym (with_letter p c.args.key.now (sym c.letter.ensures ∙ c.if-not-letter.false)))
