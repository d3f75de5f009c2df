use Rattle.std.proofs.Common.{sym, ap, ◌∙◌, ◌≡◌, Some, true, false}
use Rattle.std.specs.Option.{is_some}
use Rattle.airy_math.specs.RationalLaws.{0ℚ}
use Rattle.amp_terms.specs.Outcomes.{has_value}
use Rattle.amp_terms.proofs.SummingLemmas.{noted-value, noted-none}
use Rattle.amp_terms.proofs.TableLemmas.{of_value, of_none}
use Rattle.amp_terms.proofs.pivot.PivotSum.factor.Goals as goal

pub returns-in-Some-clause-factor : goal.returns-in-Some-clause-factor
returns-in-Some-clause-factor g c =
    let o = g.S.Seen.shown c.args.self.now.seen.now c.args.rank in
    let h : has_value o ≡ true = sym c.factor.ensures.whether ∙ ap is_some c.in-Some.is in
    c.in-Some.ensures.factor ∙ of_value o h

pub returns-in-Some-clause-noted : goal.returns-in-Some-clause-noted
returns-in-Some-clause-noted g c =
    let o = g.S.Seen.shown c.args.self.now.seen.now c.args.rank in
    let h : has_value o ≡ true = sym c.factor.ensures.whether ∙ ap is_some c.in-Some.is in
    sym (noted-value c.args.self.now.blocked c.args.rank o h)

pub returns-in-None-clause-factor : goal.returns-in-None-clause-factor
unfolding 0ℚ
returns-in-None-clause-factor g c =
    let o = g.S.Seen.shown c.args.self.now.seen.now c.args.rank in
    let h : has_value o ≡ false = sym c.factor.ensures.whether ∙ ap is_some c.in-None.is in
    c.of.ensures ∙ ap Some (c.whole.ensures ∙ sym (of_none o h))

pub returns-in-None-clause-noted : goal.returns-in-None-clause-noted
returns-in-None-clause-noted g c =
    let o = g.S.Seen.shown c.args.self.now.seen.now c.args.rank in
    let h : has_value o ≡ false = sym c.factor.ensures.whether ∙ ap is_some c.in-None.is in
    c.less-self.ensures ∙ sym (noted-none c.args.self.now.blocked c.args.rank o h)
