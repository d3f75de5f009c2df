use Rattle.std.proofs.Common.{arith, sym, ap, ◌∙◌, ◌≡◌, ◌<◌, length, true, false, get_or, None}
use Rattle.std.specs.Option.{is_some}
use Rattle.amp_terms.specs.Tables.{holds_value}
use Rattle.amp_terms.proofs.TableLemmas.{found-at_start, first-passed, first-here, first-end}
use Rattle.amp_terms.proofs.table.Table.first_not_value.Goals as goal

pub loop-rank-init : goal.loop-rank-init
loop-rank-init c = found-at_start _

pub loop-rank-preserved : goal.loop-rank-preserved
loop-rank-preserved c =
    let p : c.loop-rank.rank < length c.args.self.now = omega (arith, c.loop-rank-test.true, c.len-rank-end.ensures) in
    let t : holds_value (get_or c.args.self.now c.loop-rank.rank None) ≡ true = sym c.factor.ensures.whether ∙ ap is_some c.in-Some.is in
    sym (first-passed c.args.self.now c.loop-rank.rank p t) ∙ c.loop-rank.invariant

pub returns-in-None-clause-value : goal.returns-in-None-clause-value
returns-in-None-clause-value c =
    let p : c.loop-rank.rank < length c.args.self.now = omega (arith, c.loop-rank-test.true, c.len-rank-end.ensures) in
    let t : holds_value (get_or c.args.self.now c.loop-rank.rank None) ≡ false = sym c.factor.ensures.whether ∙ ap is_some c.in-None.is in
    sym (first-here c.args.self.now c.loop-rank.rank p t) ∙ c.loop-rank.invariant

pub returns-clause-value : goal.returns-clause-value
returns-clause-value c = sym (first-end c.args.self.now c.loop-rank.rank (omega (arith, c.loop-rank-test.false, c.len-rank-end.ensures))) ∙ c.loop-rank.invariant
