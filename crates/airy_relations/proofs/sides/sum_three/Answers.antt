use Rattle.std.proofs.Common.{◌∙◌, sym, ap, refl}
use Rattle.sparse_tensor.specs.Entries.{looked_up}
use Rattle.airy_relations.specs.Rows.{first_at, behind}
use Rattle.airy_relations.specs.Threes.{factors, IsSumOfThree}
use Rattle.airy_relations.proofs.SumLoop.{begins, turns, fails, goes, ends, is_least, shorter}
use Rattle.airy_relations.proofs.sides.sum_three.Goals as goal

pub loop-a-init : goal.loop-a-init
unfolding factors
loop-a-init g c = λ f h k p q r. begins (factors (looked_up c.args.t.now) f h k c.args.parts c.args.j c.args.k c.args.l) _ _ _ _ _ _ p q r c.zero-total.ensures refl

pub returns-in_err-total : goal.returns-in_err-total
unfolding IsSumOfThree factors
returns-in_err-total g c = λ f h k p q r.
    let S = factors (looked_up c.args.t.now) f h k c.args.parts c.args.j c.args.k c.args.l in
    let turn = turns S _ _ c.in-Some.a _ _ _ c.loop-a.total (c.loop-a.invariant f h k p q r) c.range_fact.ensures.range (is_least _ _ _ _ _ _ _ _ c.least.ensures c.index.ensures.value c.index-in-loop-a.ensures.value c.index-in-loop-a-2.ensures.value c.in-Some.is) in
    c.from_residual.ensures ∙ sym (fails S _ _ c.in-Some.a _ _ _ c.loop-a.total turn _ _ _
    (c.take_at.ensures.value ∙ ap (first_at c.in-Some.a) c.index.ensures.rest) (c.take_at-in-Some.ensures.value ∙ ap (first_at c.in-Some.a) c.index-in-loop-a.ensures.rest) (c.take_at-in-Some-2.ensures.value ∙ ap (first_at c.in-Some.a) c.index-in-loop-a-2.ensures.rest)
    _ (rw (c.entry.ensures, c.entry-in-Some.ensures, c.entry-in-Some-2.ensures) at c.add_three.ensures) c.in_err-total.was)

pub loop-a-smaller : goal.loop-a-smaller
loop-a-smaller g c = shorter _ _ _ _ _ _ c.in-Some.a (is_least _ _ _ _ _ _ _ _ c.least.ensures c.index.ensures.value c.index-in-loop-a.ensures.value c.index-in-loop-a-2.ensures.value c.in-Some.is)
    (c.take_at.ensures.rest ∙ ap (behind c.in-Some.a) c.index.ensures.rest) (c.take_at-in-Some.ensures.rest ∙ ap (behind c.in-Some.a) c.index-in-loop-a.ensures.rest) (c.take_at-in-Some-2.ensures.rest ∙ ap (behind c.in-Some.a) c.index-in-loop-a-2.ensures.rest)

pub loop-a-preserved : goal.loop-a-preserved
unfolding factors
loop-a-preserved g c = λ f h k p q r.
    let S = factors (looked_up c.args.t.now) f h k c.args.parts c.args.j c.args.k c.args.l in
    let turn = turns S _ _ c.in-Some.a _ _ _ c.loop-a.total (c.loop-a.invariant f h k p q r) c.range_fact.ensures.range (is_least _ _ _ _ _ _ _ _ c.least.ensures c.index.ensures.value c.index-in-loop-a.ensures.value c.index-in-loop-a-2.ensures.value c.in-Some.is) in
    goes S _ _ c.in-Some.a _ _ _ c.loop-a.total turn _ _ _
    (c.take_at.ensures.value ∙ ap (first_at c.in-Some.a) c.index.ensures.rest) (c.take_at-in-Some.ensures.value ∙ ap (first_at c.in-Some.a) c.index-in-loop-a.ensures.rest) (c.take_at-in-Some-2.ensures.value ∙ ap (first_at c.in-Some.a) c.index-in-loop-a-2.ensures.rest)
    _ (rw (c.entry.ensures, c.entry-in-Some.ensures, c.entry-in-Some-2.ensures) at c.add_three.ensures) _ _ _ c.in_ok-total.total
    (c.take_at.ensures.rest ∙ ap (behind c.in-Some.a) c.index.ensures.rest) (c.take_at-in-Some.ensures.rest ∙ ap (behind c.in-Some.a) c.index-in-loop-a.ensures.rest) (c.take_at-in-Some-2.ensures.rest ∙ ap (behind c.in-Some.a) c.index-in-loop-a-2.ensures.rest) c.in_ok-total.was

pub returns : goal.returns
unfolding IsSumOfThree
returns g c = λ f h k p q r. sym (ends _ _ _ _ _ _ c.loop-a.total (c.loop-a.invariant f h k p q r) c.range_fact-2.ensures.range (is_least _ _ _ _ _ _ _ _ c.least.ensures c.index.ensures.value c.index-in-loop-a.ensures.value c.index-in-loop-a-2.ensures.value c.in_default.is))
