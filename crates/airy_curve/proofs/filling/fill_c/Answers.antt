use Rattle.std.proofs.Common.{◌+◌, ◌≤◌, sym, ap, ◌∙◌, arith}
use Rattle.std.proofs.lemmas.Bool.{le-leb}
use Rattle.std.proofs.lemmas.Result.{on_ok_weaker}
use Rattle.sparse_tensor.specs.Puts.{with_c}
use Rattle.sparse_tensor.proofs.PutFacts.{at_ok}
use Rattle.airy_curve.specs.Filling.{entry_c}
use Rattle.airy_curve.specs.Numbers.{held}
use Rattle.airy_curve.proofs.FillingLaw.{at, entry-at, exponent-some, none_c}
use Rattle.airy_curve.proofs.PutLemmas.{may_c}
use Rattle.airy_curve.proofs.filling.fill_c.Goals as goal

pub returns-in_default : goal.returns-in_default
returns-in_default c =
    let ordered : c.args.j ≤ c.args.k = omega arith in
    rw (le-leb c.args.j c.args.k ordered) (none_c (held c.args.numbers.now) c.args.most c.args.i c.args.j c.args.k c.args.tensors.now (sym c.exponent.ensures ∙ c.in_default.is))

pub number_at-requires : goal.number_at-requires
number_at-requires c = let e = exponent-some _ _ _ _ (sym c.exponent.ensures ∙ c.in-Some.is) in omega (arith, e.high, c.requires.place.most')

pub unless_wanting-requires : goal.unless_wanting-requires
unless_wanting-requires c =
    let e = exponent-some _ _ _ _ (sym c.exponent.ensures ∙ c.in-Some.is) in
    c.put_c.ensures.allowed
    (may_c (held c.args.numbers.now) c.args.most c.args.tensors.now c.args.i c.args.j c.args.k c.in-Some.e c.number_at.result c.requires.place e.high e.low (omega arith) c.number_at.ensures c.requires.free)

pub returns : goal.returns
unfolding entry_c
returns c =
    let ordered : c.args.j ≤ c.args.k = omega arith in
    let number = entry-at (held c.args.numbers.now) c.args.most (c.args.j + c.args.k + 2) c.args.i ∙ ap (at (held c.args.numbers.now)) (sym c.exponent.ensures ∙ c.in-Some.is) in
    rw (le-leb c.args.j c.args.k ordered)
    (on_ok_weaker c.unless_wanting.result
    (λ ok. at_ok c.put_c.result ok c.put_c.ensures.put ∙ ap (with_c c.args.tensors.now c.args.i c.args.j c.args.k) (c.number_at.ensures ∙ sym number))
    c.unless_wanting.ensures)
