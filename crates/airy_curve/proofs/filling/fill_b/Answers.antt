use Rattle.std.proofs.Common.{◌≡◌, ◌+◌, ◌*◌, sym, ap, ap₂, ◌∙◌, arith, rules}
use Rattle.std.specs.Prelude.{Some, None}
use Rattle.std.proofs.lemmas.Result.{err_from_is_err_and}
use Rattle.airy_math.specs.Obtained.{obtained_product}
use Rattle.airy_math.specs.Rational.{◌*ℚ◌, whole}
use Rattle.airy_math.proofs.ObtainedLaw.{product_exact}
use Rattle.airy_math.proofs.SumLemmas.{*ℚ-0ℚ}
use Rattle.sparse_tensor.specs.Puts.{with_b}
use Rattle.sparse_tensor.proofs.PutFacts.{at_ok}
use Rattle.airy_curve.specs.Filling.{Tells, entry_b}
use Rattle.airy_curve.specs.Numbers.{held}
use Rattle.airy_curve.specs.Steps.{unless_obtained}
use Rattle.airy_curve.specs.Storing.{Names}
use Rattle.airy_curve.proofs.FillingLaw.{at, entry-at, exponent-some, named, none_b, place-at}
use Rattle.airy_curve.proofs.PutLemmas.{may_b}
use Rattle.airy_curve.proofs.filling.fill_b.Goals as goal

pub returns-in_default-clause-put : goal.returns-in_default-clause-put
returns-in_default-clause-put c = none_b (held c.args.numbers.now) c.args.most c.args.i c.args.j c.args.k c.args.tensors.now (sym c.exponent.ensures ∙ c.in_default.is)

pub returns-in_default-clause-told : goal.returns-in_default-clause-told
unfolding Tells
returns-in_default-clause-told c =
    place-at (held c.args.numbers.now) c.args.most c.args.i c.args.j c.args.k ∙ ap (named (held c.args.numbers.now) c.args.j) (sym c.exponent.ensures ∙ c.in_default.is)

pub number_at-requires : goal.number_at-requires
number_at-requires c = let e = exponent-some _ _ _ _ (sym c.exponent.ensures ∙ c.in-Some.is) in omega (arith, e.high, c.requires.place.most')

pub returns-in_default-mul-clause-told : goal.returns-in_default-mul-clause-told
unfolding Tells Names unless_obtained
returns-in_default-mul-clause-told c =
    let odd : c.whole.result ≡ whole (2 * c.args.j + 1) = unfold whole in search rules in
    let none : obtained_product c.whole.result c.number_at.result ≡ None = search rules in
    place-at (held c.args.numbers.now) c.args.most c.args.i c.args.j c.args.k ∙ ap (named (held c.args.numbers.now) c.args.j) (sym c.exponent.ensures ∙ c.in-Some.is)
    ∙ ap (unless_obtained c.in-Some.e) (sym (ap₂ obtained_product odd c.number_at.ensures) ∙ none)

pub unless_wanting-requires : goal.unless_wanting-requires
unless_wanting-requires c =
    let e = exponent-some _ _ _ _ (sym c.exponent.ensures ∙ c.in-Some.is) in
    let some : obtained_product c.whole.result c.number_at.result ≡ Some c.in-Some-mul.value = search rules in
    c.put_b.ensures.allowed
    (may_b (held c.args.numbers.now) c.args.most c.args.tensors.now c.args.i c.args.j c.args.k c.in-Some.e c.in-Some-mul.value c.requires.place e.high e.low
    (λ z. product_exact _ _ _ some ∙ ap (λ x. c.whole.result *ℚ x) (c.number_at.ensures ∙ z) ∙ *ℚ-0ℚ _) c.requires.free)

pub returns-in_err-unless_wanting-clause-told : goal.returns-in_err-unless_wanting-clause-told
unfolding Tells Names
returns-in_err-unless_wanting-clause-told c = let p = err_from_is_err_and c.from_residual.result c.from_residual.ensures.1 in rw (p.1, p.2) tt

pub returns-clause-put : goal.returns-clause-put
unfolding entry_b
returns-clause-put c =
    let odd : c.whole.result ≡ whole (2 * c.args.j + 1) = unfold whole in search rules in
    let some : obtained_product c.whole.result c.number_at.result ≡ Some c.in-Some-mul.value = search rules in
    let number = entry-at (held c.args.numbers.now) c.args.most (c.args.k + 1) (c.args.i + c.args.j) ∙ ap (at (held c.args.numbers.now)) (sym c.exponent.ensures ∙ c.in-Some.is) in
    at_ok c.put_b.result c.in_ok-unless_wanting.ensures c.put_b.ensures.put
    ∙ ap (with_b c.args.tensors.now c.args.i c.args.j c.args.k) (product_exact _ _ _ some ∙ ap₂ ◌*ℚ◌ odd (c.number_at.ensures ∙ sym number))

pub returns-clause-told : goal.returns-clause-told
unfolding Tells unless_obtained
returns-clause-told c =
    let odd : c.whole.result ≡ whole (2 * c.args.j + 1) = unfold whole in search rules in
    let some : obtained_product c.whole.result c.number_at.result ≡ Some c.in-Some-mul.value = search rules in
    place-at (held c.args.numbers.now) c.args.most c.args.i c.args.j c.args.k ∙ ap (named (held c.args.numbers.now) c.args.j) (sym c.exponent.ensures ∙ c.in-Some.is)
    ∙ ap (unless_obtained c.in-Some.e) (sym (ap₂ obtained_product odd c.number_at.ensures) ∙ some)
