use Rattle.std.proofs.Common.{◌≡◌, ◌≤◌, sym, ap, ap₂, ◌∙◌, refl, arith, rules}
use Rattle.std.specs.Prelude.{Some, None}
use Rattle.airy_math.specs.RationalLaws.{0ℚ}
use Rattle.airy_math.specs.Obtained.{obtained_sum, obtained_product, obtained_from}
use Rattle.airy_curve.specs.Numbers.{downwards, held}
use Rattle.airy_curve.specs.Steps.{obtained_products, negative, next_number}
use Rattle.airy_curve.proofs.StepLemmas.{sum_goes, product_stops, sum_stops, rest-none, rest-all}
use Rattle.airy_curve.proofs.numbers.next_number.Goals as goal

pub loop-l-init : goal.loop-l-init
unfolding 0ℚ
loop-l-init c =
    let u = held c.args.u.now in
    let n = held c.args.c.now in
    ap (obtained_from (Some c.whole-sum.result)) (rest-all u n c.args.k) ∙ ap (λ x. obtained_from (Some x) (obtained_products u 1 (downwards n c.args.k))) c.whole-sum.ensures

pub returns-in_err-product : goal.returns-in_err-product
unfolding negative next_number
returns-in_err-product c =
    let below : c.loop-l.l ≤ c.args.k = omega arith in
    let none : obtained_product c.number_at.result c.number_at-in-loop-l.result ≡ None = search rules in
    c.from_residual.ensures ∙ sym (ap negative (sym c.loop-l.invariant ∙ product_stops (held c.args.u.now) (held c.args.c.now) c.args.k c.loop-l.l c.loop-l.sum below (ap₂ obtained_product (sym c.number_at.ensures) (sym c.number_at-in-loop-l.ensures) ∙ none)))

pub returns-in_err-sum : goal.returns-in_err-sum
unfolding negative next_number
returns-in_err-sum c =
    let below : c.loop-l.l ≤ c.args.k = omega arith in
    let product : obtained_product c.number_at.result c.number_at-in-loop-l.result ≡ Some c.in_ok-product.product = search rules in
    let none : obtained_sum c.loop-l.sum c.in_ok-product.product ≡ None = search rules in
    c.from_residual-in_err-sum.ensures ∙ sym (ap negative (sym c.loop-l.invariant ∙ sum_stops (held c.args.u.now) (held c.args.c.now) c.args.k c.loop-l.l c.loop-l.sum c.in_ok-product.product below (ap₂ obtained_product (sym c.number_at.ensures) (sym c.number_at-in-loop-l.ensures) ∙ product) none))

pub loop-l-preserved : goal.loop-l-preserved
loop-l-preserved c =
    let below : c.loop-l.l ≤ c.args.k = omega arith in
    let product : obtained_product c.number_at.result c.number_at-in-loop-l.result ≡ Some c.in_ok-product.product = search rules in
    let sum : obtained_sum c.loop-l.sum c.in_ok-product.product ≡ Some c.in_ok-sum.sum = search rules in
    sym (sum_goes (held c.args.u.now) (held c.args.c.now) c.args.k c.loop-l.l c.loop-l.sum c.in_ok-product.product c.in_ok-sum.sum below (ap₂ obtained_product (sym c.number_at.ensures) (sym c.number_at-in-loop-l.ensures) ∙ product) sum) ∙ c.loop-l.invariant

pub returns : goal.returns
unfolding negative obtained_from next_number
returns c =
    let all : obtained_from (Some 0ℚ) (obtained_products (held c.args.u.now) 1 (downwards (held c.args.c.now) c.args.k)) ≡ Some c.loop-l.sum =
    sym c.loop-l.invariant ∙ ap (obtained_from (Some c.loop-l.sum)) (rest-none (held c.args.u.now) (held c.args.c.now) c.args.k c.loop-l.l (omega arith)) ∙ refl in
    ap Some c.neg.ensures ∙ sym (ap negative all)
