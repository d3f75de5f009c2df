use Rattle.std.proofs.Common.{◌≡◌, ap, ap₂, sym, subst, ◌∙◌, pos, rules}
use Rattle.std.specs.Prelude.{None, Some}
use Rattle.std.proofs.lemmas.Result.{err_from_is_err_and}
use Rattle.airy_math.specs.Obtained.{obtained_product}
use Rattle.airy_math.specs.Rational.{◌/ℚ◌, ◌*ℚ◌}
use Rattle.airy_math.proofs.ObtainedLaw.{product_exact}
use Rattle.sparse_tensor.specs.Entries.{Entries}
use Rattle.airy_math.specs.Curves.{curve_shape}
use Rattle.airy_curve.specs.Filling.{Fits, FitsD, Tells}
use Rattle.airy_curve.specs.Numbers.{held}
use Rattle.airy_curve.specs.Steps.{entry_refusal, or_else, tensors_refusal, unless_obtained}
use Rattle.airy_curve.specs.Storing.{Names}
use Rattle.airy_curve.proofs.CurveFilled.{small_curve, room_curve, graded_curve, fits_curve, fits_curve-0, fits_curve-1, filled}
use Rattle.airy_curve.proofs.StepLemmas.{names_entry}
use Rattle.airy_curve.proofs.making.tensors_of.Goals as goal

pub with_corner-requires-clause-law : goal.with_corner-requires-clause-law
unfolding curve_shape
with_corner-requires-clause-law c = small_curve

pub with_corner-requires-clause-letter : goal.with_corner-requires-clause-letter
unfolding curve_shape
with_corner-requires-clause-letter c = λ e. room_curve

pub with_corner-requires-clause-graded : goal.with_corner-requires-clause-graded
unfolding curve_shape
with_corner-requires-clause-graded c = graded_curve

pub returns-in_err-tensors-clause-over : goal.returns-in_err-tensors-clause-over
unfolding Names
returns-in_err-tensors-clause-over c = let p = err_from_is_err_and c.from_residual.result c.from_residual.ensures.1 in rw (p.1, p.2) tt

pub fill-requires-clause-fits : goal.fill-requires-clause-fits
unfolding curve_shape
fill-requires-clause-fits c = subst (λ s. Fits s (held c.args.numbers.now) c.args.most) (sym c.in_ok-tensors.ensures.shape_is) (fits_curve (held c.args.numbers.now) c.args.most)

pub returns-in_err-fill-clause-over : goal.returns-in_err-fill-clause-over
unfolding Tells
returns-in_err-fill-clause-over c =
    let f = held c.args.numbers.now in
    let p = err_from_is_err_and c.from_residual-in_err-fill.result c.from_residual-in_err-fill.ensures.1 in
    let entry = subst (λ d. Names c.in_err-fill.field-0.0 (entry_refusal f d c.args.most)) c.in_ok-tensors.ensures.dim_is c.in_err-fill.ensures.told in
    rw (p.1, p.2) (names_entry c.in_err-fill.field-0.0 f c.args.dim c.args.most entry)

pub returns-in_default-clause-over : goal.returns-in_default-clause-over
unfolding Names Tells tensors_refusal or_else unless_obtained
returns-in_default-clause-over c =
    let f = held c.args.numbers.now in
    let none : obtained_product c.number_at.result c.eighth.result ≡ None = search rules in
    let entry = subst (λ d. entry_refusal f d c.args.most ≡ None) c.in_ok-tensors.ensures.dim_is c.in_ok-fill.ensures.told in
    rw entry (ap (unless_obtained 1) (ap₂ obtained_product (sym c.number_at.ensures) (sym c.eighth.ensures) ∙ none))

pub fill_d-requires-clause-first : goal.fill_d-requires-clause-first
unfolding curve_shape
fill_d-requires-clause-first c = subst (λ s. FitsD s 0 c.in-Some.corner) (sym (ap (λ (u : Entries). u.shape) c.in_ok-fill.ensures.filled.others ∙ c.in_ok-tensors.ensures.shape_is)) (fits_curve-0 _)

pub fill_d-requires-clause-second : goal.fill_d-requires-clause-second
unfolding curve_shape
fill_d-requires-clause-second c = subst (λ s. FitsD s 1 c.eighth-2.result) (sym (ap (λ (u : Entries). u.shape) c.in_ok-fill.ensures.filled.others ∙ c.in_ok-tensors.ensures.shape_is)) (fits_curve-1 _)

pub fill_d-requires-clause-before : goal.fill_d-requires-clause-before
fill_d-requires-clause-before c = ap (λ (u : Entries). u.d) c.in_ok-fill.ensures.filled.others ∙ c.in_ok-tensors.ensures.no_d

pub returns-in_err-fill_d-clause-over : goal.returns-in_err-fill_d-clause-over
unfolding Names
returns-in_err-fill_d-clause-over c = let p = err_from_is_err_and c.from_residual-in_err-fill_d.result c.from_residual-in_err-fill_d.ensures.1 in rw (p.1, p.2) tt

pub returns-clause-entries : goal.returns-clause-entries
unfolding curve_shape
returns-clause-entries c =
    let f = held c.args.numbers.now in
    let some : obtained_product c.number_at.result c.eighth.result ≡ Some c.in-Some.corner = search rules in
    let value : c.in-Some.corner ≡ f 1 *ℚ (pos 1 /ℚ 8) = product_exact (f 1) (pos 1 /ℚ 8) c.in-Some.corner (ap₂ obtained_product (sym c.number_at.ensures) (sym c.eighth.ensures) ∙ some) in
    filled f c.args.dim c.args.most c.args.letter c.in-Some.corner c.eighth-2.result c.in_ok-tensors.tensors c.fill.new.tensors c.fill_d.new.tensors c.in_ok-tensors.ensures
    c.in_ok-fill.ensures.filled c.in_ok-fill_d.ensures.others c.in_ok-fill_d.ensures.filled value c.eighth-2.ensures

pub returns-clause-obtained : goal.returns-clause-obtained
unfolding Tells tensors_refusal or_else unless_obtained
returns-clause-obtained c =
    let f = held c.args.numbers.now in
    let some : obtained_product c.number_at.result c.eighth.result ≡ Some c.in-Some.corner = search rules in
    let entry = subst (λ d. entry_refusal f d c.args.most ≡ None) c.in_ok-tensors.ensures.dim_is c.in_ok-fill.ensures.told in
    rw entry (ap (unless_obtained 1) (ap₂ obtained_product (sym c.number_at.ensures) (sym c.eighth.ensures) ∙ some))
