use Rattle.std.proofs.Common.{◌≡◌, ◌+◌, suc, ℕ, subst, arith, rules, sym}
use Rattle.std.specs.Prelude.{IfOk, OnOk, IfErr, None}
use Rattle.std.proofs.lemmas.Result.{IfOk-weaker}
use Rattle.airy_math.specs.Families.{top_wk}
use Rattle.airy_math.specs.Curves.{curve, number_of, of_list}
use Rattle.airy_curve.specs.Steps.{curve_refusal}
use Rattle.airy_curve.specs.Storing.{Names, StandsFor}
use Rattle.airy_curve.proofs.making.curve.Goals as goal
use Rattle.std.proofs.Math.Numerals.{suc-eq-add-one}

pub overflow_add-top : goal.overflow_add-top
unfolding top_wk
overflow_add-top c = let e = c.top_of_curve-top.ensures in search rules

pub curve_cut-requires-clause-within : goal.curve_cut-requires-clause-within
unfolding top_wk
curve_cut-requires-clause-within c = let e = c.top_of_curve-top.ensures in omega arith

pub curve_cut-requires-clause-exponents : goal.curve_cut-requires-clause-exponents
unfolding top_wk
curve_cut-requires-clause-exponents c = let e = c.top_of_curve-top.ensures in omega arith

pub curve_cut-requires-clause-most : goal.curve_cut-requires-clause-most
unfolding top_wk
curve_cut-requires-clause-most c = let e = c.top_of_curve-top.ensures in omega arith

pub returns-clause-stands : goal.returns-clause-stands
returns-clause-stands c =
    subst (λ m. IfOk c.curve_cut.result (λ t. StandsFor t (curve (number_of (of_list c.args.u.now)) (suc m) m))) c.top_of_curve-top.ensures
    (subst (λ d. IfOk c.curve_cut.result (λ t. StandsFor t (curve (number_of (of_list c.args.u.now)) d c.top_of_curve-top.result))) (sym (suc-eq-add-one c.top_of_curve-top.result)) c.curve_cut.ensures.stands)

pub returns-clause-closes : goal.returns-clause-closes
returns-clause-closes c =
    IfOk-weaker c.curve_cut.result _ _ (λ t closes N h. closes N (omega (arith, h, c.top_of_curve-top.ensures)) (omega (arith, h, c.top_of_curve-top.ensures))) c.curve_cut.ensures.closes

pub returns-clause-obtained : goal.returns-clause-obtained
returns-clause-obtained c =
    subst (λ m. OnOk c.curve_cut.result (curve_refusal (of_list c.args.u.now) (suc m) m ≡ None)) c.top_of_curve-top.ensures
    (subst (λ d. OnOk c.curve_cut.result (curve_refusal (of_list c.args.u.now) d c.top_of_curve-top.result ≡ None)) (sym (suc-eq-add-one c.top_of_curve-top.result)) c.curve_cut.ensures.obtained)

pub returns-clause-over : goal.returns-clause-over
returns-clause-over c =
    subst (λ m. IfErr c.curve_cut.result (λ e. Names e (curve_refusal (of_list c.args.u.now) (suc m) m))) c.top_of_curve-top.ensures
    (subst (λ d. IfErr c.curve_cut.result (λ e. Names e (curve_refusal (of_list c.args.u.now) d c.top_of_curve-top.result))) (sym (suc-eq-add-one c.top_of_curve-top.result)) c.curve_cut.ensures.over)
