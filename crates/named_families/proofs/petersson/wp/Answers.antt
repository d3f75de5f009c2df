use Rattle.std.proofs.Common.{◌≡◌, ◌+◌, suc, subst, arith, rules, ℕ, sym}
use Rattle.std.specs.Prelude.{IfOk, OnOk, IfErr, None}
use Rattle.airy_math.specs.Families as exact
use Rattle.airy_math.specs.Families.{top_wk, wp_cut}
use Rattle.sparse_tensor.specs.Entries.{looked_up}
use Rattle.airy_curve.proofs.ValueLemmas.{both_ok}
use Rattle.named_families.specs.Families.{StandsForLettered, Names, top}
use Rattle.named_families.specs.Steps.{wp_refusal}
use Rattle.named_families.proofs.petersson.wp.Goals as goal
use Rattle.std.proofs.Math.Numerals.{suc-eq-add-one}

pub overflow_add-top : goal.overflow_add-top
unfolding top top_wk
overflow_add-top c = let e = c.top_of-top.ensures in search rules

pub wp_cut-requires-clause-within : goal.wp_cut-requires-clause-within
unfolding top top_wk
wp_cut-requires-clause-within c = let e = c.top_of-top.ensures in omega arith

pub wp_cut-requires-clause-exponents : goal.wp_cut-requires-clause-exponents
unfolding top top_wk
wp_cut-requires-clause-exponents c = let e = c.top_of-top.ensures in omega arith

pub wp_cut-requires-clause-most : goal.wp_cut-requires-clause-most
unfolding top top_wk
wp_cut-requires-clause-most c = let e = c.top_of-top.ensures in omega arith

pub returns-clause-stands : goal.returns-clause-stands
unfolding top
returns-clause-stands c =
    subst (λ m. IfOk c.wp_cut.result (λ t. StandsForLettered t (exact.wp_cut (suc m) m))) c.top_of-top.ensures
    (subst (λ d. IfOk c.wp_cut.result (λ t. StandsForLettered t (exact.wp_cut d c.top_of-top.result))) (sym (suc-eq-add-one c.top_of-top.result)) c.wp_cut.ensures.stands)

pub returns-clause-closes : goal.returns-clause-closes
unfolding top looked_up wp_cut
returns-clause-closes c =
    both_ok c.wp_cut.result _ _ _ (λ t stands closes N h. closes N (omega (arith, h, stands.entries.dim, c.top_of-top.ensures)) (omega (arith, h, c.top_of-top.ensures))) c.wp_cut.ensures.stands c.wp_cut.ensures.closes

pub returns-clause-obtained : goal.returns-clause-obtained
unfolding top
returns-clause-obtained c =
    subst (λ m. OnOk c.wp_cut.result (wp_refusal (suc m) m ≡ None)) c.top_of-top.ensures
    (subst (λ d. OnOk c.wp_cut.result (wp_refusal d c.top_of-top.result ≡ None)) (sym (suc-eq-add-one c.top_of-top.result)) c.wp_cut.ensures.obtained)

pub returns-clause-over : goal.returns-clause-over
unfolding top
returns-clause-over c =
    subst (λ m. IfErr c.wp_cut.result (λ e. Names e (wp_refusal (suc m) m))) c.top_of-top.ensures
    (subst (λ d. IfErr c.wp_cut.result (λ e. Names e (wp_refusal d c.top_of-top.result))) (sym (suc-eq-add-one c.top_of-top.result)) c.wp_cut.ensures.over)
