use Rattle.std.proofs.Common.{◌≡◌, ◌+◌, ◌-◌, subst, arith, rules, ℕ}
use Rattle.std.specs.Prelude.{IfOk}
use Rattle.airy_math.specs.Named as named
use Rattle.airy_math.specs.Families.{top_wk}
use Rattle.named_families.specs.Families.{StandsFor, top}
use Rattle.named_families.proofs.families.wk.Goals as goal

pub overflow_add-top_of : goal.overflow_add-top_of
unfolding top top_wk
overflow_add-top_of c = let e = c.top_of.ensures in search rules

pub wk_cut-requires-clause-most : goal.wk_cut-requires-clause-most
unfolding top top_wk
wk_cut-requires-clause-most c = let e = c.top_of.ensures in omega arith

pub returns-clause-stands : goal.returns-clause-stands
unfolding top
returns-clause-stands c =
    let e : c.top_of.result + 1 - 1 ≡ top_wk c.args.bound = omega (arith, c.top_of.ensures) in
    subst (λ (m : ℕ). IfOk c.wk_cut.result (λ t. StandsFor t (named.wk m))) e c.wk_cut.ensures.stands
