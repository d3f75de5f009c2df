-- Where the relations hold, no two orders of a key's indices differ.
use Prim.Native.Nat.{ℕ}
use mathlib.Core.Path.{◌≡◌, refl, sym, ap, ◌∙◌}
use mathlib.Core.Bool.{cond}
use mathlib.Core.List.{List, [], ◌∷◌}
use lib.ListN.{get_or}
use Rattle.amp_terms.specs.declared.Outcome.{Outcome}
use Rattle.amp_terms.specs.declared.Outcome.TheVariants.{Over}
use Rattle.amp_terms.specs.Outcomes.{outcomes, has_value, smaller, least_blocked, value_in}
use Rattle.amp_terms.specs.Pivots.{pivot_outcome, listed, least_without, number_at}
use Rattle.series_law.specs.Check.{Verdict, Solution, NotValue, Overflow, Orders, check}
use Rattle.series_law.proofs.CheckLaw.{check_law}
use Rattle.airy_exists.specs.Existence.{rec_series, FindsNoOrders, NoOrdersLaw, OneValueLaw}
use Rattle.airy_exists.proofs.ExistenceLaw.{existence, orders}
use Rattle.series_law.proofs.OutcomeLaw.{outcome_value}

same_blocked : (done : List Outcome) (rs : List ℕ) → least_without (listed done) rs ≡ least_blocked done rs
unfolding least_without least_blocked listed
same_blocked done [] = refl
same_blocked done (r ∷ rs) = ap (λ b. cond (has_value (get_or done r Over)) b (smaller r b)) (same_blocked done rs)

pub one_value : OneValueLaw
unfolding pivot_outcome listed number_at value_in
one_value T sy gr cl X key i j v w p h k a b =
    let x = outcome_value _ _ v a in
    let y = outcome_value _ _ w b in
    (orders T sy gr cl X).obtained key i v p h (sym (same_blocked (outcomes T X) _) ∙ x.0) x.1
    ∙ sym ((orders T sy gr cl X).obtained key j w p k (sym (same_blocked (outcomes T X) _) ∙ y.0) y.1)

-- Two orders that differ would leave no solution.
pub no_orders : NoOrdersLaw
unfolding FindsNoOrders
no_orders T sy gr cl X = by (check T X (outcomes T X)) refl
  where
    by : (v : Verdict) → check T X (outcomes T X) ≡ v → FindsNoOrders v
    by Solution e = tt
    by (NotValue r) e = tt
    by (Overflow key i) e = tt
    by (Orders key i a j b) e = (check_law T X sy gr).no_solution key i j a b e (rec_series T X) (existence T sy gr cl X)
