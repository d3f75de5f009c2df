use Rattle.std.proofs.Common.{ℕ, ◌<◌, Some, None, length, get_or, sym, ap, subst, ◌∙◌, arith}
use Rattle.airy_math.specs.Ranks.{ListsPlanned, place_of}
use Rattle.amp_plan.specs.Plans.{Planning, tensors_of, keys_of, key_at, rank_at}
use Rattle.amp_terms.specs.Outcomes.{outcome_at}
use Rattle.amp_terms.specs.Tables.{full_table, first_without}
use Rattle.series_law.specs.Check.{NotValue, check, check_keys}
use Rattle.series_law.specs.First.{HaveValues}
use Rattle.series_law.proofs.FirstLaw.{values_pass, names_rank}
use Rattle.constraint_check.specs.Ends.{outcomes_of, values_of, verdict_from, Tells, NamesOver}
use Rattle.constraint_check.specs.Pivots.{HoldsValues}
use Rattle.constraint_check.proofs.FullTables.{IsFirstWithout, first_is, filled_at, length-map_some, have_values}
use Rattle.constraint_check.proofs.FirstOver.{first_over}
use Rattle.constraint_check.proofs.keys.first_failure.Goals as goal

pub returns-in-Some-clause-verdict : goal.returns-in-Some-clause-verdict
unfolding Tells check full_table outcomes_of keys_of
returns-in-Some-clause-verdict c =
    let p : Planning = c.args.plan.now in let r : ℕ = c.in-Some.rank in
    let first : IsFirstWithout (outcomes_of p) r = first_is (outcomes_of p) r (sym (ap first_without c.requires.outcomes) ∙ sym c.first_not_value.ensures.value ∙ c.in-Some.is) in
    (r, names_rank 0 (outcomes_of p) _ r first.within first.none first.before ∙ ap NotValue (omega arith), omega (arith, first.within, length-map_some (outcomes_of p), ap (λ t. length t) c.requires.outcomes, c.requires.len), c.key.ensures)

pub returns-in-Some-clause-over : goal.returns-in-Some-clause-over
unfolding NamesOver full_table outcomes_of keys_of key_at rank_at outcome_at HaveValues
returns-in-Some-clause-over c =
    let p : Planning = c.args.plan.now in let r : ℕ = c.in-Some.rank in
    let first : IsFirstWithout (outcomes_of p) r = first_is (outcomes_of p) r (sym (ap first_without c.requires.outcomes) ∙ sym c.first_not_value.ensures.value ∙ c.in-Some.is) in
    let here : r < length (keys_of p) = omega (arith, first.within, length-map_some (outcomes_of p), ap (λ t. length t) c.requires.outcomes, c.requires.len) in
    let law : ListsPlanned (tensors_of p) p.bound = c.planned_once.ensures (tensors_of p) p.bound in
    ap (λ k. get_or c.args.table.now (place_of k (keys_of p)) None) c.key.ensures
    ∙ ap (λ n. get_or c.args.table.now n None) (law.once r here)
    ∙ ap (λ t. get_or t r None) c.requires.outcomes
    ∙ filled_at (outcomes_of p) r first.within
    ∙ ap Some (first_over p r c.needs_fact.ensures here first.none first.before)

pub returns-clause-verdict : goal.returns-clause-verdict
unfolding check full_table outcomes_of values_of keys_of verdict_from
returns-clause-verdict c =
    let p : Planning = c.args.plan.now in
    let values : HoldsValues p c.args.table.now = record { outcomes = c.requires.outcomes; values = sym c.first_not_value.ensures.value ∙ c.in_default.is; long = c.requires.len } in
    subst (Tells p c.check_keys.result)
    (sym (c.requires.passed.passed values) ∙ sym (values_pass 0 (outcomes_of p) (check_keys (tensors_of p) (values_of p) (keys_of p)) (have_values p c.args.table.now values)))
    c.check_keys.ensures.verdict
