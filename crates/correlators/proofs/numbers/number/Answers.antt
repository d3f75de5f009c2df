use Rattle.std.proofs.Common.{sym, ap, subst, ◌∙◌, arith, rules}
use Rattle.correlators.proofs.Words.{0ℚ, Planning, tensors_of, rank_within, at_rank, uncovered, value_at, number_in, NumberOfSolutions}
use Rattle.correlators.proofs.NumberLaw.{number_unique, zero_unique}
use Rattle.correlators.proofs.numbers.number.Goals as goal

pub value-requires : goal.value-requires
value-requires c =
    let p : Planning = c.args.plan.now in
    omega (arith, c.requires, rank_within p c.args.key.now c.in-At.rank (c.planned_once.ensures (tensors_of p) p.bound) c.validity_fact.ensures (sym c.rank_of.ensures ∙ c.in-At.is))

pub returns-in-At-clause-unique : goal.returns-in-At-clause-unique
returns-in-At-clause-unique c = λ holds.
    let p : Planning = c.args.plan.now in
    number_unique p c.args.table.now c.args.key.now holds c.value.result c.quotient.result c.quotient.ensures
    (c.value.ensures ∙ ap (value_at c.args.table.now) (at_rank p c.args.key.now c.in-At.rank (sym c.rank_of.ensures ∙ c.in-At.is)).rank)

pub returns-in-Zero-clause-answer : goal.returns-in-Zero-clause-answer
unfolding 0ℚ number_in
returns-in-Zero-clause-answer c = search rules

pub returns-in-Zero-clause-unique : goal.returns-in-Zero-clause-unique
unfolding 0ℚ
returns-in-Zero-clause-unique c = λ holds.
    subst (NumberOfSolutions c.args.plan.now c.args.key.now) (sym c.whole.ensures)
    (zero_unique c.args.plan.now c.args.key.now (uncovered c.args.plan.now c.args.key.now (sym c.rank_of.ensures ∙ c.in-Zero.is)))
