use Rattle.std.proofs.Common.{Some, sym, ap, subst, ◌∙◌, arith}
use Rattle.airy_math.specs.RationalLaws.{0ℚ}
use Rattle.amp_plan.specs.Plans.{Planning, tensors_of}
use Rattle.amp_plan.proofs.PlaceLemmas.{rank_within}
use Rattle.series_law.specs.Amplitudes.{IsAmplitude, shown_at, shown_amplitude}
use Rattle.series_law.proofs.AmplitudeLaw.{nowhere, value_unique, zero_unique, uniqueness_of}
use Rattle.series_law.proofs.amplitude.amplitude_of.Goals as goal

pub value-requires : goal.value-requires
value-requires c =
    let p : Planning = c.args.plan.now in
    omega (arith, c.requires, rank_within p c.args.key.now c.in-At.rank (c.planned_once.ensures (tensors_of p) p.bound) c.validity_fact.ensures (sym c.rank_of.ensures ∙ c.in-At.is))

pub returns-in-At-clause-amplitude : goal.returns-in-At-clause-amplitude
unfolding shown_amplitude shown_at
returns-in-At-clause-amplitude c = c.value.ensures ∙ ap (shown_at c.args.table.now) (sym c.in-At.is ∙ c.rank_of.ensures)

pub returns-in-At-clause-unique : goal.returns-in-At-clause-unique
returns-in-At-clause-unique c = λ holds b.
    let p : Planning = c.args.plan.now in
    value_unique p c.args.key.now (uniqueness_of p c.uniqueness.ensures c.tensors.result.now c.tensors.ensures c.soundness_fact.ensures) c.args.table.now holds c.in-At.rank (sym c.rank_of.ensures ∙ c.in-At.is) c.value.result c.value.ensures

pub returns-in-Zero-clause-amplitude : goal.returns-in-Zero-clause-amplitude
unfolding shown_amplitude shown_at 0ℚ
returns-in-Zero-clause-amplitude c = ap Some c.whole.ensures ∙ ap (shown_at c.args.table.now) (sym c.in-Zero.is ∙ c.rank_of.ensures)

pub returns-in-Zero-clause-unique : goal.returns-in-Zero-clause-unique
unfolding 0ℚ
returns-in-Zero-clause-unique c = λ holds b.
    let p : Planning = c.args.plan.now in
    subst (IsAmplitude p c.args.key.now) (sym c.whole.ensures)
    (zero_unique p c.args.key.now (uniqueness_of p c.uniqueness.ensures c.tensors.result.now c.tensors.ensures c.soundness_fact.ensures) c.validity_fact.ensures b (sym c.rank_of.ensures ∙ c.in-Zero.is))

pub returns-in-Beyond-clause-amplitude : goal.returns-in-Beyond-clause-amplitude
unfolding shown_amplitude
returns-in-Beyond-clause-amplitude c = nowhere c.args.table.now c.rank_of.result c.in-Beyond.is ∙ ap (shown_at c.args.table.now) c.rank_of.ensures
