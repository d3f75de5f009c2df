use Rattle.std.proofs.Common.{◌*◌, map, sym, ap, ◌∙◌}
use Rattle.correlators.proofs.Words.{Planning, coefficient_in, VolumeOfSolutions}
use Rattle.correlators.proofs.VolumeLaw.{terms_are, volume_unique}
use Rattle.correlators.proofs.RefusalLemmas.{asked_answer, value_answer, memory_answer, over_answer, terms_answer}
use Rattle.correlators.proofs.volumes.volume.Goals as goal

pub returns-in-Some-clause-answer : goal.returns-in-Some-clause-answer
returns-in-Some-clause-answer c = asked_answer c.args.plan.now c.args.table.now c.args.g c.args.n c.in-Some.refusal (sym c.in-Some.is ∙ c.refused.ensures.answer)

pub returns-in-Some-first_without-clause-answer : goal.returns-in-Some-first_without-clause-answer
returns-in-Some-first_without-clause-answer c = value_answer c.args.plan.now c.args.table.now c.args.g c.args.n (sym c.in_default.is ∙ c.refused.ensures.answer) c.in-Some-first_without.key (sym c.in-Some-first_without.is ∙ c.first_without.ensures)

pub returns-in-Err-clause-answer : goal.returns-in-Err-clause-answer
returns-in-Err-clause-answer c = over_answer c.args.plan.now c.args.table.now c.args.g c.args.n (sym c.in_default.is ∙ c.refused.ensures.answer) (sym c.in_default-first_without.is ∙ c.first_without.ensures) c.in-Err.refusal c.in-Err.ensures.over

pub returns-in-Ok-all_terms-clause-answer : goal.returns-in-Ok-all_terms-clause-answer
returns-in-Ok-all_terms-clause-answer c =
    terms_answer c.args.plan.now c.args.table.now c.args.g c.args.n (sym c.in_default.is ∙ c.refused.ensures.answer) (sym c.in_default-first_without.is ∙ c.first_without.ensures) (record { terms = c.in-Ok-all_terms.terms }) c.in-Ok.ensures.all
    (terms_are c.args.plan.now c.args.table.now c.args.g c.args.n c.as_slice.result.now c.in-Ok.coefficients.items c.in-Ok-all_terms.terms.items c.in-Ok-all_terms.ensures c.as_slice.ensures.value c.in-Ok.ensures.found)

pub returns-in-Ok-all_terms-clause-unique : goal.returns-in-Ok-all_terms-clause-unique
unfolding VolumeOfSolutions
returns-in-Ok-all_terms-clause-unique c = λ holds v T' f shown ds len below.
    let p : Planning = c.args.plan.now in
    volume_unique p c.args.table.now c.args.g c.args.n (c.refused.ensures.asked c.in_default.is)
    c.planned_fact.ensures holds c.in-Ok.coefficients.items c.in-Ok.ensures.found v T' f shown ds len below
    ∙ sym (ap (coefficient_in v (map (λ d. 2 * d) ds)) (terms_are p c.args.table.now c.args.g c.args.n c.as_slice.result.now c.in-Ok.coefficients.items c.in-Ok-all_terms.terms.items c.in-Ok-all_terms.ensures c.as_slice.ensures.value c.in-Ok.ensures.found))

pub returns-clause-answer : goal.returns-clause-answer
returns-clause-answer c = memory_answer c.args.plan.now c.args.table.now c.args.g c.args.n (sym c.in_default.is ∙ c.refused.ensures.answer)
