use Rattle.std.proofs.Common.{sym, ap, ◌∙◌, arith}
use Rattle.airy_exists.specs.Agreement.{answer_at}
use Rattle.airy_exists.specs.declared.ends.Agreed.TheVariants.{NotValue}
use Rattle.airy_exists.proofs.AgreementLemmas.{long_table, is_agreed}
use Rattle.airy_exists.proofs.agreement.agreed.Goals as goal

pub key-requires : goal.key-requires
key-requires c = omega (arith, c.in-Some.ensures.within, long_table c.args.plan.now c.args.table.now c.requires.outcomes)

pub returns-in-Some : goal.returns-in-Some
unfolding answer_at
returns-in-Some c =
    is_agreed c.args.plan.now c.tensors.result.now c.args.table.now _ c.tensors.ensures c.soundness_fact.ensures
    c.requires.relations c.requires.outcomes
    (ap NotValue c.key.ensures ∙ ap (answer_at c.args.plan.now) (sym c.in-Some.is ∙ c.first_not_value.ensures.value))

pub returns-in-None : goal.returns-in-None
unfolding answer_at
returns-in-None c =
    is_agreed c.args.plan.now c.tensors.result.now c.args.table.now _ c.tensors.ensures c.soundness_fact.ensures
    c.requires.relations c.requires.outcomes
    (ap (answer_at c.args.plan.now) (sym c.in-None.is ∙ c.first_not_value.ensures.value))
