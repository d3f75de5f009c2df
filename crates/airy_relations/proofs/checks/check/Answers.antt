use Rattle.std.proofs.Common.{◌∙◌, sym}
use Rattle.sparse_tensor.specs.Entries.{looked_up}
use Rattle.airy_relations.proofs.ClosedLaw.{closed_law, failure_law}
use Rattle.airy_relations.proofs.checks.check.Goals as goal

pub check_all-requires-clause-most : goal.check_all-requires-clause-most
unfolding looked_up
check_all-requires-clause-most c = c.requires.most

pub returns-clause-closed : goal.returns-clause-closed
returns-clause-closed c = λ e. closed_law (looked_up c.args.t.now) c.args.places c.soundness_fact.ensures.symmetric (sym c.check_all.ensures ∙ e)

pub returns-clause-differs : goal.returns-clause-differs
returns-clause-differs c = failure_law (looked_up c.args.t.now) c.args.places c.soundness_fact.ensures.symmetric _ c.check_all.ensures
