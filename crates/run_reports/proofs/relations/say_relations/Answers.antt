use Rattle.run_reports.proofs.Names.{looked_up}
use Rattle.run_reports.proofs.RelationLemmas.{verdict_tells}
use Rattle.run_reports.proofs.relations.say_relations.Goals as goal

pub returns-clause-tells : goal.returns-clause-tells
returns-clause-tells g c = verdict_tells (looked_up c.args.tensors.now) c.args.places c.check.result c.check.ensures.found c.check.ensures.closed c.check.ensures.differs
