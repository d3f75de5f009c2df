use Rattle.std.proofs.Common.{sym}
use Rattle.airy_json.proofs.GivenLemmas.{value_listed}
use Rattle.airy_json.proofs.verifying.GivenValuesSeen.at.Goals as goal

pub returns-clause-outcome : goal.returns-clause-outcome
unfolding Rattle.amp_terms.specs.Pivots.listed
returns-clause-outcome c = sym (value_listed c.args.self.now.values.now c.args.rank _ c.requires)
