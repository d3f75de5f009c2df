use Rattle.airy_math.specs.Rational.{positive, coprime}
use Rattle.frac128.proofs.fraction.Frac.range_fact.Goals as goal

pub returns-clause-positive : goal.returns-clause-positive
returns-clause-positive c = positive c.args.self

pub returns-clause-lowest : goal.returns-clause-lowest
returns-clause-lowest c = coprime c.args.self
