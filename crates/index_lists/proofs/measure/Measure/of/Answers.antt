use Rattle.std.proofs.Common.{rules}
use Rattle.index_lists.proofs.MeasureLemmas.{measured-one}
use Rattle.index_lists.proofs.measure.Measure.of.Goals as goal

pub returns-clause-measured : goal.returns-clause-measured
returns-clause-measured c = measured-one c.args.per_n c.args.x _ c.index_code.result (search rules) c.index_code.ensures.code
