use Rattle.airymore.proofs.CurveLemmas.{curve_steps}
use Rattle.airymore.proofs.laws.curve_steps.Goals as goal

pub returns : goal.returns
returns c = curve_steps
