use Rattle.relation_law.proofs.CurveCuts.{curve_cut_law}
use Rattle.relation_law.proofs.curve_is_cut.Goals as goal

-- the law itself
pub returns : goal.returns
returns c = curve_cut_law
