-- The tensors that a table of a curve is made of are a cut of the whole curve.
use Rattle.std.proofs.Common.{suc, sym, ap, ◌∙◌}
use Rattle.airy_math.specs.Rational.{◌*ℚ◌}
use Rattle.airy_math.specs.RationalLaws.{1ℚ, 1ℚ_idl}
use Rattle.airy_math.proofs.ExactLaw.{power-one}
use Rattle.airy_math.proofs.FamilyLaw.{curve_cut, curve_graded, whole_graded, whole_symmetric}
use Rattle.relation_law.specs.Cuts.{CurveCutLaw}

pub curve_cut_law : CurveCutLaw
curve_cut_law c X t M x l h = record {
  cut = curve_cut X 1ℚ t M c c (λ e. sym (ap (λ p. p *ℚ c e) (power-one e) ∙ 1ℚ_idl (c e))) x l h;
  graded = curve_graded c (suc t) t;
  whole_symmetric = whole_symmetric c M;
  whole_graded = whole_graded c M;
}
