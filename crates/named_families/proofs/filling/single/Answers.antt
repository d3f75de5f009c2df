use Rattle.std.proofs.Common.{◌≡◌, rules, subst}
use Rattle.airy_math.specs.RationalLaws.{0ℚ, 1ℚ}
use Rattle.airy_curve.specs.Numbers.{held}
use Rattle.named_families.specs.Exact.{single}
use Rattle.named_families.proofs.ExactLaw.{single_held}
use Rattle.named_families.proofs.filling.single.Goals as goal

pub returns : goal.returns
unfolding 0ℚ 1ℚ
returns c = subst (λ xs. held xs ≡ single c.args.e) (search rules) (single_held c.args.e c.whole-numbers.result c.whole.result c.requires c.whole-numbers.ensures c.whole.ensures)
