use Rattle.airy_math.specs.Families.{wp_cut, wp_number}
use Rattle.airy_math.specs.Curves.{number_of, numbers_down, first_or_zero}
use Rattle.named_families.proofs.laws.wp_closes.Goals as goal
use Rattle.std.proofs.Common.{refl}

pub returns : goal.returns
unfolding wp_cut number_of numbers_down first_or_zero
returns c = λ t dim most N stands h p. c.curve_closes.ensures t wp_number dim most N refl stands.entries h p
