use Rattle.std.proofs.Common.{ap, replicate, ◌∙◌}
use Rattle.airy_math.specs.RationalLaws.{0ℚ}
use Rattle.bulk_tensors.proofs.full.Full.zero.Goals as goal

pub returns : goal.returns
unfolding 0ℚ
returns c = c.in_ok-vec.ensures.items_if_clones_equal (λ y h. h) ∙ ap (replicate 512) c.whole.ensures
