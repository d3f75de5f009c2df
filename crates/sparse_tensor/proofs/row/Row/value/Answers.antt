use Rattle.std.proofs.Common.{sym, ◌∙◌}
use Rattle.airy_math.specs.RationalLaws.{0ℚ}
use Rattle.sparse_tensor.proofs.row.Row.value.Goals as goal

pub returns-in-Err : goal.returns-in-Err
unfolding 0ℚ
returns-in-Err c = c.whole.ensures ∙ sym c.in-Err.ensures.value
