use Rattle.std.proofs.Common.{◌≡◌, ℕ, suc, ◌+◌, ◌*◌, ◌%◌, ◌/◌, ◌^◌, ap, ◌∙◌, arith}
use Rattle.bulk_tensors.specs.Draws.{state, draw}
use Rattle.bulk_tensors.proofs.draws.Draws.draw.Goals as goal
use Rattle.std.proofs.Math.Numerals.{suc-eq-add-one}

pub returns-clause-drawn : goal.returns-clause-drawn
unfolding state draw
returns-clause-drawn c = λ seed k e. (
  ap (λ z. (1103515245 * z + 12345) % 2 ^ 31 / 65536) e,
  ap (λ z. (1103515245 * z + 12345) % 2 ^ 31) e ∙ ap (state seed) (suc-eq-add-one k),
)
