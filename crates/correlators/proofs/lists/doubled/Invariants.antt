use Rattle.std.proofs.Common.{◌≡◌, ◌*◌, map, take}
use Rattle.correlators.proofs.lists.doubled.Given as goal

abbrev pub invariant-loop-d : goal.invariant-loop-d
invariant-loop-d l = l.powers.items ≡ map (λ d. 2 * d) (take l.d-index l.list)
