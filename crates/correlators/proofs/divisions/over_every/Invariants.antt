use Rattle.std.proofs.Common.{◌≡◌, ◌+◌, ◌*◌}
use Rattle.correlators.proofs.DivisionLemmas.{left}
use Rattle.correlators.proofs.divisions.over_every.Given as goal

abbrev pub invariant-loop-k : goal.invariant-loop-k
invariant-loop-k l = left (λ k. l.step * k + (l.step + 1)) l.count l.k l.quotient ≡ left (λ k. l.step * k + (l.step + 1)) l.count 0 l.initial.quotient
