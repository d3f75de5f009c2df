use Rattle.std.proofs.Common.{arith, ◌+◌, ◌*◌, map, Some, None, sym, ap, ◌∙◌}
use Rattle.correlators.proofs.Words.{count_from, divided}
use Rattle.correlators.proofs.DivisionLemmas.{left-more, left-none}
use Rattle.correlators.proofs.divisions.over_every.Goals as goal
use Rattle.airy_math.specs.Rational.{one_gcd}

pub of_lowest-requires-clause-lowest : goal.of_lowest-requires-clause-lowest
of_lowest-requires-clause-lowest c = one_gcd c.from.result

-- from the start there are all of them
pub returns-in_err-quotient : goal.returns-in_err-quotient
unfolding Rattle.airy_math.specs.Sums.below
returns-in_err-quotient c =
    c.from_residual.ensures ∙ sym (left-more (λ k. c.args.step * k + (c.args.step + 1)) c.args.count c.loop-k.k c.from.result c.loop-k.quotient c.of_lowest.result None (omega arith) (sym c.in_err-quotient.was ∙ c.mul.ensures) c.of_lowest.ensures c.from.ensures)
    ∙ c.loop-k.invariant ∙ ap (λ n. divided (map (λ k. c.args.step * k + (c.args.step + 1)) (count_from 0 n)) c.args.value) (omega arith)

pub loop-k-preserved : goal.loop-k-preserved
loop-k-preserved c =
    sym (left-more (λ k. c.args.step * k + (c.args.step + 1)) c.args.count c.loop-k.k c.from.result c.loop-k.quotient c.of_lowest.result (Some c.in_ok-quotient.quotient) (omega arith) (sym c.in_ok-quotient.was ∙ c.mul.ensures) c.of_lowest.ensures c.from.ensures)
    ∙ c.loop-k.invariant

pub returns : goal.returns
unfolding Rattle.airy_math.specs.Sums.below
returns c =
    sym (left-none (λ k. c.args.step * k + (c.args.step + 1)) c.args.count c.loop-k.k c.loop-k.quotient (omega arith))
    ∙ c.loop-k.invariant ∙ ap (λ n. divided (map (λ k. c.args.step * k + (c.args.step + 1)) (count_from 0 n)) c.args.value) (omega arith)
