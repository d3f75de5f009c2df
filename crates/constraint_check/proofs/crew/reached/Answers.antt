use Rattle.std.proofs.Common.{◌≡◌, ℕ, ◌+◌, length, get_or, arith, sym, ap, ◌∙◌}
use Rattle.amp_plan.specs.Plans.{keys_of}
use Rattle.constraint_check.specs.Ends.{verdict_from}
use Rattle.constraint_check.specs.Pivots.{cut_at}
use Rattle.constraint_check.proofs.PieceLemmas.{cut_first, cut_last, cut_within}
use Rattle.constraint_check.proofs.crew.reached.Goals as goal

pub loop-k-init : goal.loop-k-init
loop-k-init g c = ap (verdict_from c.args.plan.now) (sym (cut_first (length (keys_of c.args.plan.now)) c.args.pieces))

pub loop-k-preserved : goal.loop-k-preserved
loop-k-preserved g c =
    let p = c.args.plan.now in let n = length (keys_of p) in let k : ℕ = c.loop-k.k in let r : ℕ = c.index-rank.result.now in
    let piece = c.in_ok-ranks.ensures.each k r (omega (arith, c.loop-k-test.true)) in
    let is : r ≡ get_or c.in_ok-ranks.ranks.items k r = c.index-rank.ensures in
    let end : c.cut.result ≡ cut_at n c.args.pieces (k + 1) = c.cut.ensures ∙ ap (λ m. cut_at m c.args.pieces (k + 1)) c.len-len.ensures in
    let whole : r ≡ cut_at n c.args.pieces (k + 1) = (let high = piece.1.met.high in omega (arith, is, high, end, c.if-rank-cut.false)) in
    c.loop-k.invariant ∙ piece.1.met.passed ∙ ap (verdict_from p) (sym is ∙ whole)

pub returns-then-rank-cut-clause-within : goal.returns-then-rank-cut-clause-within
returns-then-rank-cut-clause-within g c =
    let p = c.args.plan.now in let n = length (keys_of p) in let k : ℕ = c.loop-k.k in let r : ℕ = c.index-rank.result.now in
    let piece = c.in_ok-ranks.ensures.each k r (omega (arith, c.loop-k-test.true)) in
    let is : r ≡ get_or c.in_ok-ranks.ranks.items k r = c.index-rank.ensures in
    (let high = piece.1.met.high in omega (arith, is, high, cut_within n c.args.pieces (k + 1) (omega (arith, c.loop-k-test.true))))

pub returns-clause-passed : goal.returns-clause-passed
returns-clause-passed g c =
    let p = c.args.plan.now in let n = length (keys_of p) in
    let all : c.loop-k.k ≡ c.args.pieces = omega (arith, c.loop-k-test.false, c.loop-k.auto.k-end) in
    c.loop-k.invariant ∙ ap (λ j. verdict_from p (cut_at n c.args.pieces j)) all ∙ ap (verdict_from p) (cut_last n c.args.pieces c.requires.pieces.0 ∙ sym c.len-len.ensures)
