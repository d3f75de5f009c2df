use Rattle.std.proofs.Common.{◌≡◌, ◌⊎◌, inl, inr, ℕ, ◌<◌, ◌≤◌, arith, ap, ◌∙◌}
use Rattle.cell_words.proofs.Names.{cases_lt, euler_of, Planning, key_at, cells, cells_to}
use Rattle.cell_words.proofs.LevelLemmas.{level-ranks, level-inside}
use Rattle.cell_words.proofs.levels.level_end.Goals as goal

-- behind the last of a level
past : (p : Planning) (k r : ℕ) → k ≤ p.bound → r < cells p → k < euler_of (key_at p r) → r ≤ cells_to p k → r ≡ cells_to p k
past p k r within low above h = by (cases_lt r (cells_to p k))
  where
    by : (r < cells_to p k) ⊎ (cells_to p k ≤ r) → r ≡ cells_to p k
    by (inl l) = let e = (level-ranks p k r within low).0 l in absurd (omega (arith, e, above))
    by (inr l) = omega arith

pub returns-then-euler-from : goal.returns-then-euler-from
unfolding euler_of
returns-then-euler-from c =
    let p = c.args.plan.now in
    let e : c.euler.result ≡ euler_of (key_at p c.loop-rank.rank) = c.euler.ensures ∙ ap euler_of c.key.ensures in
    past p c.args.level c.loop-rank.rank c.requires.level (omega (arith, c.loop-rank-test.true, c.len-rank-end.ensures)) (omega (arith, e, c.from.ensures, c.if-euler-from.true)) c.loop-rank.invariant

pub loop-rank-preserved : goal.loop-rank-preserved
unfolding euler_of
loop-rank-preserved c =
    let p = c.args.plan.now in
    let e : c.euler.result ≡ euler_of (key_at p c.loop-rank.rank) = c.euler.ensures ∙ ap euler_of c.key.ensures in
    let low = (level-ranks p c.args.level c.loop-rank.rank c.requires.level (omega (arith, c.loop-rank-test.true, c.len-rank-end.ensures))).1 (omega (arith, e, c.from.ensures, c.if-euler-from.false)) in omega (arith, low)

pub returns : goal.returns
returns c = omega (arith, c.len.ensures, c.len-rank-end.ensures, c.loop-rank-test.false, c.loop-rank.invariant, level-inside c.args.plan.now c.args.level c.requires.level)
