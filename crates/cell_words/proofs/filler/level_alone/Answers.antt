use Rattle.std.proofs.Common.{◌≡◌, ◌+◌, arith, refl, sym, ap, ◌∙◌}
use Rattle.cell_words.proofs.Names.{cells_to}
use Rattle.cell_words.proofs.LevelSteps.{cells_grow}
use Rattle.cell_words.proofs.LevelLemmas.{level-ranks, level-inside}
use Rattle.cell_words.proofs.FillerLemmas.{published-count, refilled}
use Rattle.cell_words.proofs.filler.level_alone.Goals as goal

pub overflow_cast-start : goal.overflow_cast-start
overflow_cast-start c =
    let b = c.args.board.now in let f = c.args.filler.now in
    omega (arith, c.len-start.ensures, published-count b f (omega (arith, c.requires.next)) c.requires.filler, level-inside b.plan f.published (omega (arith, c.requires.next)), b.few)

pub level_end-end-requires-clause-from : goal.level_end-end-requires-clause-from
level_end-end-requires-clause-from c =
    let b = c.args.board.now in let f = c.args.filler.now in
    omega (arith, c.len-start.ensures, published-count b f (omega (arith, c.requires.next)) c.requires.filler, cells_grow b.plan f.published (f.published + 1) (omega arith))

pub loop-rank-init : goal.loop-rank-init
loop-rank-init c =
    let b = c.args.board.now in let f = c.args.filler.now in
    let count = published-count b f (omega (arith, c.requires.next)) c.requires.filler in (
      refilled b (cells_to b.plan f.published) f.outcomes.len f (sym count) c.requires.filler,
      sym c.len-start.ensures,
      refl,
      omega (arith, c.len-start.ensures, count),
      omega (arith, c.len-start.ensures, count, c.level_end-end.ensures, cells_grow b.plan f.published (f.published + 1) (omega arith)),
    )

pub level_outcome-outcome-requires-clause-rank : goal.level_outcome-outcome-requires-clause-rank
level_outcome-outcome-requires-clause-rank c =
    let b = c.args.board.now in let f = c.args.filler.now in
    omega (arith, c.loop-rank-test.true, c.level_end-end.ensures, level-inside b.plan (f.published + 1) (omega (arith, c.requires.next)))

pub level_outcome-outcome-requires-clause-level : goal.level_outcome-outcome-requires-clause-level
level_outcome-outcome-requires-clause-level c =
    let b = c.args.board.now in let f = c.args.filler.now in (
      omega (arith, c.requires.next),
      (level-ranks b.plan (f.published + 1) c.loop-rank.rank (omega (arith, c.requires.next)) (omega (arith, c.loop-rank-test.true, c.level_end-end.ensures, level-inside b.plan (f.published + 1) (omega (arith, c.requires.next))))).0 (omega (arith, c.loop-rank-test.true, c.level_end-end.ensures)),
    )

pub store-requires-clause-next : goal.store-requires-clause-next
store-requires-clause-next c =
    let b = c.args.board.now in let f = c.args.filler.now in
    omega (arith, c.loop-rank.invariant.1, c.loop-rank-test.true, c.level_end-end.ensures, level-inside b.plan (f.published + 1) (omega (arith, c.requires.next)))

pub raise_level-requires-clause-filler : goal.raise_level-requires-clause-filler
raise_level-requires-clause-filler c =
    let b = c.args.board.now in let f = c.args.filler.now in let i = c.loop-rank.invariant in
    refilled b _ _ c.loop-rank.filler (i.1 ∙ (let e : c.loop-rank.rank ≡ c.level_end-end.result = omega (arith, c.loop-rank-test.false, i.4) in e) ∙ c.level_end-end.ensures ∙ ap (λ k. cells_to b.plan (k + 1)) (sym i.2)) i.0
