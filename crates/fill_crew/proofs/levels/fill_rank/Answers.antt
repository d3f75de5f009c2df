use Rattle.std.proofs.Common.{◌+◌, arith, sym, ap₂, ◌∙◌, take}
use Rattle.cell_words.proofs.LevelLemmas.{level-inside}
use Rattle.cell_words.proofs.Names.{all_outcomes, outcome_at}
use Rattle.fill_crew.proofs.NextLemmas.{published-many, is-next}
use Rattle.fill_crew.proofs.levels.fill_rank.Goals as goal

pub overflow_add-rank : goal.overflow_add-rank
overflow_add-rank c =
    let b = c.args.board.now in
    omega (arith, published-many b c.args.published c.args.done.now c.requires.done, c.requires.within, level-inside b.plan (c.args.published + 1) (let e = c.requires.done.next in omega arith), b.few)

pub overflow_cast-rank : goal.overflow_cast-rank
overflow_cast-rank c =
    let b = c.args.board.now in
    omega (arith, published-many b c.args.published c.args.done.now c.requires.done, c.requires.within, level-inside b.plan (c.args.published + 1) (let e = c.requires.done.next in omega arith), b.few)

pub level_outcome-requires-clause-rank : goal.level_outcome-requires-clause-rank
level_outcome-requires-clause-rank c =
    let b = c.args.board.now in
    (is-next b.plan c.plan.result.now c.args.published _ c.args.i c.plan.ensures (published-many b c.args.published c.args.done.now c.requires.done) c.requires.done.next c.requires.within).low

pub level_outcome-requires-clause-level : goal.level_outcome-requires-clause-level
level_outcome-requires-clause-level c =
    let b = c.args.board.now in
    (is-next b.plan c.plan.result.now c.args.published _ c.args.i c.plan.ensures (published-many b c.args.published c.args.done.now c.requires.done) c.requires.done.next c.requires.within).level

pub level_outcome-requires-clause-done : goal.level_outcome-requires-clause-done
level_outcome-requires-clause-done c =
    let b = c.args.board.now in
    c.requires.done.outcomes ∙ ap₂ (λ n p. take n (all_outcomes p)) (sym (published-many b c.args.published c.args.done.now c.requires.done)) (sym c.plan.ensures)

pub level_outcome-requires-clause-enough : goal.level_outcome-requires-clause-enough
level_outcome-requires-clause-enough c =
    let b = c.args.board.now in
    (is-next b.plan c.plan.result.now c.args.published _ c.args.i c.plan.ensures (published-many b c.args.published c.args.done.now c.requires.done) c.requires.done.next c.requires.within).enough

pub returns : goal.returns
returns c =
    let b = c.args.board.now in
    c.level_outcome.ensures ∙ ap₂ (λ p n. outcome_at p (n + c.args.i)) c.plan.ensures (published-many b c.args.published c.args.done.now c.requires.done)
