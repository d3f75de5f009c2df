use Rattle.cell_words.proofs.FillerLemmas.{many}
use Rattle.std.proofs.Common.{◌≡◌, ◌≤◌, ◌+◌, arith, sym, ap, ap₂, ◌∙◌, subst, length}
use Rattle.cell_words.proofs.DealLemmas.{whole}
use Rattle.cell_words.proofs.LevelSteps.{cells_grow}
use Rattle.cell_words.proofs.LevelLemmas.{level-inside}
use Rattle.cell_words.proofs.Names.{outcome_at, cells_to}
use Rattle.fill_crew.proofs.NextLemmas.{is-level}
use Rattle.fill_crew.proofs.levels.next_level.Goals as goal

pub overflow_cast-start : goal.overflow_cast-start
overflow_cast-start g c =
    let b = c.args.board.now in let f = c.args.filler.now in
    omega (arith, many b f _ c.requires.filler c.outcomes.ensures, level-inside b.plan f.published (omega (arith, c.requires.next)), b.few)

pub level_end-end-requires-clause-from : goal.level_end-end-requires-clause-from
level_end-end-requires-clause-from g c =
    let b = c.args.board.now in let f = c.args.filler.now in
    let more : length c.outcomes.result.now ≤ cells_to b.plan (f.published + 1) = omega (arith, many b f _ c.requires.filler c.outcomes.ensures, cells_grow b.plan f.published (f.published + 1) (omega arith)) in
    subst (λ p. length c.outcomes.result.now ≤ cells_to p (c.published.result + 1)) (sym c.plan-2.ensures) (subst (λ k. length c.outcomes.result.now ≤ cells_to b.plan (k + 1)) (sym c.published.ensures) more)

pub overflow_sub-end : goal.overflow_sub-end
overflow_sub-end g c =
    let b = c.args.board.now in let f = c.args.filler.now in
    let end : c.level_end-end.result ≡ cells_to b.plan (f.published + 1) = c.level_end-end.ensures ∙ ap₂ (λ p k. cells_to p (k + 1)) c.plan-2.ensures c.published.ensures in
    omega (arith, end, many b f _ c.requires.filler c.outcomes.ensures, cells_grow b.plan f.published (f.published + 1) (omega arith))

pub fill_level-requires-clause-room : goal.fill_level-requires-clause-room
fill_level-requires-clause-room g c κs within =
    let b = c.args.board.now in let f = c.args.filler.now in
    let end : c.level_end-end.result ≡ cells_to b.plan (f.published + 1) = c.level_end-end.ensures ∙ ap₂ (λ p k. cells_to p (k + 1)) c.plan-2.ensures c.published.ensures in
    subst (λ k. cells_to b.plan k + length c.as_mut_slice.result.now ≡ cells_to b.plan (k + 1)) (sym c.published-2.ensures)
    (omega (arith, end, many b f _ c.requires.filler c.outcomes.ensures, cells_grow b.plan f.published (f.published + 1) (omega arith), c.as_mut_slice.ensures.len, c.in_ok-level.ensures.len))

pub returns : goal.returns
returns g c =
    let b = c.args.board.now in let f = c.args.filler.now in let v = c.in_ok-level.level in
    let items : length v.items ≡ v.len = omega (arith, v.ok.0) in
    let slice : length c.as_mut_slice.result.now ≡ length v.items = ap length c.as_mut_slice.ensures.value in
    let new : length c.fill_level.new.level ≡ v.len = omega (arith, c.fill_level.ensures.len, slice, items) in
    let end : c.level_end-end.result ≡ cells_to b.plan (f.published + 1) = c.level_end-end.ensures ∙ ap₂ (λ p k. cells_to p (k + 1)) c.plan-2.ensures c.published.ensures in
    whole v.len c.fill_level.new.level v.items new items
    ∙ is-level b.plan f.published c.fill_level.new.level c.requires.next
    (omega (arith, end, many b f _ c.requires.filler c.outcomes.ensures, cells_grow b.plan f.published (f.published + 1) (omega arith), c.fill_level.ensures.len, c.as_mut_slice.ensures.len, c.in_ok-level.ensures.len))
    (λ i d h. c.fill_level.ensures.outcomes i d (omega (arith, h, c.fill_level.ensures.len)) ∙ ap (λ k. outcome_at b.plan (cells_to b.plan k + i)) c.published-2.ensures)
