use Rattle.std.proofs.Common.{◌≡◌, ℕ, suc, ◌<◌, ◌+◌, ◌-◌, ◌++◌, [], ◌∷◌, take, length, set, replicate, Some, None, arith, sym, ap, ap₂, ◌∙◌, take_all, length-take-le}
use Rattle.amp_terms.proofs.FillingLemmas.{filled, filled-set, length-filled}
use Rattle.cell_words.proofs.Names.{take_more, cells, cells_to}
use Rattle.cell_words.specs.Levels.{table_to}
use Rattle.cell_words.proofs.LevelLemmas.{level-inside}
use Rattle.cell_words.proofs.FillerLemmas.{many}
use Rattle.cell_words.proofs.frontier.Frontier.close.Goals as goal

pub loop-rank-init : goal.loop-rank-init
unfolding filled
loop-rank-init c = (c.args.self.blank ∙ ap (λ n. replicate n None) (let e : cells c.args.self.plan ≡ cells c.args.self.plan - 0 = omega arith in e), omega arith)

pub overflow_cast-rank : goal.overflow_cast-rank
overflow_cast-rank c =
    let b = c.args.self in
    omega (arith, c.loop-rank-test.true, many b c.args.filler _ c.requires c.deref-outcome-items.ensures.value, level-inside b.plan c.args.filler.published (let e = c.requires.of.3 in omega (arith, c.requires.published, e)), b.few)

pub set-requires : goal.set-requires
set-requires c =
    let b = c.args.self in let items = c.deref-outcome-items.result.now in let r : ℕ = c.loop-rank.rank in
    let long = ap length c.loop-rank.invariant.0 ∙ length-filled (take r items) (cells b.plan - r) in
    let here = length-take-le r items (omega (arith, c.loop-rank-test.true)) in
    omega (arith, long, here, c.loop-rank-test.true, many b c.args.filler _ c.requires c.deref-outcome-items.ensures.value, level-inside b.plan c.args.filler.published (let e = c.requires.of.3 in omega (arith, c.requires.published, e)))

pub loop-rank-preserved : goal.loop-rank-preserved
loop-rank-preserved c =
    let b = c.args.self in let items = c.deref-outcome-items.result.now in let r : ℕ = c.loop-rank.rank in let o = c.outcome-item.result in let n : ℕ = cells b.plan - (r + 1) in
    let low : r < cells b.plan = omega (arith, c.loop-rank-test.true, many b c.args.filler _ c.requires c.deref-outcome-items.ensures.value, level-inside b.plan c.args.filler.published (let e = c.requires.of.3 in omega (arith, c.requires.published, e))) in
    let more : cells b.plan - r ≡ suc n = omega arith in
    let here = length-take-le r items (omega (arith, c.loop-rank-test.true)) in (
      c.set.ensures ∙ ap₂ (λ t k. set t k (Some o)) (c.loop-rank.invariant.0 ∙ ap (filled (take r items)) more) (sym here) ∙ filled-set (take r items) n o
          ∙ ap (λ l. filled l n) (ap (λ x. take r items ++ x ∷ []) c.outcome-item.is ∙ sym (take_more items r o (omega (arith, c.loop-rank-test.true)))),
      omega (arith, c.loop-rank-test.true),
    )

pub returns-clause-table : goal.returns-clause-table
unfolding table_to filled
returns-clause-table c =
    let b = c.args.self in let items = c.deref-outcome-items.result.now in let r : ℕ = c.loop-rank.rank in
    let all = many b c.args.filler items c.requires c.deref-outcome-items.ensures.value in
    let end : r ≡ cells_to b.plan c.args.filler.published = omega (arith, all, c.loop-rank-test.false, c.loop-rank.invariant.1) in
    c.loop-rank.invariant.0 ∙ ap₂ filled (take_all r items (omega (arith, c.loop-rank-test.false)) ∙ c.deref-outcome-items.ensures.value ∙ c.requires.outcomes) (ap (λ k. cells b.plan - k) end)
