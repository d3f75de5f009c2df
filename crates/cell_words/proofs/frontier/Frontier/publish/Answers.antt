use Rattle.std.proofs.Common.{◌≡◌, ℕ, ◌+◌, ◌++◌, take, length, arith, refl, sym, ap, ◌∙◌, get_or}
use Rattle.cell_words.proofs.Names.{all_outcomes, outcome_at, cells_to}
use Rattle.cell_words.specs.Levels.{level_after}
use Rattle.cell_words.proofs.LevelLemmas.{level-inside}
use Rattle.cell_words.proofs.FillerLemmas.{published-count, refilled, level-length, level-outcome, level-behind}
use Rattle.cell_words.proofs.frontier.Frontier.publish.Goals as goal

pub loop-outcome-init : goal.loop-outcome-init
loop-outcome-init c =
    let b = c.args.self.now in let f = c.args.filler.now in
    let count = published-count b f (omega (arith, c.requires.next)) c.requires.filler in
    (refilled b (cells_to b.plan f.published) f.outcomes.len f (sym count) c.requires.filler, omega (arith, count), refl)

pub store-requires-clause-next : goal.store-requires-clause-next
store-requires-clause-next c =
    let b = c.args.self.now in let f = c.args.filler.now in
    let long : length c.args.level.now ≡ length (level_after b.plan f.published) = ap length c.requires.level in
    omega (arith, c.loop-outcome.invariant.1, c.loop-outcome-test.true, long, level-length b.plan f.published (omega (arith, c.requires.next)), level-inside b.plan (f.published + 1) (omega (arith, c.requires.next)))

pub store-requires-clause-outcome : goal.store-requires-clause-outcome
store-requires-clause-outcome c =
    let b = c.args.self.now in let f = c.args.filler.now in let i : ℕ = c.loop-outcome.outcome-index in
    let long : length c.args.level.now ≡ length (level_after b.plan f.published) = ap length c.requires.level in
    c.outcome-item.is ∙ ap (λ l. get_or l i c.outcome-item.result) c.requires.level ∙ level-outcome b.plan f.published i c.outcome-item.result (omega (arith, c.requires.next)) (omega (arith, c.loop-outcome-test.true, long, level-length b.plan f.published (omega (arith, c.requires.next)))) ∙ ap (outcome_at b.plan) (sym c.loop-outcome.invariant.1)

pub raise_level-requires-clause-filler : goal.raise_level-requires-clause-filler
raise_level-requires-clause-filler c =
    let b = c.args.self.now in let f = c.args.filler.now in let i = c.loop-outcome.invariant in
    let long : length c.args.level.now ≡ length (level_after b.plan f.published) = ap length c.requires.level in
    refilled b _ _ c.loop-outcome.filler (i.1 ∙ (let e : cells_to b.plan f.published + c.loop-outcome.outcome-index ≡ cells_to b.plan (f.published + 1) = omega (arith, c.loop-outcome-test.false, long, level-length b.plan f.published (omega (arith, c.requires.next)), c.loop-outcome.auto.outcome-index-end) in e) ∙ ap (λ k. cells_to b.plan (k + 1)) (sym i.2)) i.0

pub returns-clause-outcomes : goal.returns-clause-outcomes
returns-clause-outcomes c =
    let b = c.args.self.now in let f = c.args.filler.now in
    c.raise_level.ensures.filler.outcomes ∙ ap (λ k. take (cells_to b.plan k) (all_outcomes b.plan)) (c.raise_level.ensures.published ∙ ap (λ k. k + 1) c.loop-outcome.invariant.2) ∙ level-behind b.plan f.published
    ∙ ap (λ l. l ++ level_after b.plan f.published) (sym c.requires.filler.outcomes) ∙ ap (λ l. f.outcomes.items ++ l) (sym c.requires.level)
