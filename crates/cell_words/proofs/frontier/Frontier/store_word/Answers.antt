use Rattle.std.proofs.Common.{ℕ, suc, ◌*◌, ◌/◌, ◌<◌, arith, sym, ap, ◌∙◌, subst, add-one}
use Rattle.cell_words.proofs.Names.{none, Allows, step, Planning, IsSized, cells, outcome_at, value_word}
use Rattle.cell_words.specs.Levels.{settled, Keeps, Wrote}
use Rattle.cell_words.proofs.LevelSteps.{writes}
use Rattle.cell_words.proofs.frontier.Frontier.store_word.Goals as goal

pub overflow_add-at : goal.overflow_add-at
overflow_add-at c = let b = c.args.self.now in omega (arith, c.requires.next.1, b.few)

pub store-requires : goal.store-requires
store-requires c =
    let b = c.args.self.now in let me = c.args.seat.now.me in let i : ℕ = settled me.0 in let x : ℕ = c.args.word in
    let ok : Allows Keeps b.table.shared.table_id.slots c.args.seat.now.id me (suc i) (λ _. x) (λ _. Wrote (step b.table.shared.table_id.slots (suc i) x 0 none) me x) =
    writes _ c.args.seat.now.id me x c.requires.fills (subst (λ (p : Planning). i < 4 * cells p) (sym c.requires.seat.1) (subst (λ k. k < 4 * cells b.plan) c.requires.next.0 c.requires.next.1))
    (c.requires.word ∙ ap (λ (p : Planning). value_word p c.args.at) (sym c.requires.seat.1) ∙ ap (value_word me.0.plan) c.requires.next.0)
    (subst (λ (p : Planning). IsSized (outcome_at p (i / 4))) (sym c.requires.seat.1) (c.requires.sized (i / 4) (omega (arith, c.requires.next.0)) (omega (arith, c.requires.next.0)))) in
    (c.requires.seat.0, omega (arith, b.sized, c.requires.next.1), rw (c.requires.next.0, add-one i) ok)
