use Rattle.std.proofs.Common.{◌≡◌, ℕ, ◌<◌, ◌≤◌, max, arith, sym, ap, ◌∙◌, subst}
use Rattle.cell_words.proofs.Names.{Planning, cells_to}
use Rattle.cell_words.specs.Levels.{joined_as}
use Rattle.cell_words.specs.declared.level_view.View.{View}
use Rattle.cell_words.specs.declared.level_view.Role.TheVariants.{Asker}
use Rattle.cell_words.proofs.LevelSteps.{cells_grow}
use Rattle.cell_words.proofs.frontier.Frontier.meet.Goals as goal

-- what is known at a count is known behind a join to a greater one
knows : (p : Planning) (v u w : View) (a r : ℕ) → w ≡ joined_as v.role v u → v.role ≡ Asker → w.plan ≡ p → a ≤ max v.count u.count → r < cells_to p a → r < cells_to w.plan w.count
knows p v u w a r e role plan more known =
    let count : w.count ≡ max v.count u.count = ap (λ (x : View). x.count) (e ∙ ap (λ k. joined_as k v u) role) in
    subst (λ q. r < cells_to q w.count) (sym plan) (let grow = cells_grow p a w.count (omega (arith, count, more)) in omega (arith, known, grow))

pub returns-clause-knows : goal.returns-clause-knows
returns-clause-knows c = λ r known.
    let count : c.asker-told.result.place.me.0.count ≡ c.args.filler.now.published = ap (λ (x : View). x.count) c.asker-told.ensures.view ∙ sym c.requires.filler.published in
    knows c.args.self.now.plan c.args.seat.now.place.me.0 c.asker-told.result.place.me.0 c.join.new.seat.me.0 c.args.filler.now.published r c.join.ensures.view c.requires.seat.1 c.join.ensures.seat.1 (omega (arith, count)) known

pub returns-clause-keeps : goal.returns-clause-keeps
returns-clause-keeps c = λ r known.
    let v = c.args.seat.now.place.me.0 in
    knows c.args.self.now.plan v c.asker-told.result.place.me.0 c.join.new.seat.me.0 v.count r c.join.ensures.view c.requires.seat.1 c.join.ensures.seat.1 (omega arith) (subst (λ p. r < cells_to p v.count) c.requires.seat.0.1 known)
