use Rattle.std.proofs.Common.{◌≡◌, suc, ◌*◌, ◌≤◌, arith, sym, ap, ◌∙◌, subst}
use Rattle.cell_words.proofs.Names.{Planning, cells_to}
use Rattle.cell_words.proofs.LevelSteps.{raises}
use Rattle.cell_words.proofs.frontier.Frontier.raise.Goals as goal

pub store-requires : goal.store-requires
store-requires c =
    let me = c.args.seat.now.me in let n : suc me.0.count ≡ c.args.level = omega (arith, c.requires.next.0) in (
      c.requires.seat.0,
      omega (arith, c.args.self.now.sized),
      raises _ c.args.seat.now.id me c.args.level c.requires.fills (c.requires.whole ∙ ap (λ (p : Planning). 4 * cells_to p c.args.level) (sym c.requires.seat.1) ∙ ap (λ k. 4 * cells_to me.0.plan k) (sym n)) (sym n)
          (subst (λ k. k ≤ me.0.plan.bound) (sym n) (subst (λ (p : Planning). c.args.level ≤ p.bound) (sym c.requires.seat.1) c.requires.next.1)),
    )
