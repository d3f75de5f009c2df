use Rattle.std.proofs.Common.{◌≡◌, arith, sym, ◌∙◌}
use Rattle.cell_words.specs.declared.level_view.Role.TheVariants.{Filler, Spent}
use Rattle.cell_words.proofs.LevelSteps.{splits}
use Rattle.cell_words.proofs.frontier.Frontier.asker.Goals as goal

pub split_seat-requires : goal.split_seat-requires
split_seat-requires c = (c.requires.seat.0, omega (arith, c.args.self.now.sized), splits c.args.filler.now.id c.args.filler.now.me.0 (λ e. filler_spent (sym c.requires.fills ∙ e)))
  where
    filler_spent : Filler ≡ Spent → ⊥
    filler_spent e = cc
