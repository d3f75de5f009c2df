use Rattle.std.proofs.Common.{arith}
use Rattle.cell_words.proofs.LevelSteps.{joins}
use Rattle.cell_words.proofs.frontier.Frontier.join.Goals as goal

pub join_seat-requires : goal.join_seat-requires
join_seat-requires c = (c.requires.seat.0.0, c.requires.told.0.0, c.requires.told.0.2, omega (arith, c.args.self.now.sized), joins c.args.seat.now.id c.args.seat.now.me.0 c.args.told.place.id c.args.told.place.me.0 c.requires.told.1)
