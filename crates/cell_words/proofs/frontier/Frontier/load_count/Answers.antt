use Rattle.std.proofs.Common.{arith}
use Rattle.cell_words.proofs.LevelSteps.{looks}
use Rattle.cell_words.proofs.frontier.Frontier.load_count.Goals as goal

pub load-requires : goal.load-requires
load-requires c = (c.requires.seat.0, omega (arith, c.args.self.now.sized), looks _ c.args.seat.now.id c.args.seat.now.me c.requires.asks)
