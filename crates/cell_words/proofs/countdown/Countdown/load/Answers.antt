use Rattle.std.proofs.Common.{◌<◌, arith, sym, subst}
use Rattle.cell_words.proofs.Names.{Planning, cells}
use Rattle.cell_words.proofs.StepLemmas.{looks}
use Rattle.cell_words.proofs.SeatLemmas.{token_in, live}
use Rattle.cell_words.proofs.countdown.Countdown.load.Goals as goal

pub load-requires : goal.load-requires
load-requires c =
    let b = c.args.self.now in let x = c.in-Some.place in let q = token_in b c.args.seat.now x c.in-Some.is c.requires.token in
    (q.table, omega (arith, b.sized, c.requires.rank), looks _ x.id x.me c.args.rank (live b x q) (subst (λ (p : Planning). c.args.rank < cells p) (sym q.plan) c.requires.rank))
