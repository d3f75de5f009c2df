use Rattle.std.proofs.Common.{◌<◌, arith, sym, subst}
use Rattle.cell_words.proofs.Names.{Planning, cells, IsDone, view_in}
use Rattle.cell_words.proofs.StepLemmas.{claims}
use Rattle.cell_words.proofs.ActLemmas.{done_holds, done_some}
use Rattle.cell_words.proofs.SeatLemmas.{token_in, live}
use Rattle.cell_words.proofs.countdown.Countdown.exchange.Goals as goal

pub compare_exchange-requires : goal.compare_exchange-requires
compare_exchange-requires c =
    let b = c.args.self.now in let s = c.args.seat.now in let x = c.in-Some.place in let q = token_in b s x c.in-Some.is c.requires.seat.token in
    let done = subst (λ o. IsDone b.base.plan s.number s.done.items (view_in o).portions) c.in-Some.is c.requires.seat.done in (
      q.table,
      omega (arith, b.sized, c.requires.rank),
      claims _ x.id x.me c.args.rank (live b x q) (done_some b.base.plan s.number s.done.items x.me.0.portions done) (subst (λ (p : Planning). c.args.rank < cells p) (sym q.plan) c.requires.rank) (done_holds b.base.plan s.number s.done.items x.me.0 done),
    )
