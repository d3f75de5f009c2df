use Rattle.std.proofs.Common.{ℕ, [], ◌∷◌, ◌++◌, arith, refl, sym, ap, ◌∙◌, false}
use Rattle.cell_words.proofs.Names.{active, fill_up, act_of, view_in}
use Rattle.cell_words.specs.Countdown.{sees}
use Rattle.cell_words.proofs.StepLemmas.{fills}
use Rattle.cell_words.proofs.SeatLemmas.{here, act_after}
use Rattle.cell_words.proofs.countdown.Countdown.mark.Goals as goal

pub store-requires : goal.store-requires
store-requires c =
    let b = c.args.self.now in let x = c.in-Some.place in let r : ℕ = c.args.rank in
    let h = here b c.args.seat.now (act_of r 4 false 0 []) x c.in-Some.is c.requires.act in
    (h.token.table, omega (arith, b.sized, c.requires.act.low), fills _ x.id x.me r (act_of r 4 false 0 []) h.live h.now h.mine refl refl)

pub returns : goal.returns
returns c =
    let b = c.args.self.now in let s = c.args.seat.now in let x = c.in-Some.place in let a = act_of c.args.rank 4 false 0 [] in
    let after = act_after b s a x c.store.new.seat fill_up (sees (active x.me.0) x.me.0) c.in-Some.is c.requires.act c.store.ensures.0 c.store.ensures.2 refl refl refl refl in
    let h = here b s a x c.in-Some.is c.requires.act in record {
      act = after.0;
      seen = ap (λ m. m.0.seen) c.store.ensures.2 ∙ ap (λ r. x.me.0.seen ++ r ∷ []) h.now ∙ ap (λ o. (view_in o).seen ++ c.args.rank ∷ []) (sym c.in-Some.is);
      others = after.1;
      kept = (refl, refl, refl);
    }
