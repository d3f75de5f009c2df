use Rattle.std.proofs.Common.{◌≡◌, ℕ, suc, ◌+◌, ◌*◌, [], arith, refl, sym, ap, ◌∙◌, subst, add-one, false}
use Rattle.cell_words.proofs.Names.{none, Allows, step, Planning, code_of, outcome_at, IsSized, write_more, act_of, view_in}
use Rattle.cell_words.specs.Countdown.{Keeps, Wrote}
use Rattle.cell_words.proofs.StepLemmas.{writes}
use Rattle.cell_words.proofs.SeatLemmas.{here, act_after}
use Rattle.cell_words.proofs.countdown.Countdown.write.Goals as goal

pub store-requires : goal.store-requires
store-requires c =
    let b = c.args.self.now in let x = c.in-Some.place in let r : ℕ = c.args.rank in let k : ℕ = c.args.at in let word : ℕ = c.args.word in
    let h = here b c.args.seat.now (act_of r k false 0 []) x c.in-Some.is c.requires.act in
    let slots = b.table.shared.table_id.slots in
    let ok : Allows Keeps slots x.id x.me (5 * r + suc k) (λ _. word) (λ _. Wrote (step slots (5 * r + suc k) word 0 none) x.me word)
    = writes _ x.id x.me r word (act_of r k false 0 []) h.live h.now h.mine refl c.requires.more (subst (λ (p : Planning). IsSized (outcome_at p r)) (sym h.token.plan) c.requires.sized) (c.requires.word ∙ ap (λ (p : Planning). code_of p r k) (sym h.token.plan)) in
    let at : 5 * r + k + 1 ≡ 5 * r + suc k = omega arith in
    (h.token.table, omega (arith, b.sized, c.requires.act.low, c.requires.more), rw at ok)

pub returns : goal.returns
returns c =
    let x = c.in-Some.place in
    let after = act_after c.args.self.now c.args.seat.now (act_of c.args.rank c.args.at false 0 []) x c.store.new.seat write_more x.me.0 c.in-Some.is c.requires.act c.store.ensures.0 c.store.ensures.2 refl refl refl refl in record {
      act = rw (add-one c.args.at) after.0;
      seen = ap (λ m. m.0.seen) c.store.ensures.2 ∙ ap (λ o. (view_in o).seen) (sym c.in-Some.is);
      others = after.1;
      kept = (refl, refl, refl);
    }
