use Rattle.std.proofs.Common.{List, ◌≡◌, ℕ, ◌<◌, length, arith, refl, sym, ap, ◌∙◌, subst, add-one, true, slice_index}
use Rattle.cell_words.proofs.Names.{IsAtAct, Planning, dependents_at, cells, active, with_act, sign_one, act_of, view_in}
use Rattle.cell_words.proofs.StepLemmas.{signs_one, div_five}
use Rattle.cell_words.proofs.SeatLemmas.{here, act_after}
use Rattle.cell_words.proofs.PlanFacts.{dependent_low}
use Rattle.cell_words.proofs.countdown.Countdown.sign.Goals as goal

pub fetch_sub-requires : goal.fetch_sub-requires
fetch_sub-requires c =
    let b = c.args.self.now in let x = c.in-Some.place in let r : ℕ = c.args.rank in let k : ℕ = c.args.at in
    let a = act_of r 4 true k c.requires.act.0 in
    let h = here b c.args.seat.now a x c.in-Some.is c.requires.act.1 in
    let low : c.args.next < cells b.base.plan = subst (λ t. t < cells b.base.plan) (sym c.requires.next.1) (dependent_low b.base.plan r k c.requires.next.0) in (
      h.token.table,
      omega (arith, b.sized, low),
      signs_one _ x.id x.me r c.args.next a h.live h.now h.mine refl (subst (λ (p : Planning). k < length (dependents_at p r)) (sym h.token.plan) c.requires.next.0) (c.requires.next.1 ∙ ap (λ (p : Planning). slice_index (dependents_at p r) k) (sym h.token.plan)),
    )

pub returns : goal.returns
returns c =
    let b = c.args.self.now in let s = c.args.seat.now in let x = c.in-Some.place in let y = c.fetch_sub.new.seat in let e = c.fetch_sub.ensures in let t : ℕ = c.args.next in let n : ℕ = c.fetch_sub.result in
    let me : y.me ≡ (with_act (active x.me.0) (sign_one t n) x.me.0, x.me.1) = e.2.0 ∙ ap (λ k. (with_act (active x.me.0) (sign_one k n) x.me.0, x.me.1)) (div_five t) in
    let after = λ (freed : List ℕ) (h : IsAtAct b s (act_of c.args.rank 4 true c.args.at freed)). act_after b s (act_of c.args.rank 4 true c.args.at freed) x y (sign_one t n) x.me.0 c.in-Some.is h e.0 me refl refl refl refl in record {
      act = λ freed h. rw (add-one c.args.at) (after freed h).0;
      seen = ap (λ m. m.0.seen) e.2.0 ∙ ap (λ o. (view_in o).seen) (sym c.in-Some.is);
      others = (after c.requires.act.0 c.requires.act.1).1;
      kept = (refl, refl, refl);
    }
