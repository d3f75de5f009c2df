use Rattle.std.proofs.Common.{rules, ◌≡◌, ℕ, ◌+◌, List, [], ◌∷◌, ◌++◌, refl, sym, ap, ◌∙◌, subst, get_or, All, eq-eqb, ne_eqb, eqb, true}
use Rattle.std.proofs.lemmas.Fn.{FoldsTo-push}
use Rattle.std.proofs.lemmas.List.Elements.{All-nil, All-push}
use Rattle.cell_words.proofs.Names.{has, dependents_at, act_of, freed_by, IsAtAct, view_of, CountSeat, when, unless}
use Rattle.cell_words.specs.Seats.{plan_of}
use Rattle.cell_words.proofs.SeatLemmas.{freed_is}
use Rattle.cell_words.proofs.countdown.Countdown.fill_at.Goals.{then-sign-eq1, else-sign-eq1}
use Rattle.cell_words.proofs.countdown.Countdown.fill_at.Goals as goal
use Rattle.amp_plan.proofs.RowLemmas.{has-at}

pub loop-i-init : goal.loop-i-init
loop-i-init g c =
    let b = c.args.self.now in let s = c.mark.new.seat in let r : ℕ = c.args.rank in
    let freed : freed_by (view_of s) r ≡ [] = freed_is b s (act_of r 4 true 0 []) c.mark.ensures.act in
    let same = ap (λ (t : CountSeat). (view_of t).seen) c.computed-outcome.ensures.seat in record {
      act = subst (λ l. IsAtAct b s (act_of r 4 true 0 l)) (sym freed) c.mark.ensures.act;
      seen = c.mark.ensures.seen ∙ ap (λ l. l ++ r ∷ []) (c.write-4.ensures.seen ∙ c.write-3.ensures.seen ∙ c.write-2.ensures.seen ∙ c.write.ensures.seen ∙ same);
      others = search rules;
      kept = search rules;
      freed = subst (All (λ t. has t (dependents_at (plan_of b) r) ≡ true)) (sym freed) (All-nil (λ t. has t (dependents_at (plan_of b) r) ≡ true));
      told = rw freed refl;
    }

pub loop-i-preserved : goal.loop-i-preserved
loop-i-preserved g c =
    let i = c.loop-i.invariant in let r : ℕ = c.args.rank in
    let was : List ℕ = freed_by (view_of c.loop-i.seat) r in
    let act = c.sign.ensures.act was i.act in
    let freed = freed_is c.args.self.now c.sign.new.seat _ act in
    let now = subst (λ l. IsAtAct c.args.self.now c.sign.new.seat (act_of r 4 true (c.loop-i.i + 1) l)) (sym freed) act in
    let kept = c.sign.ensures.kept in
    let next = c.dependents-next.result.now in
    let all = dependents_at (plan_of c.args.self.now) r in
    let one : has (get_or next c.loop-i.i 0) all ≡ true = subst (λ l. has (get_or next c.loop-i.i 0) l ≡ true) c.dependents-next.ensures (has-at next c.loop-i.i c.loop-i-test.true) in
    elim c.if-sign-eq1.branch [
      | then-sign-eq1 w ↦ record {
        act = now;
        seen = c.sign.ensures.seen ∙ i.seen;
        others = c.sign.ensures.others ∙ i.others;
        kept = (kept.0 ∙ i.kept.0, kept.1 ∙ i.kept.1, kept.2 ∙ i.kept.2);
        freed = subst (All (λ t. has t all ≡ true)) (sym (freed ∙ when (eqb c.sign.result 1) (was ++ _ ∷ []) was (eq-eqb c.sign.result 1 w.if-sign-eq1.true))) (All-push (λ t. has t all ≡ true) was _ i.freed one);
        told = rw (freed ∙ when (eqb c.sign.result 1) (was ++ _ ∷ []) was (eq-eqb c.sign.result 1 w.if-sign-eq1.true), w.ready-is) (FoldsTo-push _ c.args.ready was c.loop-i.ready _ w.ready.new.self i.told w.ready.ensures);
      }
      | else-sign-eq1 w ↦ record {
        act = now;
        seen = c.sign.ensures.seen ∙ i.seen;
        others = c.sign.ensures.others ∙ i.others;
        kept = (kept.0 ∙ i.kept.0, kept.1 ∙ i.kept.1, kept.2 ∙ i.kept.2);
        freed = subst (All (λ t. has t all ≡ true)) (sym (freed ∙ unless (eqb c.sign.result 1) (was ++ _ ∷ []) was (ne_eqb c.sign.result 1 w.if-sign-eq1.false))) i.freed;
        told = rw (freed ∙ unless (eqb c.sign.result 1) (was ++ _ ∷ []) was (ne_eqb c.sign.result 1 w.if-sign-eq1.false), w.ready-is) i.told;
      }
    ]
