use Rattle.std.proofs.Common.{ℕ, refl, sym, ap, ◌∙◌, subst, eq-eqb, ne_eqb, false, [], nat_eq, ◌≡◌, ◌≢◌, cond}
use Rattle.cell_words.proofs.Names.{Known, claimed, act_of, IsResting, IsHolding, view_of, View, when, unless, CountSeat}
use Rattle.cell_words.specs.Countdown.{looked}
use Rattle.cell_words.proofs.StepLemmas.{known_looked, known_now}
use Rattle.cell_words.proofs.SeatLemmas.{known_claimed, claimed_seat, needs_known}
use Rattle.cell_words.proofs.countdown.Countdown.claim.Goals as goal

-- what is seen where the word isn't 0, and that nothing known is lost
looks_on : (s t : CountSeat) (r n : ℕ) → view_of t ≡ cond (nat_eq n 0) (claimed r (view_of s)) (looked r n (view_of s)) → n ≢ 0 → (view_of t ≡ looked r n (view_of s)) × ((k : ℕ) → Known (view_of s) k → Known (view_of t) k)
looks_on s t r n view none =
    let e = view ∙ unless (nat_eq n 0) (claimed r (view_of s)) (looked r n (view_of s)) (ne_eqb n 0 none) in
    (e, λ k h. subst (λ (v : View). Known v k) (sym e) (known_looked (view_of s) r n k h))

pub returns-then-word-eq0-clause-answer : goal.returns-then-word-eq0-clause-answer
returns-then-word-eq0-clause-answer c =
    let b = c.args.self.now in let s = c.args.seat.now in let r : ℕ = c.args.rank in let n : ℕ = c.exchange-word.result in
    let rest : IsResting b s = subst (IsHolding b s) c.requires.free c.requires.seat.0 in
    let view = c.exchange-word.ensures.view ∙ when (nat_eq n 0) (claimed r (view_of s)) (looked r n (view_of s)) (eq-eqb n 0 c.if-word-eq0.true) in
    let kept = c.exchange-word.ensures.kept in
    let at = claimed_seat b s c.exchange-word.new.seat r c.requires.rank rest c.exchange-word.ensures.token view (c.exchange-word.ensures.free c.if-word-eq0.true) (c.exchange-word.ensures.few c.if-word-eq0.true) kept.0 kept.2 in
    (refl, view, needs_known b c.exchange-word.new.seat (act_of r 0 false 0 []) at.0 refl)

pub returns-then-word-eq0-clause-keeps : goal.returns-then-word-eq0-clause-keeps
returns-then-word-eq0-clause-keeps c = λ k h.
    let b = c.args.self.now in let s = c.args.seat.now in let r : ℕ = c.args.rank in let n : ℕ = c.exchange-word.result in
    let rest : IsResting b s = subst (IsHolding b s) c.requires.free c.requires.seat.0 in
    let view = c.exchange-word.ensures.view ∙ when (nat_eq n 0) (claimed r (view_of s)) (looked r n (view_of s)) (eq-eqb n 0 c.if-word-eq0.true) in
    subst (λ (v : View). Known v k) (sym view) (known_claimed b.base.plan s.number s.done.items (view_of s) r k rest.done h)

pub returns-then-word-clause-keeps : goal.returns-then-word-clause-keeps
returns-then-word-clause-keeps c = (looks_on c.args.seat.now c.exchange-word.new.seat c.args.rank _ c.exchange-word.ensures.view c.if-word-eq0.false).1

pub returns-then-word-2-clause-answer : goal.returns-then-word-2-clause-answer
returns-then-word-2-clause-answer c =
    let s = c.args.seat.now in let r : ℕ = c.args.rank in let n : ℕ = c.exchange-word.result in
    let view = (looks_on s c.exchange-word.new.seat r n c.exchange-word.ensures.view c.if-word-eq0.false).0 in
    (c.exchange-word.ensures.kept.1 ∙ c.requires.free, view ∙ ap (λ k. looked r k (view_of s)) c.if-word-2.true, subst (λ (v : View). Known v r) (sym view) (known_now (view_of s) r n c.if-word-2.true))

pub returns-then-word-2-clause-keeps : goal.returns-then-word-2-clause-keeps
returns-then-word-2-clause-keeps c = (looks_on c.args.seat.now c.exchange-word.new.seat c.args.rank _ c.exchange-word.ensures.view c.if-word-eq0.false).1

pub returns-clause-keeps : goal.returns-clause-keeps
returns-clause-keeps c = (looks_on c.args.seat.now c.exchange-word.new.seat c.args.rank _ c.exchange-word.ensures.view c.if-word-eq0.false).1
