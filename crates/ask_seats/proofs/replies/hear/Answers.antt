use Rattle.ask_seats.proofs.Names.{◌≡◌, ℕ, Bool, true, false, Option, refl, sym, ap, ◌∙◌, subst, rules, IsTrue, ◌<◌, Planning, tensors_of, place_in, Place, Key, cells, outcome_at, Reaches, Outcome, Reply, reply_of, told, told_at, outcome_reply, place_at, euler_of, Hears, told_of, holds_back}
use Rattle.ask_seats.specs.Replies.{NotYet}
use Rattle.ask_seats.specs.Asks.{AnswersAt, Looks}
use Rattle.ask_seats.specs.Talks.{tells, misses, waits}
use Rattle.ask_seats.specs.declared.answer.Answer.{Answer}
use Rattle.ask_seats.proofs.PlaceLemmas.{same_place, one_rank}
use Rattle.ask_seats.proofs.replies.hear.Goals.{then-holds_back+in_default, else-holds_back}
use Rattle.amp_plan.specs.declared.place.Place.TheVariants as place
use Rattle.ask_seats.specs.Asks as asks
use Rattle.ask_seats.specs.declared.answer.Answer.TheVariants as answer
use Rattle.ask_seats.proofs.replies.hear.Goals as goal

at_place : (p : Planning) (key : Key) (x : Place) → place_in p key ≡ x → told_of p key ≡ told_at (tensors_of p) p.tensors.letter p.bound key x
unfolding told
at_place p key x e = ap (told_at (tensors_of p) p.tensors.letter p.bound key) (sym (same_place p key) ∙ e)

no_rank : (p : Planning) (key : Key) (x : Place) (r : ℕ) → place_in p key ≡ x → (place.At r ≡ x → ⊥) → place_in p key ≡ place.At r → ⊥
no_rank p key x r e apart at = apart (sym at ∙ e)

-- what an ask answers is what a session hears
heard : (p : Planning) (crew : ℕ) (finished : Option ℕ) (key : Key) (Knew Knows Unfilled : ℕ → Type 0) (latest : Option ℕ) (result : Answer) (x : Place) → place_in p key ≡ x
    → (holds_back crew finished (euler_of key) ≡ true → (r : ℕ) → place_in p key ≡ place.At r → ⊥)
    → AnswersAt p key Knew Knows Unfilled latest result x → Hears p crew finished key Knew Knows (reply_of result)
unfolding reply_of told_at outcome_at
heard p crew finished key Knew Knows Unfilled latest result (place.At r) e lone (asks.finds o found f) =
    tells (f ∙ ap (outcome_reply (tensors_of p) p.tensors.letter p.bound key) found.outcome ∙ sym (at_place p key (place.At r) e))
    (λ s q at low reach. found.known q low (subst (λ t. Reaches p t q) (one_rank s r (sym at ∙ e)) reach)) lone
heard p crew finished key Knew Knows Unfilled latest result (place.At r) e lone (asks.misses w missed f) = misses (ap reply_of f) r e missed.unknown
heard p crew finished key Knew Knows Unfilled latest result place.Zero e lone a = tells (ap reply_of a ∙ sym (at_place p key place.Zero e)) (λ r q at low reach. absurd (no_rank p key place.Zero r e (λ f. cc) at)) lone
heard p crew finished key Knew Knows Unfilled latest result place.Beyond e lone a = tells (ap reply_of a ∙ sym (at_place p key place.Beyond e)) (λ r q at low reach. absurd (no_rank p key place.Beyond r e (λ f. cc) at)) lone
heard p crew finished key Knew Knows Unfilled latest result place.BadIndex e lone a = tells (ap reply_of a ∙ sym (at_place p key place.BadIndex e)) (λ r q at low reach. absurd (no_rank p key place.BadIndex r e (λ f. cc) at)) lone

pub returns-in-At-clause-hears : goal.returns-in-At-clause-hears
unfolding reply_of euler_of
returns-in-At-clause-hears g c =
    let w : ℕ = c.args.pace.workers in
    waits refl c.in-At.field-0 (ap (λ s. place_in s c.args.key.now) (sym c.plan.ensures) ∙ sym c.rank_of.ensures ∙ c.in-At.is)
    (ap (λ e. holds_back w c.args.pace.finished e) (sym c.euler.ensures) ∙ sym c.holds_back.ensures ∙ c.if-holds_back.true)

pub returns-clause-hears : goal.returns-clause-hears
unfolding euler_of
returns-clause-hears g c = heard _ c.args.pace.workers c.args.pace.finished c.args.key.now _ _ _ _ c.ask.result (place_in (g.B.Cells.plan_of c.args.asker.now.board.now) c.args.key.now) refl lone c.ask.ensures.answer
  where
    lone : holds_back c.args.pace.workers c.args.pace.finished (euler_of c.args.key.now) ≡ true → (r : ℕ) → place_in (g.B.Cells.plan_of c.args.asker.now.board.now) c.args.key.now ≡ place.At r → ⊥
    lone held r at = elim c.if-holds_back.branch [
      | then-holds_back+in_default w ↦ w.in_default.not-At r (w.rank_of.ensures ∙ ap (λ s. place_in s c.args.key.now) w.plan.ensures ∙ at)
      | else-holds_back w ↦ (let clash : true ≡ false = sym held ∙ ap (λ e. holds_back c.args.pace.workers c.args.pace.finished e) (sym c.euler.ensures) ∙ sym c.holds_back.ensures ∙ w.if-holds_back.false in absurd cc)
    ]
