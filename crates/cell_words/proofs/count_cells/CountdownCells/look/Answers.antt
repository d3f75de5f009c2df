use Rattle.std.proofs.Common.{◌≡◌, refl, sym, ap, ◌∙◌, subst, true}
use Rattle.cell_words.proofs.Names.{Planning, has, needs_at, Known, by_need, view_of, View}
use Rattle.cell_words.specs.Countdown.{looked}
use Rattle.cell_words.specs.Seats.{IsLookAt, ShowsUnfilled}
use Rattle.cell_words.proofs.StepLemmas.{known_looked, known_now}
use Rattle.cell_words.proofs.PlanFacts.{reaches}
use Rattle.cell_words.proofs.SeatLemmas.{plan_of, has_token}
use Rattle.cell_words.proofs.count_cells.CountdownCells.look.Goals as goal

pub load-word-requires-clause-token : goal.load-word-requires-clause-token
load-word-requires-clause-token c = has_token c.args.self.now c.args.seat.now c.args.seat.now.held c.requires.seat.0

pub outcome-requires-clause-known : goal.outcome-requires-clause-known
outcome-requires-clause-known c = subst (λ (v : View). Known v c.args.rank) (sym c.load-word.ensures.view) (known_now (view_of c.args.seat.now) c.args.rank c.load-word.result c.if-word.true)

pub returns-then-word-clause-keeps : goal.returns-then-word-clause-keeps
returns-then-word-clause-keeps c = λ r k. subst (λ (v : View). Known v r) (sym c.load-word.ensures.view ∙ ap view_of (sym c.outcome.ensures.seat)) (known_looked (view_of c.args.seat.now) c.args.rank c.load-word.result r k)

pub returns-then-word-clause-looked : goal.returns-then-word-clause-looked
returns-then-word-clause-looked c = subst (λ (v : View). IsLookAt v.latest c.args.rank) (sym c.load-word.ensures.view ∙ ap view_of (sym c.outcome.ensures.seat)) refl

pub returns-else-word-clause-looked : goal.returns-else-word-clause-looked
returns-else-word-clause-looked c = subst (λ (v : View). IsLookAt v.latest c.args.rank) (sym c.load-word.ensures.view) refl

pub returns-then-word-clause-answer : goal.returns-then-word-clause-answer
returns-then-word-clause-answer c =
    let b = c.args.self.now in let p = b.base.plan in let v = view_of c.outcome.new.seat in
    let same : looked c.args.rank c.load-word.result (view_of c.args.seat.now) ≡ v = sym c.load-word.ensures.view ∙ ap view_of (sym c.outcome.ensures.seat) in
    let plan : v.plan ≡ p = ap (λ (w : View). w.plan) (sym same) ∙ plan_of b c.args.seat.now.place (has_token b c.args.seat.now c.args.seat.now.held c.requires.seat.0) in record {
      outcome = c.outcome.ensures.outcome;
      known = λ q low reach.
          reaches (Known v) p c.needs_first.ensures c.needs_fact.ensures c.planned_fact.ensures (λ r k knows e. by_need r k knows (subst (λ (o : Planning). has k (needs_at o r) ≡ true) (sym plan) e)) c.args.rank q c.requires.rank low reach
          (subst (λ (w : View). Known w c.args.rank) same (known_now (view_of c.args.seat.now) c.args.rank c.load-word.result c.if-word.true));
      filled = λ u. (subst (λ (w : View). ShowsUnfilled w.latest c.args.rank) (sym same) u).1 c.if-word.true;
    }

pub returns-else-word-clause-keeps : goal.returns-else-word-clause-keeps
returns-else-word-clause-keeps c = λ r k. subst (λ (v : View). Known v r) (sym c.load-word.ensures.view) (known_looked (view_of c.args.seat.now) c.args.rank c.load-word.result r k)
