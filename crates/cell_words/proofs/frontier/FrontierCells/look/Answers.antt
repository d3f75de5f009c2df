use Rattle.std.proofs.Common.{◌≡◌, ℕ, ◌<◌, ◌≤◌, Some, arith, sym, ap, ◌∙◌, subst}
use Rattle.cell_words.proofs.Names.{euler_of, Planning, key_at, cells, cells_to}
use Rattle.cell_words.specs.Levels.{looked}
use Rattle.cell_words.specs.LevelSeats.{ShowsUnfilled}
use Rattle.cell_words.specs.declared.level_view.View.{View}
use Rattle.cell_words.proofs.LevelSteps.{cells_grow}
use Rattle.cell_words.proofs.LevelLemmas.{level-ranks, level-closed}
use Rattle.cell_words.proofs.frontier.FrontierCells.look.Goals as goal

-- what is known stays known
kept : (p : Planning) (v w : View) (n r : ℕ) → v.plan ≡ p → w ≡ looked v n → v.count ≤ n → r < cells_to v.plan v.count → r < cells_to w.plan w.count
kept p v w n r plan e rises known = subst (λ (u : View). r < cells_to u.plan u.count) (sym e) (let more = cells_grow v.plan v.count n rises in omega arith)

-- the count that was loaded is not below the Euler number of a published key
shown : (p : Planning) (v : View) (n r : ℕ) → v.plan ≡ p → v.latest ≡ Some n → euler_of (key_at p r) ≤ n → ShowsUnfilled v r → ⊥
shown p v n r plan latest low u =
    let number : n ≡ u.0 = by n u.0 (sym latest ∙ u.1) in
    let less : u.0 < euler_of (key_at p r) = subst (λ q. u.0 < euler_of (key_at q r)) plan u.2 in omega arith
  where
    by : (a b : ℕ) → Some a ≡ Some b → a ≡ b
    by a b e = cc

-- a rank whose key has an Euler number up to the loaded count is known
found : (p : Planning) (v : View) (n r : ℕ) → v.count ≡ n → v.count ≤ p.bound → r < cells p → euler_of (key_at p r) ≤ n → r < cells_to p v.count
found p v n r same within low h = (level-ranks p v.count r within low).1 (omega arith)

pub outcome-requires : goal.outcome-requires
unfolding euler_of
outcome-requires c =
    let p = c.args.self.now.plan in let r : ℕ = c.args.rank in let k = c.load_count-count.ensures in
    let e : c.euler.result ≡ euler_of (key_at p r) = c.euler.ensures ∙ ap euler_of c.key.ensures in
    let count = ap (λ (u : View). u.count) k.view in
    let known = found p c.load_count-count.new.seat.me.0 c.load_count-count.result r count k.seat.3 c.requires.rank (omega (arith, e, c.from.ensures, c.if-from-count.true)) in record {
      seat = k.seat;
      asks = ap (λ (u : View). u.role) k.view ∙ c.requires.seat.1;
      known = known;
      sized = k.sized r (subst (λ n. r < cells_to p n) count known);
    }

pub returns-then-from-count-clause-keeps : goal.returns-then-from-count-clause-keeps
returns-then-from-count-clause-keeps c = λ r known.
    subst (λ (u : View). r < cells_to u.plan u.count) (ap (λ s. s.me.0) (sym c.outcome.ensures.seat))
    (kept c.args.self.now.plan c.args.seat.now.place.me.0 c.load_count-count.new.seat.me.0 c.load_count-count.result r c.requires.seat.0.1 c.load_count-count.ensures.view c.load_count-count.ensures.rises known)

pub returns-then-from-count-clause-answer : goal.returns-then-from-count-clause-answer
unfolding euler_of
returns-then-from-count-clause-answer c =
    let p = c.args.self.now.plan in let v = c.load_count-count.new.seat.me.0 in let r : ℕ = c.args.rank in
    let same : v ≡ c.outcome.new.seat.me.0 = ap (λ s. s.me.0) (sym c.outcome.ensures.seat) in
    let plan : v.plan ≡ p = c.load_count-count.ensures.seat.1 in
    let e : c.euler.result ≡ euler_of (key_at p r) = c.euler.ensures ∙ ap euler_of c.key.ensures in record {
      outcome = c.outcome.ensures.value;
      known = λ q low reach. subst (λ (u : View). q < cells_to u.plan u.count) same
          (subst (λ s. q < cells_to s v.count) (sym plan) (level-closed c.needs_first.ensures c.planned_once.ensures p v.count r q c.load_count-count.ensures.seat.3 c.requires.rank low (found p v c.load_count-count.result r (ap (λ (u : View). u.count) c.load_count-count.ensures.view) c.load_count-count.ensures.seat.3 c.requires.rank (omega (arith, e, c.from.ensures, c.if-from-count.true))) reach));
      filled = λ u. shown p v c.load_count-count.result r plan (ap (λ (u : View). u.latest) c.load_count-count.ensures.view) (omega (arith, e, c.from.ensures, c.if-from-count.true)) (subst (λ (w : View). ShowsUnfilled w r) (sym same) u);
    }

pub returns-else-from-count-clause-keeps : goal.returns-else-from-count-clause-keeps
returns-else-from-count-clause-keeps c = λ r known. kept c.args.self.now.plan c.args.seat.now.place.me.0 c.load_count-count.new.seat.me.0 c.load_count-count.result r c.requires.seat.0.1 c.load_count-count.ensures.view c.load_count-count.ensures.rises known

pub returns-then-from-count-clause-looked : goal.returns-then-from-count-clause-looked
returns-then-from-count-clause-looked c = (
  c.load_count-count.result,
  ap (λ s. s.me.0.latest) c.outcome.ensures.seat ∙ ap (λ (u : View). u.latest) c.load_count-count.ensures.view,
)

pub returns-else-from-count-clause-looked : goal.returns-else-from-count-clause-looked
returns-else-from-count-clause-looked c = (c.load_count-count.result, ap (λ (u : View). u.latest) c.load_count-count.ensures.view)

pub returns-else-from-count-clause-answer : goal.returns-else-from-count-clause-answer
unfolding euler_of
returns-else-from-count-clause-answer c =
    let p = c.args.self.now.plan in let v = c.load_count-count.new.seat.me.0 in let r : ℕ = c.args.rank in let n : ℕ = c.load_count-count.result in let old = c.args.seat.now.place.me.0 in
    let e : c.euler.result ≡ euler_of (key_at p r) = c.euler.ensures ∙ ap euler_of c.key.ensures in
    let above : n < euler_of (key_at p r) = omega (arith, e, c.from.ensures, c.if-from-count.false) in
    let latest : v.latest ≡ Some n = ap (λ (u : View). u.latest) c.load_count-count.ensures.view in record {
      word = latest;
      unfilled = (n, latest, subst (λ q. n < euler_of (key_at q r)) (sym c.load_count-count.ensures.seat.1) above);
      unknown = λ known.
          let low = (level-ranks p old.count r c.requires.seat.0.3 c.requires.rank).0 (subst (λ q. r < cells_to q old.count) c.requires.seat.0.1 known) in omega (arith, low, above, c.load_count-count.ensures.rises);
    }
