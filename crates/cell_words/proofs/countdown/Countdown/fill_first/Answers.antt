use Rattle.std.proofs.Common.{◌≡◌, ℕ, ◌++◌, [], ◌∷◌, sym, ap, ◌∙◌, ⊎_elim, Some, None, eq-eqb, ne_eqb, nat_eq}
use Rattle.cell_words.proofs.Names.{FILLED, act_in, claimed, view_of, Act, View, when, unless}
use Rattle.cell_words.specs.Countdown.{looked}
use Rattle.cell_words.proofs.PlanFacts.{is_planned}
use Rattle.cell_words.proofs.WholeLemmas.{whole_word}
use Rattle.cell_words.proofs.countdown.Countdown.fill_first.Goals as goal

pub returns-then-word-ne0-clause-fills : goal.returns-then-word-ne0-clause-fills
returns-then-word-ne0-clause-fills c = λ free.
    let p = c.args.self.now.base.plan in let s = c.args.seat.now in let e = c.exchange-word.ensures in
    let word = whole_word p s.number s.done.items (view_of s) (is_planned p c.needs_fact.ensures c.limits_fact.ensures.few) c.requires.seat.done (e.filled c.requires.whole) c.args.rank c.exchange-word.result c.requires.rank c.requires.knows (e.whole c.requires.whole) in
    ⊎_elim
    (λ (x : (act_in (view_of s) c.args.rank ≡ None) × (c.exchange-word.result ≡ 0)). absurd (c.if-word-ne0.true x.1))
    (λ (x : (a : Act) × (act_in (view_of s) c.args.rank ≡ Some a) × (c.exchange-word.result ≡ FILLED)). absurd (none_some x.0 (sym free ∙ x.1)))
    word
  where
    none_some : (a : Act) → None ≡ Some a → ⊥
    none_some a e = cc

pub returns-then-word-ne0-clause-seen : goal.returns-then-word-ne0-clause-seen
returns-then-word-ne0-clause-seen c =
    let p = c.args.self.now.base.plan in let s = c.args.seat.now in let e = c.exchange-word.ensures in let n : ℕ = c.exchange-word.result in let r : ℕ = c.args.rank in
    let word = whole_word p s.number s.done.items (view_of s) (is_planned p c.needs_fact.ensures c.limits_fact.ensures.few) c.requires.seat.done (e.filled c.requires.whole) r n c.requires.rank c.requires.knows (e.whole c.requires.whole) in
    ⊎_elim
    (λ (x : (act_in (view_of s) r ≡ None) × (n ≡ 0)). absurd (c.if-word-ne0.true x.1))
    (λ (x : (a : Act) × (act_in (view_of s) r ≡ Some a) × (n ≡ FILLED)).
    ap (λ (v : View). v.seen) (e.view ∙ unless (nat_eq n 0) (claimed r (view_of s)) (looked r n (view_of s)) (ne_eqb n 0 c.if-word-ne0.true))
    ∙ when (nat_eq n FILLED) ((view_of s).seen ++ r ∷ []) (view_of s).seen (eq-eqb n FILLED x.2))
    word
