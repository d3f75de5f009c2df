use Rattle.std.proofs.Common.{◌≡◌, ℕ, ◌<◌, ◌+◌, ◌*◌, ◌++◌, [], ◌∷◌, take, arith, sym, ap, ◌∙◌}
use Rattle.amp_terms.proofs.OutcomeLemmas.{length-all}
use Rattle.cell_words.proofs.Names.{take_more, Planning, Outcome, Over, word_of, cells, all_outcomes, outcome_at, value_word}
use Rattle.cell_words.specs.Levels.{wrote, settled}
use Rattle.cell_words.specs.declared.level_view.View.{View}
use Rattle.cell_words.proofs.LevelLemmas.{word-of-rank}
use Rattle.cell_words.proofs.frontier.Frontier.store.Goals as goal

-- the word k of the outcome
coded : (p : Planning) (o : Outcome) (n at k w : ℕ) → o ≡ outcome_at p n → at ≡ 4 * n + k → k < 4 → w ≡ word_of o k → w ≡ value_word p at
coded p o n at k w is here low e = e ∙ ap (λ x. word_of x k) is ∙ sym (word-of-rank p n k low) ∙ ap (value_word p) (sym here)

-- one outcome more
one_more : (p : Planning) (n : ℕ) (o : Outcome) → n < cells p → o ≡ outcome_at p n → take n (all_outcomes p) ++ o ∷ [] ≡ take (n + 1) (all_outcomes p)
unfolding all_outcomes outcome_at
one_more p n o low is = ap (λ x. take n (all_outcomes p) ++ x ∷ []) is ∙ sym (take_more (all_outcomes p) n Over (omega (arith, length-all p)))

pub store_word-requires-clause-word : goal.store_word-requires-clause-word
store_word-requires-clause-word c = coded c.args.self.now.plan c.args.outcome.now _ _ 0 _ c.requires.outcome (omega (arith, c.len-at.ensures)) (omega arith) c.encode-a.ensures.a

pub store_word-requires-2-clause-word : goal.store_word-requires-2-clause-word
store_word-requires-2-clause-word c = coded c.args.self.now.plan c.args.outcome.now _ _ 1 _ c.requires.outcome (omega (arith, c.len-at.ensures)) (omega arith) c.encode-a.ensures.b

pub store_word-requires-3-clause-word : goal.store_word-requires-3-clause-word
store_word-requires-3-clause-word c = coded c.args.self.now.plan c.args.outcome.now _ _ 2 _ c.requires.outcome (omega (arith, c.len-at.ensures)) (omega arith) c.encode-a.ensures.c

pub store_word-requires-4-clause-word : goal.store_word-requires-4-clause-word
store_word-requires-4-clause-word c = coded c.args.self.now.plan c.args.outcome.now _ _ 3 _ c.requires.outcome (omega (arith, c.len-at.ensures)) (omega arith) c.encode-a.ensures.d

pub returns-clause-filler : goal.returns-clause-filler
returns-clause-filler c =
    let b = c.args.self.now in let v = c.args.filler.now.place.me.0 in let w = c.store_word-4.new.seat.me.0 in let f = c.requires.filler in
    let e : w ≡ wrote (wrote (wrote (wrote v))) = c.store_word-4.ensures.view ∙ ap wrote (c.store_word-3.ensures.view ∙ ap wrote (c.store_word-2.ensures.view ∙ ap wrote c.store_word.ensures.view)) in
    let more = c.in-Ok.ensures.len in record {
      of = c.store_word-4.ensures.seat;
      fills = ap (λ (u : View). u.role) e ∙ f.fills;
      published = f.published ∙ sym (ap (λ (u : View). u.count) e);
      written = ap settled e ∙ omega (arith, f.written, more);
      outcomes = c.in-Ok.ensures.items ∙ ap (λ l. l ++ c.args.outcome.now ∷ []) f.outcomes ∙ one_more b.plan c.args.filler.now.outcomes.len c.args.outcome.now c.requires.next c.requires.outcome ∙ ap (λ n. take n (all_outcomes b.plan)) (sym more);
      room = omega (arith, f.room, c.in-Ok.ensures.capacity, c.in-Ok.ensures.lower_bound, c.in-Ok.ensures.upper_bound);
    }
