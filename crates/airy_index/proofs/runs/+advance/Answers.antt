use Rattle.std.proofs.Common.{rules, arith, refl, ◌≡◌, ◌∷◌, ◌<◌}
use Rattle.airy_index.proofs.Words.{nil_from_length, splits_after, IsChoice, TakesNone}
use Rattle.airy_index.proofs.ChoiceLemmas.{next_behind, next_here, no_next, below_other}
use Rattle.airy_index.proofs.runs.+advance.Goals as goal

pub returns-in_default-clause-last : goal.returns-in_default-clause-last
unfolding splits_after
returns-in_default-clause-last t c = rw (nil_from_length c.args.runs.now c.in_default.ensures.cases) refl

pub returns-in_default-clause-none : goal.returns-in_default-clause-none
unfolding TakesNone
returns-in_default-clause-none t c = rw (nil_from_length c.args.runs.now c.in_default.ensures.cases) tt

pub advance-requires : goal.advance-requires
unfolding IsChoice
advance-requires t c =
    let h : c.args.runs.now ≡ c.in-Some.first.now ∷ c.in-Some.others.now = search rules in
    let choice = rw h at c.requires in
    (search rules, choice.1)

pub returns-then-advance-clause-choice : goal.returns-then-advance-clause-choice
unfolding IsChoice
returns-then-advance-clause-choice t c =
    let h : c.args.runs.now ≡ c.in-Some.first.now ∷ c.in-Some.others.now = search rules in
    let choice = rw h at c.requires in
    (choice.0, c.advance.ensures.choice)

pub returns-then-advance-clause-more : goal.returns-then-advance-clause-more
returns-then-advance-clause-more t c =
    let h : c.args.runs.now ≡ c.in-Some.first.now ∷ c.in-Some.others.now = search rules in
    rw h (next_behind c.in-Some.first.now c.in-Some.others.now c.advance.new.runs c.advance.ensures.counts c.if-advance.ensures.more)

pub returns-then-first-clause-choice : goal.returns-then-first-clause-choice
unfolding IsChoice
returns-then-first-clause-choice t c = (omega arith, c.advance.ensures.choice)

pub returns-then-first-clause-last : goal.returns-then-first-clause-last
returns-then-first-clause-last t c =
    let h : c.args.runs.now ≡ c.in-Some.first.now ∷ c.in-Some.others.now = search rules in
    rw h (no_next c.in-Some.first.now c.in-Some.others.now (omega arith) c.if-advance.ensures.last)

pub returns-then-first-clause-none : goal.returns-then-first-clause-none
unfolding TakesNone
returns-then-first-clause-none t c = (refl, c.if-advance.ensures.none)

pub overflow_add-first : goal.overflow_add-first
unfolding IsChoice
overflow_add-first t c =
    let h : c.args.runs.now ≡ c.in-Some.first.now ∷ c.in-Some.others.now = search rules in
    let choice = rw h at c.requires in
    let small : c.in-Some.first.now.count < 256 = search rules in
    let more = below_other _ _ choice.0 c.if-first.false in
    omega (arith, more, small)

pub returns-clause-choice : goal.returns-clause-choice
unfolding IsChoice
returns-clause-choice t c =
    let h : c.args.runs.now ≡ c.in-Some.first.now ∷ c.in-Some.others.now = search rules in
    let choice = rw h at c.requires in
    (omega (arith, below_other _ _ choice.0 c.if-first.false), c.advance.ensures.choice)

pub returns-clause-more : goal.returns-clause-more
unfolding IsChoice
returns-clause-more t c =
    let h : c.args.runs.now ≡ c.in-Some.first.now ∷ c.in-Some.others.now = search rules in
    let choice = rw h at c.requires in
    rw h (next_here c.in-Some.first.now c.in-Some.others.now c.advance.new.runs (below_other _ _ choice.0 c.if-first.false) c.advance.ensures.counts c.if-advance.ensures.last c.if-advance.ensures.none)
