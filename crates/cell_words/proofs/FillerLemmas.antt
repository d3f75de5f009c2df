-- The filler's list of outcomes.
use Rattle.std.proofs.Common.{◌≡◌, ℕ, ◌<◌, ◌≤◌, ◌+◌, ◌++◌, List, take, drop, length, arith, sym, ap, ◌∙◌, subst, length-take-le, get_or-drop, get_or-take, take-append-drop, length-drop, take-take, vec_len, get_or}
use Rattle.amp_terms.proofs.OutcomeLemmas.{length-all}
use Rattle.cell_words.proofs.Names.{get_or_default, Planning, Outcome, Over, cells, all_outcomes, outcome_at, cells_to, IsFilling, IsFiller}
use Rattle.cell_words.specs.Levels.{level_after}
use Rattle.cell_words.specs.declared.frontier.Frontier.{Frontier}
use Rattle.cell_words.specs.declared.frontier.FillSeat.{FillSeat}
use Rattle.cell_words.proofs.LevelSteps.{cells_grow}
use Rattle.cell_words.proofs.LevelLemmas.{level-inside}

pub length-taken : (p : Planning) (n : ℕ) → n ≤ cells p → length (take n (all_outcomes p)) ≡ n
unfolding all_outcomes
length-taken p n h = length-take-le n (all_outcomes p) (omega (arith, length-all p))

-- the list is as long as the ranks that are written
pub filled-count : (b : Frontier) (n : ℕ) (f : FillSeat) → n ≤ cells b.plan → IsFilling b n f → vec_len f.outcomes ≡ n
filled-count b n f h filling = let l : length f.outcomes.items ≡ n = ap length filling.outcomes ∙ length-taken b.plan n h in omega (arith, f.outcomes.ok.0, l)

-- between calls the outcomes that are there are those of the published levels
pub published-count : (b : Frontier) (f : FillSeat) → f.published ≤ b.plan.bound → IsFiller b f → vec_len f.outcomes ≡ cells_to b.plan f.published
published-count b f h filler = filled-count b (cells_to b.plan f.published) f (level-inside b.plan f.published h) filler

-- so many outcomes the filler has
pub many : (b : Frontier) (f : FillSeat) (l : List Outcome) → IsFiller b f → l ≡ f.outcomes.items → length l ≡ cells_to b.plan f.published
many b f l filler is =
    ap length (is ∙ filler.outcomes) ∙ length-taken b.plan (cells_to b.plan f.published) (level-inside b.plan f.published (let e = filler.of.3 in omega (arith, filler.published, e)))

pub refilled : (b : Frontier) (n m : ℕ) (f : FillSeat) → n ≡ m → IsFilling b n f → IsFilling b m f
refilled b n m f e filling = subst (λ k. IsFilling b k f) e filling

-- the outcome i of the next level is that of its rank
pub level-outcome : (p : Planning) (k i : ℕ) (d : Outcome) → k + 1 ≤ p.bound → cells_to p k + i < cells_to p (k + 1) → get_or (level_after p k) i d ≡ outcome_at p (cells_to p k + i)
unfolding level_after outcome_at all_outcomes
level-outcome p k i d within h =
    get_or-drop (cells_to p k) (take (cells_to p (k + 1)) (all_outcomes p)) i d ∙ get_or-take (cells_to p (k + 1)) (all_outcomes p) (cells_to p k + i) d h
    ∙ get_or_default (all_outcomes p) (cells_to p k + i) d Over (omega (arith, h, level-inside p (k + 1) within, length-all p))

pub level-length : (p : Planning) (k : ℕ) → k + 1 ≤ p.bound → cells_to p k + length (level_after p k) ≡ cells_to p (k + 1)
unfolding level_after
level-length p k h =
    let all = length-taken p (cells_to p (k + 1)) (level-inside p (k + 1) h) in
    let few = cells_grow p k (k + 1) (omega arith) in
    let rest = length-drop (cells_to p k) (take (cells_to p (k + 1)) (all_outcomes p)) in omega (arith, all, few, rest)

-- the levels before, and the next one
pub level-behind : (p : Planning) (k : ℕ) → take (cells_to p (k + 1)) (all_outcomes p) ≡ take (cells_to p k) (all_outcomes p) ++ level_after p k
unfolding level_after
level-behind p k =
    sym (take-append-drop (cells_to p k) (take (cells_to p (k + 1)) (all_outcomes p))) ∙ ap (λ l. l ++ drop (cells_to p k) (take (cells_to p (k + 1)) (all_outcomes p))) (take-take (cells_to p k) (cells_to p (k + 1)) (all_outcomes p) (cells_grow p k (k + 1) (omega arith)))
