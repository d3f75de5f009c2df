-- Levels of a plan: which ranks they have, and what a rank rests on.
use Rattle.std.proofs.Common.{◌≡◌, ℕ, ◌+◌, ◌*◌, ◌<◌, ◌≤◌, inl, inr, refl, ap, ap₂, subst, arith, length, ◌↔◌}
use Rattle.airy_math.specs.Planned.{IsPlanned}
use Rattle.airy_math.specs.NeedsFirst.{NeedsLaw}
use Rattle.airy_math.specs.Ranks.{PlanLaw, no_key}
use Rattle.airy_math.proofs.PlanOrderLaw.{levels}
use Rattle.cell_words.proofs.Names.{euler_of, Planning, tensors_of, keys_of, key_at, word_of, cells, outcome_at, cells_to, value_word}
use Rattle.cell_words.proofs.LevelSteps.{cells_grow}
use Rattle.cell_words.specs.Looks.{Reaches}
use Rattle.airy_math.specs.Ranks as ranks

-- the ranks of the levels up to k are those of the keys with Euler numbers up to k
pub level-ranks : (p : Planning) (k r : ℕ) → k ≤ p.bound → r < cells p → (r < cells_to p k) ↔ (euler_of (key_at p r) ≤ k)
unfolding cells_to keys_of key_at ranks.key_at
level-ranks p k r within low = (levels (tensors_of p) k).ends p.bound within no_key r low

pub all-levels : (p : Planning) → cells_to p p.bound ≡ cells p
unfolding cells_to keys_of
all-levels p = refl

pub no-levels : (p : Planning) → cells_to p 0 ≡ 0
unfolding cells_to
no-levels p = ap length (levels (tensors_of p) 0).none

-- the first levels have no more cells than the plan
pub level-inside : (p : Planning) (k : ℕ) → k ≤ p.bound → cells_to p k ≤ cells p
level-inside p k h = subst (λ n. cells_to p k ≤ n) (all-levels p) (cells_grow p k p.bound h)

-- what a rank of these levels rests on is a rank of them, too
pub level-closed : NeedsLaw → PlanLaw → (p : Planning) (k r q : ℕ) → k ≤ p.bound → r < cells p → q < cells p → r < cells_to p k → Reaches p r q → q < cells_to p k
unfolding keys_of key_at
level-closed first once p k r q within low low' known (inl same) = subst (λ x. x < cells_to p k) same known
level-closed first once p k r q within low low' known (inr rests) =
    (level-ranks p k q within low').1 (let e = (level-ranks p k r within low).0 known in let s = ((first (tensors_of p) p.bound (key_at p r) planned_key).rests (key_at p q) rests).smaller in omega arith)
  where
    planned_key : IsPlanned (tensors_of p) p.bound (key_at p r)
    planned_key = (once (tensors_of p) p.bound).only r low

-- the value words of a rank
pub word-of-rank : (p : Planning) (r k : ℕ) → k < 4 → value_word p (4 * r + k) ≡ word_of (outcome_at p r) k
unfolding value_word
word-of-rank p r k low = ap₂ (λ q j. word_of (outcome_at p q) j) (omega arith) (omega arith)
