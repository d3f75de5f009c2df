-- The next level of a frontier board.
use Rattle.std.proofs.Common.{◌≡◌, ℕ, ◌<◌, ◌≤◌, ◌+◌, List, length, arith, sym, ap, ◌∙◌, subst, slice_index_or}
use Rattle.std.proofs.lemmas.List.{same_lists}
use Rattle.cell_words.specs.Levels.{level_after}
use Rattle.cell_words.specs.declared.frontier.Frontier.{Frontier}
use Rattle.cell_words.proofs.LevelLemmas.{level-ranks, level-inside}
use Rattle.cell_words.proofs.FillerLemmas.{length-taken, level-length, level-outcome}
use Rattle.cell_words.proofs.Names.{euler_of, Planning, key_at, Outcome, cells, outcome_at, cells_to}
use Rattle.fill_crew.specs.Levels.{IsPublished}

pub published-many : (b : Frontier) (k : ℕ) (l : List Outcome) → IsPublished b k l → length l ≡ cells_to b.plan k
published-many b k l h = ap length h.outcomes ∙ length-taken b.plan (cells_to b.plan k) (level-inside b.plan k (let e = h.next in omega arith))

-- the rank i of the next level
pub record IsNext (p : Planning) (k n r : ℕ) : Type 0 where
  pub low : r < cells p
  pub level : (k ≤ p.bound) × (euler_of (key_at p r) ≤ k + 1)
  pub enough : cells_to p k ≤ n

pub is-next : (p q : Planning) (k n i : ℕ) → q ≡ p → n ≡ cells_to p k → k < p.bound → cells_to p k + i < cells_to p (k + 1) → IsNext q k n (n + i)
is-next p q k n i e len next within = subst (λ s. IsNext s k n (n + i)) (sym e) (record {
  low = omega (arith, len, within, level-inside p (k + 1) (omega arith));
  level = (omega arith, (level-ranks p (k + 1) (n + i) (omega arith) (omega (arith, len, within, level-inside p (k + 1) (omega arith)))).0 (omega (arith, len, within)));
  enough = omega (arith, len);
})

-- outcomes that are those of the level's ranks are the level
pub is-level : (p : Planning) (k : ℕ) (l : List Outcome) → k < p.bound → cells_to p k + length l ≡ cells_to p (k + 1) → ((i : ℕ) (d : Outcome) → i < length l → slice_index_or l i d ≡ outcome_at p (cells_to p k + i)) → l ≡ level_after p k
is-level p k l next len each =
    same_lists l (level_after p k) (omega (arith, len, level-length p k (omega arith))) (λ i d h. each i d h ∙ sym (level-outcome p k i d (omega arith) (omega (arith, len, h))))
