-- What the tests of walks need: an index at a place stands in its list, and a visitor may allow all ranks.
use Rattle.std.proofs.Common.{◌≡◌, ℕ, suc, zero, ◌<◌, Bool, true, false, List, [], ◌∷◌, length, arith, nat_eq, slice_index}
use Rattle.airy_math.specs.Keys.{times, more}
use Rattle.amp_plan.specs.Ranked.{RankedTerm, ranks_of, AreAllowed, NameAllowed}

pub index_stands : (xs : List ℕ) (i : ℕ) → i < length xs → 0 < times (slice_index xs i) xs
unfolding times
index_stands [] i h = absurd (omega arith)
index_stands (x ∷ xs) zero h = let t : nat_eq x x ≡ true = grind arith in rw t (omega arith)
index_stands (x ∷ xs) (suc i) h = by (nat_eq (slice_index xs i) x) (index_stands xs i (omega arith))
  where
    by : (t : Bool) → 0 < times (slice_index xs i) xs → 0 < more t (times (slice_index xs i) xs)
    by true h = omega arith
    by false h = h

all_allowed : (P : ℕ → Type 0) → ((r : ℕ) → P r) → (rs : List ℕ) → AreAllowed P rs
unfolding AreAllowed
all_allowed P h [] = tt
all_allowed P h (r ∷ rs) = (h r, all_allowed P h rs)

pub terms_allowed : (P : ℕ → Type 0) → ((r : ℕ) → P r) → (ts : List RankedTerm) → NameAllowed P ts
unfolding NameAllowed
terms_allowed P h [] = tt
terms_allowed P h (t ∷ ts) = (all_allowed P h (ranks_of t), terms_allowed P h ts)
