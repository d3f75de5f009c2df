-- For private functions and for proofs: no public contract rests on this file.
-- The products of a pair of indices with a genus on the left, walked over by how many of each distinct index the part takes.
use Prim.Native.Nat.{ℕ, ◌+◌, ◌*◌, ◌-◌, ◌≤◌, ◌<◌, ◌^◌}
use mathlib.Core.Path.{◌≡◌}
use mathlib.Core.Bool.{Bool, ◌&&◌}
use mathlib.Core.List.{List, [], ◌∷◌, ◌++◌}
use lib.ListN.{length}
use lib.IntN.{pos, ◌+ℤ◌, ◌-ℤ◌}
use lib.Signed.{le_z}
use Rattle.std.specs.Int.RustNames.{unsigned_abs}
use Rattle.std.specs.List.{AllByRecursion}
use Rattle.airy_math.specs.Shapes.{per_n}
use Rattle.airy_math.specs.Splits.{Split}
use Rattle.airy_math.specs.Sums.{each}
use Rattle.airy_index.specs.Choices.{all_splits, whole_length}
use Rattle.amp_plan.specs.Plans.{Planning, tensors_of}
use Rattle.amp_plan.specs.Ranked.{RankedTerm, NameAllowed, Takes}
use Rattle.amp_plan.specs.Walk.{IsPartOf, split_part, genus_part}
use Rattle.index_lists.specs.Parts.{behind, listed}
use Rattle.index_lists.specs.Measures.{IsMeasured, IsLight, gain, loss, law_excess}
use Rattle.amp_plan.specs.declared.share.Share.{Share}
use Rattle.index_lists.specs.declared.chosen.Chosen.{Chosen}

-- the products of all splits that begin with the one that was chosen, and go on with the runs that are left
unfoldable pub choice_part : Planning → Share → Split → List (ℕ × ℕ) → List RankedTerm
choice_part p h s rs = each (all_splits rs) (λ t. split_part p h.genus h.pair.now.a h.pair.now.b h.pair.now.weight h.k (behind s t))

-- the products of a share of what is left of a key
unfoldable pub of_share : Planning → Share → List ℕ → List RankedTerm
of_share p h I = genus_part p h.genus I h.pair.now.a h.pair.now.b h.pair.now.weight h.k

-- whether the part's excess can come between the share's two numbers
unfoldable pub can_reach : Share → Chosen → Bool
can_reach h c = le_z h.low (c.part.excess +ℤ pos c.gain) && le_z c.part.excess (h.high +ℤ pos c.loss)

-- A share of a plan's pivot sum: both keys are covered only where the excess of the part is from low to high.
pub record IsShare (p : Planning) (h : Share) : Type 0 where
  pub law : h.per_n ≡ per_n p.tensors.shape
  pub genus : h.k ≤ h.genus
  pub a : h.pair.now.a < p.tensors.dim
  pub b : h.pair.now.b < p.tensors.dim
  pub left : IsMeasured h.per_n (h.pair.now.a ∷ []) h.left
  pub high : h.high ≡ law_excess p.tensors.shape h.k -ℤ h.left.excess
  pub low : h.low ≡ h.right.excess -ℤ law_excess p.tensors.shape (h.genus - h.k)
  pub dim : p.tensors.dim ≤ 72
  pub bound : p.bound ≤ 24
  pub small_law : unsigned_abs h.per_n ≤ 99
  pub small_high : unsigned_abs h.high ≤ 2 ^ 50
  pub light_left : IsLight h.left
  pub light_right : IsLight h.right

-- A split of the indices of a share.
pub record FitsShare (p : Planning) (h : Share) (t : Split) : Type 0 where
  pub is_part : IsPartOf (tensors_of p) p.bound h.genus h.k t
  pub right : IsMeasured h.per_n (h.pair.now.b ∷ (t.part ++ t.rest)) h.right

-- The split is one that was chosen from the first runs, and these are its numbers.
pub record IsChosen (p : Planning) (h : Share) (left : List (ℕ × ℕ)) (c : Chosen) (s : Split) : Type 0 where
  pub part : IsMeasured h.per_n s.part c.part
  pub ways : c.ways ≡ s.ways
  pub gain : c.gain ≡ gain h.per_n (listed left)
  pub loss : c.loss ≡ loss h.per_n (listed left)
  pub fits : AllByRecursion (λ t. FitsShare p h (behind s t)) (all_splits left)
  pub bytes : AllByRecursion (λ x. x < 256) s.part
  pub few : length s.part + whole_length left ≤ 25
  pub small : s.ways * 2 ^ whole_length left ≤ 2 ^ 25

-- The numbers are those of a split that was chosen, and each rank that its products name is allowed.
pub record CanGoOn (allows : ℕ → Type 0) (p : Planning) (h : Share) (left : List (ℕ × ℕ)) (c : Chosen) : Type 0 where
  pub split : Split
  pub chosen : IsChosen p h left c split
  pub allowed : NameAllowed allows (choice_part p h split left)

-- Whatever the split was that was chosen, a visitor took the products of those that go on from it.
abbrev pub TakesChoices : {W S : Type 0} → (W → ℕ → Type 0) → (W → S) → (S → RankedTerm → S) →
    Planning → Share → List (ℕ × ℕ) → Chosen → W → W → Type 0
TakesChoices allows state step p h left c old new =
    (s : Split) → IsChosen p h left c s → Takes allows state step (choice_part p h s left) old new
