-- The terms of a pivot sum with ranks in place of keys, and what becomes of a state that takes them one after another.
use Prim.Native.Nat.{ℕ}
use mathlib.Core.Path.{◌≡◌}
use mathlib.Core.List.{List, [], ◌∷◌, map}
use Rattle.std.specs.Prelude.{Option, Some, ◌↔◌}
use Rattle.airy_math.specs.Rational.{ℚ}
use Rattle.airy_math.specs.Keys.{Key, remove}
use Rattle.airy_math.specs.Obtained.{◌⊛◌}
use Rattle.airy_math.specs.Terms as math
use Rattle.amp_plan.specs.Plans.{Planning, tensors_of, rank_at}

-- A number times what stands at no rank, one rank or two ranks. Of a number w = v or v (1/2) there is what is obtained.
pub data RankedTerm : Type 0 where
  Alone : ℚ → RankedTerm
  -- (m v) F
  Once : ℚ → ℚ → ℕ → RankedTerm
  -- w F
  Joined : Option ℚ → ℕ → RankedTerm
  -- ((w q) F1) F2
  Twice : Option ℚ → ℚ → ℕ → ℕ → RankedTerm

-- a term with the ranks of its keys
unfoldable pub ranked : (Key → ℕ) → math.Term → RankedTerm
ranked rank (math.Alone v) = Alone v
ranked rank (math.Once m v key) = Once m v (rank key)
ranked rank (math.Joined h v key) = Joined (math.obtained_half h v) (rank key)
ranked rank (math.Twice h v q left right) = Twice (math.obtained_half h v) q (rank left) (rank right)

-- the ranks that a term names
unfoldable pub ranks_of : RankedTerm → List ℕ
ranks_of (Alone v) = []
ranks_of (Once m v r) = r ∷ []
ranks_of (Joined w r) = r ∷ []
ranks_of (Twice w q l r) = l ∷ r ∷ []

-- what is obtained of a term, where F gives the number at each rank
unfoldable pub obtained_at : (ℕ → ℚ) → RankedTerm → Option ℚ
obtained_at F (Alone v) = Some v
obtained_at F (Once m v r) = Some m ⊛ Some v ⊛ Some (F r)
obtained_at F (Joined w r) = w ⊛ Some (F r)
obtained_at F (Twice w q l r) = w ⊛ Some q ⊛ Some (F l) ⊛ Some (F r)

-- the terms with the ranks of their keys
unfoldable pub all_ranked : (Key → ℕ) → List math.Term → List RankedTerm
all_ranked rank ts = map (ranked rank) ts

-- the ranked terms of a plan's pivot sum: of a genus and what is left of the indices without the pivot
abbrev pub rest_terms : Planning → ℕ → ℕ → List ℕ → List RankedTerm
rest_terms p pivot g I = all_ranked (rank_at p) (math.terms (tensors_of p) pivot g I)

-- the same of a key and one of its indices
abbrev pub pivot_terms : Planning → ℕ → Key → List RankedTerm
pivot_terms p pivot key = rest_terms p pivot key.g (remove pivot key.idx)

-- the state after all terms, each taken by a step
unfoldable pub after_terms : {S : Type 0} → (S → RankedTerm → S) → S → List RankedTerm → S
after_terms step s [] = s
after_terms step s (t ∷ ts) = after_terms step (step s t) ts

-- each of the ranks is allowed
unfoldable pub AreAllowed : (ℕ → Type 0) → List ℕ → Type 0
AreAllowed P [] = Unit
AreAllowed P (r ∷ rs) = P r × AreAllowed P rs

-- each rank that the terms name is allowed
unfoldable pub NameAllowed : (ℕ → Type 0) → List RankedTerm → Type 0
NameAllowed P [] = Unit
NameAllowed P (t ∷ ts) = AreAllowed P (ranks_of t) × NameAllowed P ts

-- A visitor that took the terms: its state is the one after them, and it allows the ranks that it allowed.
pub record Takes {W S : Type 0} (allows : W → ℕ → Type 0) (state : W → S) (step : S → RankedTerm → S)
    (ts : List RankedTerm) (old new : W) : Type 0 where
  pub after : state new ≡ after_terms step (state old) ts
  pub stays : (r : ℕ) → allows new r ↔ allows old r
