-- The parts in which the terms are walked over are the terms.
use Rattle.std.proofs.Common.{◌≡◌, ℕ, suc, ◌-◌, ◌<◌, Bool, true, false, List, [], ◌∷◌, ◌++◌, map, length, Some, None, refl, ap, ap₂, ◌∙◌, arith, cond, nat_eq, nat_lt, ◌&&◌, slice_index}
use Rattle.std.proofs.lemmas.List.{map-append}
use Rattle.amp_plan.proofs.Words.{ℚ, Key, key_of, euler, insert, remove, times, live, splits, each, Tensors, row_b, row_c, terms, obtained_half, IsPlanned, Planning, tensors_of, rank_at, RankedTerm, Alone, Once, Joined, Twice, ranked, all_ranked, HasRoom, live_rank, for_rank, for_ranks, once_part, run_part, b_part, joined_part, split_part, genus_part, product_part, entry_part, c_part}
use Rattle.airy_math.specs.Rational.{whole}
use Rattle.airy_math.specs.Keys.{more}
use Rattle.airy_math.specs.Splits.{runs}
use Rattle.airy_math.specs.Sums.{below}
use Rattle.airy_math.specs.Terms as math
use Rattle.airy_math.specs.Terms.{if_so, b_terms, joined_terms, product_terms, c_terms}
use Rattle.airy_math.proofs.PivotLaw.{terms-other}
use Rattle.amp_plan.proofs.RankWalkLemmas.{sorted-remove}
use Rattle.airy_math.proofs.EachLemmas.{each-cong}
use Rattle.airy_math.proofs.KeyLemmas.{map-each}

mapped : {A B C : Type 0} (h : B → C) (f : A → List B) (k : A → List C) (xs : List A) → ((x : A) → map h (f x) ≡ k x) → map h (each xs f) ≡ each xs k
mapped h f k xs e = map-each h f xs ∙ each-cong (λ x. map h (f x)) k xs e

-- ---- parts

-- neither of the two cases with one term
pub record IsOther (g : ℕ) (I : List ℕ) : Type 0 where
  pub not_three : g ≡ 0 → length I ≡ 2 → ⊥
  pub not_one : g ≡ 1 → length I ≡ 0 → ⊥

module _ (p : Planning) where
  abbrev to_rank : math.Term → RankedTerm
  to_rank = ranked (rank_at p)

  once_is : (K : Key) (m v : ℚ) → map to_rank (if_so (live (tensors_of p).shape K) (math.Once m v K)) ≡ for_rank (live_rank p K) (Once m v)
  unfolding if_so for_rank live_rank ranked
  once_is K m v = by (live (tensors_of p).shape K)
    where
      by : (t : Bool) → map to_rank (if_so t (math.Once m v K)) ≡ for_rank (cond t (Some (rank_at p K)) None) (Once m v)
      by true = refl
      by false = refl

  joined_is : (b : Bool) (K : Key) (h : Bool) (v : ℚ) → map to_rank (if_so (b && live (tensors_of p).shape K) (math.Joined h v K)) ≡ cond b (for_rank (live_rank p K) (Joined (obtained_half h v))) []
  unfolding if_so for_rank live_rank ranked
  joined_is b K h v = by b (live (tensors_of p).shape K)
    where
      by : (b t : Bool) → map to_rank (if_so (b && t) (math.Joined h v K)) ≡ cond b (for_rank (cond t (Some (rank_at p K)) None) (Joined (obtained_half h v))) []
      by true true = refl
      by true false = refl
      by false t = refl

  split_is : (L R : Key) (h : Bool) (v q : ℚ) → map to_rank (if_so (live (tensors_of p).shape L && live (tensors_of p).shape R) (math.Twice h v q L R)) ≡ for_ranks (live_rank p L) (live_rank p R) (Twice (obtained_half h v) q)
  unfolding if_so for_ranks live_rank ranked
  split_is L R h v q = by (live (tensors_of p).shape L) (live (tensors_of p).shape R)
    where
      by : (s t : Bool) → map to_rank (if_so (s && t) (math.Twice h v q L R)) ≡ for_ranks (cond s (Some (rank_at p L)) None) (cond t (Some (rank_at p R)) None) (Twice (obtained_half h v) q)
      by true true = refl
      by true false = refl
      by false t = refl

  b_is : (i g : ℕ) (I : List ℕ) → all_ranked (rank_at p) (b_terms (tensors_of p) i g I) ≡ b_part p i g I
  unfolding all_ranked b_terms b_part run_part once_part
  b_is i g I =
      mapped to_rank _ (run_part p i g I) (runs I) (λ jm.
      mapped to_rank _ (once_part p g (remove jm.0 I) jm.1) (row_b (tensors_of p) i jm.0) (λ av.
      once_is (key_of g (insert av.0 (remove jm.0 I))) (whole jm.1) av.1))

  product_is : (g : ℕ) (I : List ℕ) (a b : ℕ) (v : ℚ) → map to_rank (product_terms (tensors_of p) g I a b v) ≡ product_part p g I a b (obtained_half (nat_eq a b) v)
  unfolding product_terms product_part genus_part split_part
  product_is g I a b v =
      mapped to_rank _ (genus_part p g I a b (obtained_half (nat_eq a b) v)) (below (suc g)) (λ k.
      mapped to_rank _ (split_part p g a b (obtained_half (nat_eq a b) v) k) (splits I) (λ s.
      split_is (key_of k (insert a s.part)) (key_of (g - k) (insert b s.rest)) (nat_eq a b) v (whole s.ways)))

  c_is : (i g : ℕ) (I : List ℕ) → all_ranked (rank_at p) (c_terms (tensors_of p) i g I) ≡ c_part p i g I
  unfolding all_ranked c_terms c_part entry_part joined_terms joined_part
  c_is i g I = mapped to_rank _ (entry_part p g I) (row_c (tensors_of p) i) (λ e.
      map-append to_rank (joined_terms (tensors_of p) g I e.0 e.1 e.2) (product_terms (tensors_of p) g I e.0 e.1 e.2)
      ∙ ap₂ ◌++◌ (joined_is (nat_lt 0 g) (key_of (g - 1) (insert e.0 (insert e.1 I))) (nat_eq e.0 e.1) e.2) (product_is g I e.0 e.1 e.2))

  -- the terms are the B terms and the C terms
  pub other_parts : (i : ℕ) {g : ℕ} {I : List ℕ} → IsOther g I → all_ranked (rank_at p) (terms (tensors_of p) i g I) ≡ b_part p i g I ++ c_part p i g I
  unfolding all_ranked
  other_parts i {g} {I} o =
      ap (map to_rank) (terms-other (tensors_of p) i g I o.not_three o.not_one)
      ∙ map-append to_rank (b_terms (tensors_of p) i g I) (c_terms (tensors_of p) i g I)
      ∙ ap₂ ◌++◌ (b_is i g I) (c_is i g I)

  -- the one term of (0,3) and of (1,1)
  pub three_part : (i g : ℕ) (I : List ℕ) → g ≡ 0 → length I ≡ 2 → all_ranked (rank_at p) (terms (tensors_of p) i g I) ≡ Alone ((tensors_of p).A i (slice_index I 0) (slice_index I 1)) ∷ []
  unfolding all_ranked terms ranked
  three_part i g [] h l = absurd (omega arith)
  three_part i g (x ∷ []) h l = absurd (omega arith)
  three_part i g (x ∷ y ∷ []) h l = ap (λ z. map to_rank (terms (tensors_of p) i z (x ∷ y ∷ []))) h
  three_part i g (x ∷ y ∷ z ∷ I) h l = absurd (omega arith)

  pub one_part : (i g : ℕ) (I : List ℕ) → g ≡ 1 → length I ≡ 0 → all_ranked (rank_at p) (terms (tensors_of p) i g I) ≡ Alone ((tensors_of p).D i) ∷ []
  unfolding all_ranked terms ranked
  one_part i g [] h l = ap (λ z. map to_rank (terms (tensors_of p) i z [])) h
  one_part i g (x ∷ I) h l = absurd (omega arith)

-- ---- what is left of a planned key

pub length-without : (i : ℕ) (xs : List ℕ) → 0 < times i xs → suc (length (remove i xs)) ≡ length xs
unfolding times remove
length-without i [] h = absurd (omega arith)
length-without i (x ∷ xs) h = by (nat_eq i x) h (length-without i xs)
  where
    by : (t : Bool) → 0 < more t (times i xs) → (0 < times i xs → suc (length (remove i xs)) ≡ length xs) → suc (length {A = ℕ} (elim t [ true ↦ xs | false ↦ x ∷ remove i xs ])) ≡ suc (length xs)
    by true h r = refl
    by false h r = ap suc (r h)

pub room_planned : (T : Tensors) (X : ℕ) (key : Key) (i : ℕ) → IsPlanned T X key → 0 < times i key.idx → HasRoom T X key.g (remove i key.idx)
unfolding euler
room_planned T X key i h s = record { sorted = sorted-remove T.dim i key.idx h.sorted; level = omega (arith, h.within, h.positive, length-without i key.idx s) }
