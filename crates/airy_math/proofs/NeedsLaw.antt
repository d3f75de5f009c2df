-- The keys that the terms of a planned key name are planned, each with a smaller Euler number.
use Prim.Native.Nat.{ℕ, zero, suc, ◌+◌, ◌*◌, ◌-◌, ◌<◌, ◌≤◌}
use mathlib.Core.Path.{◌≡◌, refl, sym, ap, subst, ◌∙◌}
use mathlib.Core.Bool.{Bool, true, false, ◌&&◌}
use mathlib.Core.List.{[], List, ◌∷◌, map}
use mathlib.Core.Logic.{◌⊎◌, inl, inr}
use native.Mathlib.Omega.{arith}
use lib.Dec.{ltb, eqb}
use lib.ListN.{length}
use Rattle.std.proofs.lemmas.Bool.{cases_eq, and_parts, ltb-true}
use Rattle.airy_math.specs.Rational.{ℚ, whole}
use Rattle.airy_math.specs.Sums.{each, below}
use Rattle.airy_math.specs.Keys.{Key, stable, euler, total, times, insert, remove, indices_from, exponents, key_of, head_or}
use Rattle.airy_math.specs.Shapes.{covers, live}
use Rattle.airy_math.specs.Splits.{runs, splits, Split, pairs}
use Rattle.airy_math.specs.Tensors.{Tensors, row_b, row_c}
use Rattle.airy_math.specs.Terms.{Term, Twice, named, terms, b_terms, c_terms, joined_terms, product_terms, if_so, needs, StandsIn, RestsOn, directly, through}
use Rattle.airy_math.specs.Planned.{IsPlanned}
use Rattle.airy_math.specs.Levels.{euler_of}
use Rattle.airy_math.specs.NeedsFirst.{ComesFirst, NeedsLaw}
use Rattle.airy_math.proofs.SumLemmas.{Each, Each-append, Each-map, Each-each, Each-below, Each-weaken}
use Rattle.airy_math.proofs.KeyLemmas.{Ascending, AllBelow, splits-indices, split_by}
use Rattle.airy_math.proofs.MoveLemmas.{ascending-insert, ascending-remove, all_below-insert, all_below-remove, ascending-indices, all_below-indices}
use Rattle.airy_math.proofs.SplitLemmas.{IsPair, pairs_are}
use Rattle.airy_math.proofs.PivotLaw.{terms-other, length-indices}
use Rattle.airy_math.proofs.SolutionLaw.{two_items, no_items, indices_again, length-exponents}
use Rattle.airy_math.proofs.PlannedLaw.{Each-keep, ascending, head_stands}
use Rattle.airy_math.proofs.PlannedLaw as plan
use Rattle.airy_math.proofs.PlanLemmas.{sorted_small}
use Rattle.airy_math.proofs.MeasureLemmas.{runs_stand}
use Rattle.airy_math.proofs.CutLaw.{length-insert, length-remove}

Each-if_so : (P : Term → Type 0) (b : Bool) (t : Term) → (b ≡ true → P t) → Each P (if_so b t)
unfolding if_so
Each-if_so P true t h = (h refl, tt)
Each-if_so P false t h = tt

-- a live key of sorted indices below dim, up to the bound
live_planned : (T : Tensors) (X g : ℕ) (J : List ℕ) → Ascending 0 J → AllBelow T.dim J → 0 < length J → 2 * g + length J ≤ X + 2 → live T.shape (key_of g J) ≡ true → IsPlanned T X (key_of g J)
unfolding live stable key_of euler
live_planned T X g J s b p h l =
    let u = and_parts (ltb 0 (2 * g + length J - 2)) (covers T.shape (key_of g J)) l in
    record { sorted = sorted_small 0 T.dim J s b; places = p; positive = ltb-true 0 (2 * g + length J - 2) u.0; within = omega arith; covered = u.1 }

live_level : (T : Tensors) (g : ℕ) (J : List ℕ) → live T.shape (key_of g J) ≡ true → 2 < 2 * g + length J
unfolding live stable key_of euler
live_level T g J l = let h = ltb-true 0 (2 * g + length J - 2) (and_parts (ltb 0 (2 * g + length J - 2)) (covers T.shape (key_of g J)) l).0 in omega arith

-- the terms of a key with Euler number up to X + 1 name keys that are planned up to X
module _ (T : Tensors) (X i g : ℕ) (e : List ℕ) (len : length e ≡ T.dim) (level : 2 * g + suc (total e) ≤ X + 3) where
  abbrev I : List ℕ
  I = indices_from 0 e

  abbrev Fine : Term → Type 0
  Fine t = Each (IsPlanned T X) (named t)

  up : Ascending 0 I
  up = ascending-indices 0 e

  small : AllBelow T.dim I
  small = all_below-indices T.dim 0 e (omega arith)

  places : length I ≡ total e
  places = length-indices 0 e

  b_fine : Each Fine (b_terms T i g I)
  unfolding b_terms row_b named
  b_fine =
      Each-each Fine _ (runs I) (Each-weaken _ _ (runs I) (λ jm st.
      Each-each Fine _ (row_b T i jm.0) (Each-keep _ _ (map (λ a. (a, T.B i jm.0 a)) (below T.dim)) (Each-map _ (λ a. (a, T.B i jm.0 a)) (below T.dim) (Each-below _ T.dim (λ a p t.
      Each-if_so Fine _ _ (λ l. (
        live_planned T X g (insert a (remove jm.0 I)) (ascending-insert 0 a (remove jm.0 I) (omega arith) (ascending-remove 0 jm.0 I up)) (all_below-insert T.dim a (remove jm.0 I) p (all_below-remove T.dim jm.0 I small))
            (omega (arith, length-insert a (remove jm.0 I))) (omega (arith, places, length-insert a (remove jm.0 I), length-remove jm.0 I st)) l,
        tt,
      ))))))) (runs_stand I))

  joined_fine : (a b : ℕ) (v : ℚ) → a < T.dim → b < T.dim → Each Fine (joined_terms T g I a b v)
  unfolding joined_terms named
  joined_fine a b v p q = Each-if_so Fine _ _ (λ l.
      let u = and_parts (ltb 0 g) (live T.shape (key_of (g - 1) (insert a (insert b I)))) l in
      let some : 0 < g = ltb-true 0 g u.0 in (
        live_planned T X (g - 1) (insert a (insert b I)) (ascending-insert 0 a (insert b I) (omega arith) (ascending-insert 0 b I (omega arith) up)) (all_below-insert T.dim a (insert b I) p (all_below-insert T.dim b I q small))
            (omega (arith, length-insert a (insert b I))) (omega (arith, places, length-insert a (insert b I), length-insert b I)) u.1,
        tt,
      ))

  product_fine : (a b : ℕ) (v : ℚ) → a < T.dim → b < T.dim → Each Fine (product_terms T g I a b v)
  unfolding product_terms named
  product_fine a b v p q =
      Each-each Fine _ (below (suc g)) (Each-below _ (suc g) (λ k h.
      Each-each Fine _ (splits I) (subst (Each (λ s. Each Fine (one k s))) (sym (splits-indices 0 e)) (Each-map _ (split_by 0 e) (pairs e) (Each-weaken (IsPair e) _ (pairs e) (λ pq w. at k h pq w) (pairs_are e))))))
    where
      one : ℕ → Split → List Term
      one k s = if_so (live T.shape (key_of k (insert a s.part)) && live T.shape (key_of (g - k) (insert b s.rest))) (Twice (eqb a b) v (whole s.ways) (key_of k (insert a s.part)) (key_of (g - k) (insert b s.rest)))

      at : (k : ℕ) → k < suc g → (pq : List ℕ × List ℕ) → IsPair e pq → Each Fine (one k (split_by 0 e pq))
      at k h pq w = Each-if_so Fine _ _ (λ l.
          let L = insert a (indices_from 0 pq.0) in
          let R = insert b (indices_from 0 pq.1) in
          let u = and_parts (live T.shape (key_of k L)) (live T.shape (key_of (g - k) R)) l in
          let x : length L ≡ suc (total pq.0) = length-insert a (indices_from 0 pq.0) ∙ ap suc (length-indices 0 pq.0) in
          let y : length R ≡ suc (total pq.1) = length-insert b (indices_from 0 pq.1) ∙ ap suc (length-indices 0 pq.1) in
          let t : total pq.0 + total pq.1 ≡ total e = w.totals in
          let lo : 2 < 2 * k + length L = live_level T k L u.0 in
          let hi : 2 < 2 * (g - k) + length R = live_level T (g - k) R u.1 in
          let wl : length pq.0 ≡ T.dim = w.left ∙ len in
          let wr : length pq.1 ≡ T.dim = w.right ∙ len in (
            live_planned T X k L (ascending-insert 0 a (indices_from 0 pq.0) (omega arith) (ascending-indices 0 pq.0)) (all_below-insert T.dim a (indices_from 0 pq.0) p (all_below-indices T.dim 0 pq.0 (omega arith))) (omega arith) (omega arith) u.0,
            (live_planned T X (g - k) R (ascending-insert 0 b (indices_from 0 pq.1) (omega arith) (ascending-indices 0 pq.1)) (all_below-insert T.dim b (indices_from 0 pq.1) q (all_below-indices T.dim 0 pq.1 (omega arith))) (omega arith) (omega arith) u.1, tt),
          ))

  c_fine : Each Fine (c_terms T i g I)
  unfolding c_terms row_c
  c_fine =
      Each-each Fine _ (row_c T i) (Each-keep _ _ (each (below T.dim) (λ a. map (λ b. (a, b, T.C i a b)) (below T.dim))) (Each-each _ _ (below T.dim) (Each-below _ T.dim (λ a p. Each-map _ (λ b. (a, b, T.C i a b)) (below T.dim) (Each-below _ T.dim (λ b q t.
      Each-append Fine (joined_terms T g I a b (T.C i a b)) (product_terms T g I a b (T.C i a b)) (joined_fine a b (T.C i a b) p q) (product_fine a b (T.C i a b) p q)))))))

  alone_0 : (J : List ℕ) → length J ≡ 2 → Each Fine (terms T i 0 J)
  unfolding terms named
  alone_0 J h = let w = two_items J h in subst (λ J. Each Fine (terms T i 0 J)) (sym w.2) (tt, tt)

  alone_1 : (J : List ℕ) → length J ≡ 0 → Each Fine (terms T i 1 J)
  unfolding terms named
  alone_1 J h = subst (λ J. Each Fine (terms T i 1 J)) (sym (no_items J h)) (tt, tt)

  terms_fine : Each Fine (terms T i g I)
  terms_fine = by (cases_eq g 0) (cases_eq (length I) 2) (cases_eq g 1) (cases_eq (length I) 0)
    where
      other : (g ≡ 0 → length I ≡ 2 → ⊥) → (g ≡ 1 → length I ≡ 0 → ⊥) → Each Fine (terms T i g I)
      other h k = subst (Each Fine) (sym (terms-other T i g I h k)) (Each-append Fine (b_terms T i g I) (c_terms T i g I) b_fine c_fine)

      by : (g ≡ 0) ⊎ (g ≡ 0 → ⊥) → (length I ≡ 2) ⊎ (length I ≡ 2 → ⊥) → (g ≡ 1) ⊎ (g ≡ 1 → ⊥) → (length I ≡ 0) ⊎ (length I ≡ 0 → ⊥) → Each Fine (terms T i g I)
      by (inl p) (inl q) r s = subst (λ g. Each Fine (terms T i g I)) (sym p) (alone_0 I q)
      by (inl p) (inr q) r s = other (λ a b. q b) (λ a b. absurd (omega arith))
      by (inr p) q (inl r) (inl s) = subst (λ g. Each Fine (terms T i g I)) (sym r) (alone_1 I s)
      by (inr p) q (inl r) (inr s) = other (λ a b. p a) (λ a b. s b)
      by (inr p) q (inr r) s = other (λ a b. p a) (λ a b. r a)

-- The terms of a key planned up to X + 1 name keys that are planned up to X.
pub named_below : (T : Tensors) (X : ℕ) (key : Key) (i : ℕ) → IsPlanned T (suc X) key → 0 < times i key.idx → Each (λ t. Each (IsPlanned T X) (named t)) (terms T i key.g (remove i key.idx))
unfolding euler
named_below T X key i p h = subst (λ K. Each (λ t. Each (IsPlanned T X) (named t)) (terms T i key.g K)) again (terms_fine T X i key.g (exponents T.dim J) (length-exponents T.dim J) level)
  where
    J : List ℕ
    J = remove i key.idx

    again : indices_from 0 (exponents T.dim J) ≡ J
    again = indices_again T.dim J (ascending-remove 0 i key.idx (ascending 0 T.dim key.idx p.sorted)) (all_below-remove T.dim i key.idx (plan.small 0 T.dim key.idx p.sorted))

    places : length key.idx ≡ suc (total (exponents T.dim J))
    places = length-remove i key.idx h ∙ ap suc (ap length (sym again) ∙ length-indices 0 (exponents T.dim J))

    level : 2 * key.g + suc (total (exponents T.dim J)) ≤ X + 3
    level = omega (arith, places, p.within)

-- ---- what stands in a list, and what a key rests on

stands_each : (P : Key → Type 0) (key : Key) (xs : List Key) → Each P xs → StandsIn key xs → P key
unfolding StandsIn
stands_each P key [] e h = absurd h
stands_each P key (x ∷ xs) e (inl s) = subst P (sym s) e.0
stands_each P key (x ∷ xs) e (inr h) = stands_each P key xs e.1 h

-- planned up to one less than the Euler number of the key
first_from : (T : Tensors) (X n : ℕ) (k key : Key) → euler_of key ≡ suc n → euler_of key ≤ X → IsPlanned T n k → ComesFirst T X k key
unfolding euler_of
first_from T X n k key e h p = record {
  planned = record { sorted = p.sorted; places = p.places; positive = p.positive; within = omega (arith, p.within); covered = p.covered };
  smaller = omega (arith, p.within);
}

own_level : (T : Tensors) (X n : ℕ) (key : Key) → IsPlanned T X key → euler_of key ≡ suc n → IsPlanned T (suc n) key
unfolding euler_of
own_level T X n key p e = record { sorted = p.sorted; places = p.places; positive = p.positive; within = omega (arith, e); covered = p.covered }

first_at : (T : Tensors) (X : ℕ) (key : Key) → IsPlanned T X key → (i : ℕ) → 0 < times i key.idx → (k : Key) → StandsIn k (each (terms T i key.g (remove i key.idx)) named) → ComesFirst T X k key
unfolding euler_of
first_at T X key p i h k s = by (euler_of key) refl
  where
    by : (n : ℕ) → euler_of key ≡ n → ComesFirst T X k key
    by zero e = absurd (omega (arith, p.positive, e))
    by (suc n) e = first_from T X n k key e p.within (stands_each (IsPlanned T n) k (each (terms T i key.g (remove i key.idx)) named) (Each-each (IsPlanned T n) named (terms T i key.g (remove i key.idx)) (named_below T n key i (own_level T X n key p e) h)) s)

need_first : (T : Tensors) (X : ℕ) (key : Key) → IsPlanned T X key → (k : Key) → StandsIn k (needs T key) → ComesFirst T X k key
unfolding needs
need_first T X key p k s = first_at T X key p (head_or 0 key.idx) (head_stands key.idx p.places) k s

rest_first : (T : Tensors) (X : ℕ) (key k : Key) → IsPlanned T X key → RestsOn T key k → ComesFirst T X k key
rest_first T X key k p (directly s) = need_first T X key p k s
rest_first T X key k p (through {b = b} s r) =
    let f = need_first T X key p b s in
    let g = rest_first T X b k f.planned r in
    record { planned = g.planned; smaller = omega (arith, f.smaller, g.smaller) }

pub needs_first : NeedsLaw
needs_first T X key p = record {
  terms = λ i h k s. first_at T X key p i h k s;
  needs = λ k s. need_first T X key p k s;
  rests = λ k r. rest_first T X key k p r;
}
