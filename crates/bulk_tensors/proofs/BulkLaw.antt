-- The tensors of a number: symmetric and graded, and which change is refused.
use Rattle.std.proofs.Common.{◌≡◌, ℕ, zero, suc, ◌+◌, ◌-◌, ◌<◌, ◌≤◌, ◌⊎◌, inl, inr, Bool, true, false, ◌&&◌, cond, eqb, refl, sym, ap, ap₂, subst, ◌∙◌, arith, ℤ, Some, None, Result, Ok, Err}
use Rattle.std.proofs.lemmas.Bool.{cases_lt}
use Rattle.airy_math.specs.Rational.{ℚ, ◌+ℚ◌, ◌*ℚ◌}
use Rattle.airy_math.specs.RationalLaws.{ring_q}
use Rattle.airy_math.specs.Sums.{when}
use Rattle.airy_math.specs.Shapes.{Keeps}
use Rattle.airy_math.specs.declared.Shape.{Shape}
use Rattle.airy_math.specs.declared.Shape.TheVariants.{All}
use Rattle.airy_math.specs.Tensors.{Tensors, SameEntries, IsSymmetric, IsGraded}
use Rattle.airy_math.specs.Jobs.{Bulk, IsSound}
use Rattle.bulk_tensors.specs.declared.slots.Gain.{Gain}
use Rattle.bulk_tensors.specs.Change.{gained, at_slot, amplitude, contracted, slot_by_slot, gains, changed, is_obtained}
use Rattle.bulk_tensors.specs.Bulk.{on_diagonal, diagonal, factor, after, bulk, then_refused, first_refused, bulk_refusal, NamesStep}
use Rattle.bulk_tensors.specs.declared.full_tensors.BulkErr.{BulkErr}
use Rattle.bulk_tensors.specs.declared.full_tensors.BulkErr.TheVariants.{Over}
use Rattle.bulk_tensors.proofs.ChangeLemmas.{gains_same, gains_obtained_same}
use Rattle.airy_math.proofs.SameNumbers.{same_trans}

-- ---- symmetric

four : (u a b c d : ℚ) → (a +ℚ u *ℚ b) +ℚ u *ℚ (c +ℚ u *ℚ d) ≡ (a +ℚ u *ℚ c) +ℚ u *ℚ (b +ℚ u *ℚ d)
four u a b c d = simp ring_q

-- the same change of both indices
twice_symmetric : (m : Gain) (G : ℕ → ℕ → ℚ) → ((j k : ℕ) → G j k ≡ G k j) → (j k : ℕ) → gained m (λ x. gained m (λ y. G y x) j) k ≡ gained m (λ x. gained m (λ y. G y x) k) j
unfolding gained
twice_symmetric m G h j k = by (eqb j m.to) (eqb k m.to)
  where
    u : ℚ
    u = m.factor

    f : ℕ
    f = m.from

    row : Bool → ℕ → ℕ → ℚ
    row b j x = cond b (G j x +ℚ u *ℚ G f x) (G j x)

    by : (bj bk : Bool) → cond bk (row bj j k +ℚ u *ℚ row bj j f) (row bj j k) ≡ cond bj (row bk k j +ℚ u *ℚ row bk k f) (row bk k j)
    by true true =
        four u (G j k) (G f k) (G j f) (G f f)
        ∙ ap₂ (λ a c. (a +ℚ u *ℚ c) +ℚ u *ℚ (G f k +ℚ u *ℚ G f f)) (h j k) (h j f)
        ∙ ap (λ b. (G k j +ℚ u *ℚ G f j) +ℚ u *ℚ (b +ℚ u *ℚ G f f)) (h f k)
    by true false = ap₂ (λ a b. a +ℚ u *ℚ b) (h j k) (h f k)
    by false true = ap₂ (λ a b. a +ℚ u *ℚ b) (h j k) (h j f)
    by false false = h j k

slots_symmetric : (l m : Gain) (F : ℕ → ℕ → ℕ → ℚ) → ((i j k : ℕ) → F i j k ≡ F i k j) → (i j k : ℕ) → slot_by_slot l m m F i j k ≡ slot_by_slot l m m F i k j
unfolding slot_by_slot at_slot
slots_symmetric l m F h i j k = twice_symmetric m (λ y x. gained l (λ z. F z y x) i) first j k
  where
    first : (y x : ℕ) → gained l (λ z. F z y x) i ≡ gained l (λ z. F z x y) i
    first y x = unfold gained in ap₂ (λ a b. cond (eqb i l.to) (a +ℚ l.factor *ℚ b) a) (h i y x) (h l.from y x)

diagonal_symmetric : (f : ℕ → ℚ) (i j k : ℕ) → on_diagonal f i j k ≡ on_diagonal f i k j
unfolding on_diagonal
diagonal_symmetric f i j k = ap (λ b. when b (f i)) (both (eqb i j) (eqb i k))
  where
    both : (a b : Bool) → (a && b) ≡ (b && a)
    both true true = refl
    both true false = refl
    both false true = refl
    both false false = refl

after_symmetric : (seed dim n : ℕ) → IsSymmetric (after seed dim n)
unfolding after changed gains diagonal
after_symmetric seed dim zero = record { A = diagonal_symmetric _; C = diagonal_symmetric _ }
after_symmetric seed dim (suc n) =
    let h = after_symmetric seed dim n in
    record { A = slots_symmetric _ _ (after seed dim n).A h.A; C = slots_symmetric _ _ (after seed dim n).C h.C }

-- ---- graded

pub after_dim : (seed dim n : ℕ) → (after seed dim n).dim ≡ dim
unfolding after changed gains diagonal
after_dim seed dim zero = refl
after_dim seed dim (suc n) = after_dim seed dim n

after_shape : (seed dim n : ℕ) → (after seed dim n).shape ≡ All
unfolding after changed gains diagonal
after_shape seed dim zero = refl
after_shape seed dim (suc n) = after_shape seed dim n

keeps_all : (s : Shape) (x y : ℤ) → s ≡ All → Keeps s x y
unfolding Keeps
keeps_all s x y e = subst (λ s. Keeps s x y) (sym e) tt

all_graded : (T : Tensors) → T.shape ≡ All → IsGraded T
all_graded T e = record {
  A = λ i j k. inr (keeps_all T.shape _ _ e);
  B = λ i j k. inr (keeps_all T.shape _ _ e);
  C = λ i j k. inr (keeps_all T.shape _ _ e);
  D = λ i. inr (keeps_all T.shape _ _ e);
}

pub bulk_symmetric : (seed dim : ℕ) → IsSymmetric (bulk seed dim)
unfolding bulk
bulk_symmetric seed dim = after_symmetric seed dim (dim - 1)

pub bulk_sound : (seed dim : ℕ) → IsSound (Bulk (bulk seed dim))
unfolding bulk IsSound
bulk_sound seed dim = (after_symmetric seed dim (dim - 1), all_graded (after seed dim (dim - 1)) (after_shape seed dim (dim - 1)))

-- ---- one change more

-- T stands for the tensors before the change, T' for those that it makes of T
pub after_next : (seed dim r : ℕ) (t : ℚ) (T T' : Tensors) → r + 1 < T.dim → t ≡ factor seed dim r → SameEntries T (after seed dim r) → SameEntries T' (changed r (r + 1) t T) → SameEntries T' (after seed dim (r + 1))
after_next seed dim r t T T' p e h h' = subst (λ n. SameEntries T' (after seed dim n)) one (unfold after in same_trans T' _ _ h' changes)
  where
    one : suc r ≡ r + 1
    one = omega arith

    changes : SameEntries (changed r (r + 1) t T) (changed r (suc r) (factor seed dim r) (after seed dim r))
    changes =
        subst (λ n. SameEntries (changed r (r + 1) t T) (changed r n (factor seed dim r) (after seed dim r))) (sym one)
        (subst (λ u. SameEntries (changed r (r + 1) t T) (changed r (r + 1) u (after seed dim r))) e
        (unfold changed amplitude contracted in gains_same T (after seed dim r) _ _ (omega arith) p h))

pub refused_next : (seed dim r : ℕ) (t : ℚ) (T : Tensors) → r + 1 < T.dim → t ≡ factor seed dim r → SameEntries T (after seed dim r) → first_refused seed dim r ≡ None → first_refused seed dim (r + 1) ≡ cond (is_obtained r (r + 1) t T) None (Some (r + 1))
unfolding first_refused then_refused
refused_next seed dim r t T p e h none =
    ap (first_refused seed dim) (sym one)
    ∙ rw none (ap (λ n. cond (is_obtained r n (factor seed dim r) (after seed dim r)) None (Some n)) one)
    ∙ ap (λ b. cond b None (Some (r + 1))) (sym same)
  where
    one : suc r ≡ r + 1
    one = omega arith

    same : is_obtained r (r + 1) t T ≡ is_obtained r (r + 1) (factor seed dim r) (after seed dim r)
    same =
        unfold is_obtained amplitude contracted in gains_obtained_same T (after seed dim r) _ _ (omega arith) p p h
        ∙ ap (λ u. is_obtained r (r + 1) u (after seed dim r)) e

pub refused_stays : (seed dim q n m : ℕ) → n ≤ m → first_refused seed dim n ≡ Some q → first_refused seed dim m ≡ Some q
unfolding first_refused then_refused
refused_stays seed dim q n zero h e = let zero_is : 0 ≡ n = omega arith in ap (first_refused seed dim) zero_is ∙ e
refused_stays seed dim q n (suc m) h e = by (cases_lt m n) (λ k. refused_stays seed dim q n m k e)
  where
    by : (m < n) ⊎ (n ≤ m) → (n ≤ m → first_refused seed dim m ≡ Some q) → first_refused seed dim (suc m) ≡ Some q
    by (inr k) stays = rw (stays k) refl
    by (inl k) stays = let next : suc m ≡ n = omega arith in ap (first_refused seed dim) next ∙ e

-- ---- the answer of a change

pub was_obtained : (b : Bool) (q : ℕ) → ◌≡◌ {A = Result Unit BulkErr} (Ok tt) (cond b (Ok tt) (Err (Over q))) → b ≡ true
was_obtained true q h = refl
was_obtained false q h = cc

not_obtained : (b : Bool) (e : BulkErr) (q : ℕ) → ◌≡◌ {A = Result Unit BulkErr} (Err e) (cond b (Ok tt) (Err (Over q))) → (b ≡ false) × (e ≡ Over q)
not_obtained true e q h = cc
not_obtained false e q h = (refl, cc)

-- an error names the first change that isn't obtained
pub names_change : (seed dim r : ℕ) (t : ℚ) (T : Tensors) (e : BulkErr) → r + 1 < T.dim → r + 1 ≤ dim - 1 → t ≡ factor seed dim r → SameEntries T (after seed dim r) → first_refused seed dim r ≡ None → ◌≡◌ {A = Result Unit BulkErr} (Err e) (cond (is_obtained r (r + 1) t T) (Ok tt) (Err (Over (r + 1)))) → NamesStep e (bulk_refusal seed dim)
unfolding NamesStep bulk_refusal
names_change seed dim r t T e p q f h none over =
    let it = not_obtained (is_obtained r (r + 1) t T) e (r + 1) over in
    let refused = refused_next seed dim r t T p f h none ∙ ap (λ b. cond b None (Some (r + 1))) it.0 in
    subst (λ e. NamesStep e (first_refused seed dim (dim - 1))) (sym it.1) (refused_stays seed dim (r + 1) (r + 1) (dim - 1) q refused)
