-- Lists of 512 entries.
use Rattle.std.proofs.Common.{◌≡◌, ℕ, ◌+◌, ◌*◌, ◌/◌, ◌%◌, ◌<◌, ◌≤◌, ◌⊎◌, inl, inr, Bool, true, false, cond, eqb, List, get_or, length, refl, sym, ap, ap₂, ◌∙◌, arith, set, Option, Some, get_or-set_same, get_or-set_other}
use Rattle.std.specs.Option.{is_some}
use Rattle.std.proofs.lemmas.Bool.{cases_eq}
use Rattle.std.proofs.lemmas.Bool.Decides.{nat_tests}
use Rattle.std.proofs.lemmas.List.{get_or_default}
use Rattle.airy_math.specs.Rational.{ℚ, ◌+ℚ◌, ◌*ℚ◌}
use Rattle.airy_math.specs.RationalLaws.{0ℚ}
use Rattle.bulk_tensors.specs.declared.slots.Slot.{Slot}
use Rattle.bulk_tensors.specs.declared.slots.Gain.{Gain}
use Rattle.bulk_tensors.specs.Full.{entry, SameBelow}
use Rattle.bulk_tensors.specs.Change.{gained, obtained_entry, obtained_gained, at_slot, slot_obtained}
use Rattle.bulk_tensors.proofs.ChangeLemmas.{slot_true, slot_exact, column_exact}

pub entry-set_same : (l : List ℚ) (p : ℕ) (v : ℚ) (i j k : ℕ) → p < length l → 64 * i + 8 * j + k ≡ p → entry (set l p v) i j k ≡ v
unfolding entry
entry-set_same l p v i j k h e = ap (λ n. get_or (set l p v) n 0ℚ) e ∙ get_or-set_same l p v 0ℚ h

pub entry-set_other : (l : List ℚ) (p : ℕ) (v : ℚ) (i j k : ℕ) → (64 * i + 8 * j + k ≡ p → ⊥) → entry (set l p v) i j k ≡ entry l i j k
unfolding entry
entry-set_other l p v i j k h = get_or-set_other l p (64 * i + 8 * j + k) v 0ℚ h

-- ---- a walk over all places that makes the entries of f

-- the places before p hold what f obtains there
abbrev pub Walked : ℕ → ℕ → (ℕ → ℕ → ℕ → Option ℚ) → (ℕ → ℕ → ℕ → ℚ) → Type 0
Walked dim p f F = (i j k : ℕ) → i < dim → j < dim → k < dim → 64 * i + 8 * j + k < p → f i j k ≡ Some (F i j k)

pub walked_next : (dim p : ℕ) (f : ℕ → ℕ → ℕ → Option ℚ) (l l' : List ℚ) (v : ℚ) → dim ≤ 8 → Walked dim p f (entry l) → f (p / 64) (p / 8 % 8) (p % 8) ≡ Some v → l' ≡ set l (64 * (p / 64) + 8 * (p / 8 % 8) + p % 8) v → entry l' (p / 64) (p / 8 % 8) (p % 8) ≡ v → Walked dim (p + 1) f (entry l')
walked_next dim p f l l' v most walked obtained left here = λ i j k a b c q. by i j k a b c q (cases_eq (64 * i + 8 * j + k) p)
  where
    by : (i j k : ℕ) → i < dim → j < dim → k < dim → 64 * i + 8 * j + k < p + 1 → (64 * i + 8 * j + k ≡ p) ⊎ (64 * i + 8 * j + k ≡ p → ⊥) → f i j k ≡ Some (entry l' i j k)
    by i j k a b c q (inl e) =
        let first : i ≡ p / 64 = omega arith in
        let second : j ≡ p / 8 % 8 = omega arith in
        let third : k ≡ p % 8 = omega arith in
        rw (first, second, third) (obtained ∙ ap Some (sym here))
    by i j k a b c q (inr e) = walked i j k a b c (omega arith) ∙ ap Some (sym (ap (λ m. entry m i j k) left ∙ entry-set_other l _ v i j k (λ x. e (omega arith))))

pub walked_skip : (dim p : ℕ) (f : ℕ → ℕ → ℕ → Option ℚ) (F : ℕ → ℕ → ℕ → ℚ) → dim ≤ 8 → (p / 64 < dim → p / 8 % 8 < dim → p % 8 < dim → ⊥) → Walked dim p f F → Walked dim (p + 1) f F
walked_skip dim p f F most none walked = λ i j k a b c q. by i j k a b c q (cases_eq (64 * i + 8 * j + k) p)
  where
    by : (i j k : ℕ) → i < dim → j < dim → k < dim → 64 * i + 8 * j + k < p + 1 → (64 * i + 8 * j + k ≡ p) ⊎ (64 * i + 8 * j + k ≡ p → ⊥) → f i j k ≡ Some (F i j k)
    by i j k a b c q (inl e) = absurd (none (omega arith) (omega arith) (omega arith))
    by i j k a b c q (inr e) = walked i j k a b c (omega arith)

-- at the end
pub walked_obtained : (dim : ℕ) (slot : Slot) (m : Gain) (G F : ℕ → ℕ → ℕ → ℚ) → dim ≤ 8 → Walked dim 512 (at_slot slot (obtained_gained m) G) F → slot_obtained dim slot m G ≡ true
walked_obtained dim slot m G F most walked = slot_true slot dim m G (λ i j k a b c. ap is_some (walked i j k a b c (omega arith)))

pub walked_same : (dim : ℕ) (slot : Slot) (m : Gain) (G F : ℕ → ℕ → ℕ → ℚ) → dim ≤ 8 → Walked dim 512 (at_slot slot (obtained_gained m) G) F → SameBelow dim F (at_slot slot (gained m) G)
unfolding SameBelow
walked_same dim slot m G F most walked = λ i j k a b c. slot_exact slot m G i j k (F i j k) (walked i j k a b c (omega arith))

-- ---- one list of entries

pub list_entry : (m : Gain) (d : List ℚ) (x y : ℚ) → m.to < length d → m.from < length d → obtained_entry m m.to (get_or d m.to x) (get_or d m.from y) ≡ obtained_gained m (λ i. get_or d i 0ℚ) m.to
unfolding obtained_gained
list_entry m d x y p q = ap₂ (obtained_entry m m.to) (get_or_default d m.to x 0ℚ p) (get_or_default d m.from y 0ℚ q)

pub list_gained : (m : Gain) (d : List ℚ) (v : ℚ) → m.to < length d → obtained_gained m (λ i. get_or d i 0ℚ) m.to ≡ Some v → (i : ℕ) → get_or (set d m.to v) i 0ℚ ≡ gained m (λ i. get_or d i 0ℚ) i
list_gained m d v p e i = by (cases_eq i m.to)
  where
    f : ℕ → ℚ
    f i = get_or d i 0ℚ

    stays : (b : Bool) → b ≡ false → (y : ℚ) → f i ≡ cond b y (f i)
    stays true h y = cc
    stays false h y = refl

    by : (i ≡ m.to) ⊎ (i ≡ m.to → ⊥) → get_or (set d m.to v) i 0ℚ ≡ gained m f i
    by (inl h) = ap (λ n. get_or (set d m.to v) n 0ℚ) h ∙ get_or-set_same d m.to v 0ℚ p ∙ column_exact m f m.to v e ∙ ap (gained m f) (sym h)
    by (inr h) = get_or-set_other d m.to i v 0ℚ h ∙ unfold gained in stays (eqb i m.to) (grind (arith, nat_tests)) (f i +ℚ m.factor *ℚ f m.from)
