-- Changes of basis of tensors that agree below dim, and when a change is obtained.
use Rattle.std.proofs.Common.{◌≡◌, ℕ, zero, suc, ◌<◌, ◌⊎◌, inl, inr, Bool, true, false, ◌&&◌, cond, eqb, refl, sym, ap, ap₂, ◌∙◌, arith, Option, Some, None}
use Rattle.std.specs.Option.{is_some}
use Rattle.std.proofs.lemmas.Bool.{cases_eq}
use Rattle.airy_math.specs.Rational.{ℚ, ◌+ℚ◌, ◌*ℚ◌}
use Rattle.airy_math.specs.Obtained.{both_obtained, obtained_sum, obtained_product}
use Rattle.airy_math.specs.Tensors.{Tensors, SameEntries}
use Rattle.airy_math.proofs.ObtainedLaw.{sum_exact, product_exact}
use Rattle.bulk_tensors.specs.declared.slots.Slot.{Slot}
use Rattle.bulk_tensors.specs.declared.slots.Slot.TheVariants.{First, Second, Third}
use Rattle.bulk_tensors.specs.declared.slots.Gain.{Gain}
use Rattle.bulk_tensors.specs.Full.{SameBelow}
use Rattle.bulk_tensors.specs.Change.{gained, obtained_entry, obtained_gained, at_slot, slot_by_slot, gains, all_below, slot_obtained, slots_obtained, parts_obtained, gains_obtained}
use Rattle.std.proofs.Math.Bool.{and-false}

-- ---- columns that agree below n

gained_same : (m : Gain) (n : ℕ) (f g : ℕ → ℚ) → m.from < n → ((x : ℕ) → x < n → f x ≡ g x) → (x : ℕ) → x < n → gained m f x ≡ gained m g x
unfolding gained
gained_same m n f g p h x q = ap₂ (λ a b. cond (eqb x m.to) (a +ℚ m.factor *ℚ b) a) (h x q) (h m.from p)

obtained_gained_same : (m : Gain) (n : ℕ) (f g : ℕ → ℚ) → m.from < n → ((x : ℕ) → x < n → f x ≡ g x) → (x : ℕ) → x < n → obtained_gained m f x ≡ obtained_gained m g x
unfolding obtained_gained
obtained_gained_same m n f g p h x q = ap₂ (obtained_entry m x) (h x q) (h m.from p)

at_slot_same : {A : Type 0} (slot : Slot) (n : ℕ) (change : (ℕ → ℚ) → ℕ → A) (F G : ℕ → ℕ → ℕ → ℚ) → ((f g : ℕ → ℚ) → ((x : ℕ) → x < n → f x ≡ g x) → (x : ℕ) → x < n → change f x ≡ change g x) → SameBelow n F G → (i j k : ℕ) → i < n → j < n → k < n → at_slot slot change F i j k ≡ at_slot slot change G i j k
unfolding at_slot SameBelow
at_slot_same First n change F G c h i j k p q r = c (λ x. F x j k) (λ x. G x j k) (λ x s. h x j k s q r) i p
at_slot_same Second n change F G c h i j k p q r = c (λ x. F i x k) (λ x. G i x k) (λ x s. h i x k p s r) j q
at_slot_same Third n change F G c h i j k p q r = c (λ x. F i j x) (λ x. G i j x) (λ x s. h i j x p q s) k r

pub slot_same : (slot : Slot) (n : ℕ) (m : Gain) (F G : ℕ → ℕ → ℕ → ℚ) → m.from < n → SameBelow n F G → SameBelow n (at_slot slot (gained m) F) (at_slot slot (gained m) G)
slot_same slot n m F G p h = unfold SameBelow in at_slot_same slot n (gained m) F G (λ f g. gained_same m n f g p) h

pub slot_by_slot_same : (n : ℕ) (l m k : Gain) (F G : ℕ → ℕ → ℕ → ℚ) → l.from < n → m.from < n → k.from < n → SameBelow n F G → SameBelow n (slot_by_slot l m k F) (slot_by_slot l m k G)
unfolding slot_by_slot
slot_by_slot_same n l m k F G p q r h = slot_same Third n k _ _ r (slot_same Second n m _ _ q (slot_same First n l F G p h))

-- ---- tests at all indices

all_same : (n : ℕ) (f g : ℕ → Bool) → ((i : ℕ) → i < n → f i ≡ g i) → all_below n f ≡ all_below n g
unfolding all_below
all_same zero f g h = refl
all_same (suc n) f g h = ap₂ ◌&&◌ (all_same n f g (λ i p. h i (omega arith))) (h n (omega arith))

all_true : (n : ℕ) (f : ℕ → Bool) → ((i : ℕ) → i < n → f i ≡ true) → all_below n f ≡ true
unfolding all_below
all_true zero f h = refl
all_true (suc n) f h = ap₂ ◌&&◌ (all_true n f (λ i p. h i (omega arith))) (h n (omega arith))

all_false : (n : ℕ) (f : ℕ → Bool) (i : ℕ) → i < n → f i ≡ false → all_below n f ≡ false
unfolding all_below
all_false zero f i p h = absurd (omega arith)
all_false (suc n) f i p h = by (cases_eq i n) (λ q. all_false n f i q h)
  where
    by : (i ≡ n) ⊎ (i ≡ n → ⊥) → (i < n → all_below n f ≡ false) → (all_below n f && f n) ≡ false
    by (inl e) below = ap (λ b. all_below n f && b) (ap f (sym e) ∙ h) ∙ and-false (all_below n f)
    by (inr e) below = ap (λ b. b && f n) (below (omega arith))

pub slot_obtained_same : (slot : Slot) (n : ℕ) (m : Gain) (F G : ℕ → ℕ → ℕ → ℚ) → m.from < n → SameBelow n F G → slot_obtained n slot m F ≡ slot_obtained n slot m G
unfolding slot_obtained
slot_obtained_same slot n m F G p h =
    all_same n _ _ λ i q. all_same n _ _ λ j r. all_same n _ _ λ k s. ap is_some (at_slot_same slot n (obtained_gained m) F G (λ f g. obtained_gained_same m n f g p) h i j k q r s)

pub slot_true : (slot : Slot) (n : ℕ) (m : Gain) (F : ℕ → ℕ → ℕ → ℚ) → ((i j k : ℕ) → i < n → j < n → k < n → is_some (at_slot slot (obtained_gained m) F i j k) ≡ true) → slot_obtained n slot m F ≡ true
unfolding slot_obtained
slot_true slot n m F h = all_true n _ λ i p. all_true n _ λ j q. all_true n _ λ k r. h i j k p q r

pub slot_false : (slot : Slot) (n : ℕ) (m : Gain) (F : ℕ → ℕ → ℕ → ℚ) (i j k : ℕ) → i < n → j < n → k < n → at_slot slot (obtained_gained m) F i j k ≡ None → slot_obtained n slot m F ≡ false
unfolding slot_obtained
slot_false slot n m F i j k p q r h = all_false n _ i p (all_false n _ j q (all_false n _ k r (ap is_some h)))

pub slots_obtained_same : (n : ℕ) (l m k : Gain) (F G : ℕ → ℕ → ℕ → ℚ) → l.from < n → m.from < n → k.from < n → SameBelow n F G → slots_obtained n l m k F ≡ slots_obtained n l m k G
unfolding slots_obtained
slots_obtained_same n l m k F G p q r h =
    let one = slot_same First n l F G p h in
    let two = slot_same Second n m _ _ q one in
    ap₂ ◌&&◌ (ap₂ ◌&&◌ (slot_obtained_same First n l F G p h) (slot_obtained_same Second n m _ _ q one)) (slot_obtained_same Third n k _ _ r two)

-- ---- what is obtained is exact

both_exact : (x u : ℚ) (p : Option ℚ) (v : ℚ) → ((w : ℚ) → p ≡ Some w → w ≡ u) → both_obtained obtained_sum (Some x) p ≡ Some v → v ≡ x +ℚ u
unfolding both_obtained
both_exact x u None v h e = cc
both_exact x u (Some w) v h e = sum_exact x w v e ∙ ap (λ z. x +ℚ z) (h w refl)

pub column_exact : (m : Gain) (f : ℕ → ℚ) (x : ℕ) (v : ℚ) → obtained_gained m f x ≡ Some v → v ≡ gained m f x
unfolding obtained_gained obtained_entry gained
column_exact m f x v e = by (eqb x m.to) e
  where
    by : (t : Bool) → cond t (both_obtained obtained_sum (Some (f x)) (obtained_product m.factor (f m.from))) (Some (f x)) ≡ Some v → v ≡ cond t (f x +ℚ m.factor *ℚ f m.from) (f x)
    by true e = both_exact (f x) (m.factor *ℚ f m.from) (obtained_product m.factor (f m.from)) v (product_exact m.factor (f m.from)) e
    by false e = cc

pub slot_exact : (slot : Slot) (m : Gain) (F : ℕ → ℕ → ℕ → ℚ) (i j k : ℕ) (v : ℚ) → at_slot slot (obtained_gained m) F i j k ≡ Some v → v ≡ at_slot slot (gained m) F i j k
unfolding at_slot
slot_exact First m F i j k v e = column_exact m (λ x. F x j k) i v e
slot_exact Second m F i j k v e = column_exact m (λ x. F i x k) j v e
slot_exact Third m F i j k v e = column_exact m (λ x. F i j x) k v e

-- ---- whole tensors

pub gains_same : (T T' : Tensors) (a c : Gain) → a.from < T.dim → c.from < T.dim → SameEntries T T' → SameEntries (gains a c T) (gains a c T')
unfolding gains
gains_same T T' a c p q h = record {
  dim = h.dim;
  shape = h.shape;
  A = unfold SameBelow in slot_by_slot_same T.dim a a a T.A T'.A p p p h.A;
  B = unfold SameBelow in slot_by_slot_same T.dim a a c T.B T'.B p p q h.B;
  C = unfold SameBelow in slot_by_slot_same T.dim a c c T.C T'.C p q q h.C;
  D = gained_same a T.dim T.D T'.D p h.D;
}

pub gains_obtained_same : (T T' : Tensors) (a c : Gain) → a.from < T.dim → c.from < T.dim → a.to < T.dim → SameEntries T T' → gains_obtained a c T ≡ gains_obtained a c T'
unfolding gains_obtained parts_obtained
gains_obtained_same T T' a c p q r h =
    let A = slots_obtained_same T.dim a a a T.A T'.A p p p (unfold SameBelow in h.A) in
    let B = slots_obtained_same T.dim a a c T.B T'.B p p q (unfold SameBelow in h.B) in
    let C = slots_obtained_same T.dim a c c T.C T'.C p q q (unfold SameBelow in h.C) in
    let D = ap is_some (obtained_gained_same a T.dim T.D T'.D p h.D a.to r) in
    ap₂ ◌&&◌ (ap₂ ◌&&◌ (ap₂ ◌&&◌ A B) C) D
    ∙ ap (λ n. slots_obtained n a a a T'.A && slots_obtained n a a c T'.B && slots_obtained n a c c T'.C && is_some (obtained_gained a T'.D a.to)) h.dim

-- ---- one slot after another

pub same_then : (n : ℕ) (F G H : ℕ → ℕ → ℕ → ℚ) → SameBelow n F G → SameBelow n G H → SameBelow n F H
unfolding SameBelow
same_then n F G H g h = λ i j k p q r. g i j k p q r ∙ h i j k p q r

pub first_refuses : (n : ℕ) (l m k : Gain) (F : ℕ → ℕ → ℕ → ℚ) → slot_obtained n First l F ≡ false → slots_obtained n l m k F ≡ false
unfolding slots_obtained
first_refuses n l m k F one = rw one refl

pub second_refuses : (n : ℕ) (l m k : Gain) (F G : ℕ → ℕ → ℕ → ℚ) → m.from < n → slot_obtained n First l F ≡ true → SameBelow n G (at_slot First (gained l) F) → slot_obtained n Second m G ≡ false → slots_obtained n l m k F ≡ false
unfolding slots_obtained
second_refuses n l m k F G p one g two = let two' = sym (slot_obtained_same Second n m G (at_slot First (gained l) F) p g) ∙ two in rw (one, two') refl

pub third_decides : (n : ℕ) (l m k : Gain) (F G H : ℕ → ℕ → ℕ → ℚ) → m.from < n → k.from < n → slot_obtained n First l F ≡ true → SameBelow n G (at_slot First (gained l) F) → slot_obtained n Second m G ≡ true → SameBelow n H (at_slot Second (gained m) G) → slot_obtained n Third k H ≡ slots_obtained n l m k F
unfolding slots_obtained
third_decides n l m k F G H p q one g two h =
    let two' = sym (slot_obtained_same Second n m G (at_slot First (gained l) F) p g) ∙ two in
    let H' = same_then n H (at_slot Second (gained m) G) _ h (slot_same Second n m G (at_slot First (gained l) F) p g) in
    rw (one, two') (slot_obtained_same Third n k H (at_slot Second (gained m) (at_slot First (gained l) F)) q H')

pub three_slots : (n : ℕ) (l m k : Gain) (F G H K : ℕ → ℕ → ℕ → ℚ) → m.from < n → k.from < n → SameBelow n G (at_slot First (gained l) F) → SameBelow n H (at_slot Second (gained m) G) → SameBelow n K (at_slot Third (gained k) H) → SameBelow n K (slot_by_slot l m k F)
unfolding slot_by_slot
three_slots n l m k F G H K p q g h kk =
    let H' = same_then n H (at_slot Second (gained m) G) _ h (slot_same Second n m G (at_slot First (gained l) F) p g) in
    same_then n K (at_slot Third (gained k) H) _ kk (slot_same Third n k H (at_slot Second (gained m) (at_slot First (gained l) F)) q H')
