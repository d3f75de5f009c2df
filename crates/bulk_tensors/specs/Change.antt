-- Changes of basis: F'[..s..] = F[..s..] + t F[..r..] for the amplitudes, in each place, and what that makes of the tensors.
use Prim.Native.Nat.{ℕ, zero, suc}
use mathlib.Core.Bool.{Bool, true, ◌&&◌, cond}
use mathlib.Core.List.{List}
use lib.Dec.{eqb}
use Rattle.std.specs.Prelude.{Option, Some}
use Rattle.std.specs.Option.{is_some}
use Rattle.airy_math.specs.Rational.{ℚ, ◌+ℚ◌, ◌*ℚ◌, neg_ℚ}
use Rattle.airy_math.specs.Obtained.{both_obtained, obtained_sum, obtained_product}
use Rattle.airy_math.specs.Tensors.{Tensors}
use Rattle.bulk_tensors.specs.Full.{entry, SameBelow}
use Rattle.bulk_tensors.specs.declared.slots.Slot.{Slot}
use Rattle.bulk_tensors.specs.declared.slots.Slot.TheVariants.{First, Second, Third}
use Rattle.bulk_tensors.specs.declared.slots.Gain.{Gain}

-- At an index `to` the entry gains a multiple of the one at the index `from`; the others stay.
unfoldable pub gained : Gain → (ℕ → ℚ) → ℕ → ℚ
gained m f x = cond (eqb x m.to) (f x +ℚ m.factor *ℚ f m.from) (f x)

-- the new entry at the index x where the product and then the sum are obtained, from the old one and the one at `from`
unfoldable pub obtained_entry : Gain → ℕ → ℚ → ℚ → Option ℚ
obtained_entry m x old other = cond (eqb x m.to) (both_obtained obtained_sum (Some old) (obtained_product m.factor other)) (Some old)

-- at each index
unfoldable pub obtained_gained : Gain → (ℕ → ℚ) → ℕ → Option ℚ
obtained_gained m f x = obtained_entry m x (f x) (f m.from)

-- a change of the index at one slot, the other two as they are
unfoldable pub at_slot : {A : Type 0} → Slot → ((ℕ → ℚ) → ℕ → A) → (ℕ → ℕ → ℕ → ℚ) → ℕ → ℕ → ℕ → A
at_slot First change F i j k = change (λ x. F x j k) i
at_slot Second change F i j k = change (λ x. F i x k) j
at_slot Third change F i j k = change (λ x. F i j x) k

-- an amplitude slot: the new entry at s is the old one at s plus t times the old one at r
unfoldable pub amplitude : ℕ → ℕ → ℚ → Gain
amplitude r s t = record { to = s; from = r; factor = t }

-- a contracted slot: the new entry at r is the old one at r minus t times the old one at s
unfoldable pub contracted : ℕ → ℕ → ℚ → Gain
contracted r s t = record { to = r; from = s; factor = neg_ℚ t }

-- all three slots, from left to right
unfoldable pub slot_by_slot : Gain → Gain → Gain → (ℕ → ℕ → ℕ → ℚ) → ℕ → ℕ → ℕ → ℚ
slot_by_slot l m n F = at_slot Third (gained n) (at_slot Second (gained m) (at_slot First (gained l) F))

-- the new entries are the old ones with all three slots changed, at indices below dim
abbrev pub IsChanged : ℕ → Gain → Gain → Gain → List ℚ → List ℚ → Type 0
IsChanged dim l m n old new = SameBelow dim (entry new) (slot_by_slot l m n (entry old))

-- The tensors with all slots changed. The slots of A, the first two of B, the first of C and the one of D are amplitude slots,
-- the last of B and the last two of C contracted ones.
unfoldable pub gains : Gain → Gain → Tensors → Tensors
gains a c T = record T { A = slot_by_slot a a a T.A; B = slot_by_slot a a c T.B; C = slot_by_slot a c c T.C; D = gained a T.D }

-- the tensors after the change (r, s, t)
unfoldable pub changed : ℕ → ℕ → ℚ → Tensors → Tensors
changed r s t T = gains (amplitude r s t) (contracted r s t) T

-- ---- whether each step is obtained

-- f holds of each number below n
unfoldable pub all_below : ℕ → (ℕ → Bool) → Bool
all_below zero f = true
all_below (suc n) f = all_below n f && f n

-- of one slot, at all indices below dim
unfoldable pub slot_obtained : ℕ → Slot → Gain → (ℕ → ℕ → ℕ → ℚ) → Bool
slot_obtained dim slot m F = all_below dim λ i. all_below dim λ j. all_below dim λ k. is_some (at_slot slot (obtained_gained m) F i j k)

-- of all three slots, each on what the slots before it made
unfoldable pub slots_obtained : ℕ → Gain → Gain → Gain → (ℕ → ℕ → ℕ → ℚ) → Bool
slots_obtained dim l m n F =
    slot_obtained dim First l F
    && slot_obtained dim Second m (at_slot First (gained l) F)
    && slot_obtained dim Third n (at_slot Second (gained m) (at_slot First (gained l) F))

-- of A, B and C
unfoldable pub parts_obtained : ℕ → Gain → Gain → (ℕ → ℕ → ℕ → ℚ) → (ℕ → ℕ → ℕ → ℚ) → (ℕ → ℕ → ℕ → ℚ) → Bool
parts_obtained dim a c A B C = slots_obtained dim a a a A && slots_obtained dim a a c B && slots_obtained dim a c c C

-- of all tensors
unfoldable pub gains_obtained : Gain → Gain → Tensors → Bool
gains_obtained a c T = parts_obtained T.dim a c T.A T.B T.C && is_some (obtained_gained a T.D a.to)

-- whether each product and each sum of the change (r, s, t) is obtained
unfoldable pub is_obtained : ℕ → ℕ → ℚ → Tensors → Bool
is_obtained r s t T = gains_obtained (amplitude r s t) (contracted r s t) T
