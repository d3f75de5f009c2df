-- The sums that a shape covers, as a window.
use Rattle.std.proofs.Common.{◌≡◌, ℕ, suc, ◌+◌, ◌*◌, ◌<◌, ◌≤◌, true, refl, arith, ℤ, pos, negsuc, ◌+ℤ◌, ◌-ℤ◌, ◌*ℤ◌, ◌≤ℤ◌, ◌<ℤ◌, length}
use Rattle.index_lists.proofs.Words.{unsigned_abs, le_z, ints, eq_z, law_number, per_n, Shape, All, Exact, AtMost, letter_of, natural, Key, total, IsSmallLaw, is_in}
use Rattle.std.proofs.lemmas.Int.{unsigned_abs-mul}
use Rattle.airy_math.specs.Shapes.{per_g}
use Rattle.airy_math.specs.declared.Law.{Law}
use Rattle.airy_math.specs.Cuts.{room, law_at}
use Rattle.airy_math.proofs.IntLemmas.{unsigned_abs-sum}

pub only_at : (z : ℤ) (n : ℕ) → z ≡ pos n → (s : ℕ) → eq_z (pos s) z ≡ is_in (record { low = n; high = n }) s
unfolding eq_z is_in
only_at z n e s = rw e (grind arith)

pub only_below : (z : ℤ) (s : ℕ) → z <ℤ pos 0 → eq_z (pos s) z ≡ is_in (record { low = 1; high = 0 }) s
unfolding eq_z is_in
only_below z s h = grind (arith, ints)

pub only_above : (z : ℤ) (s : ℕ) → s < 65536 → pos 65535 <ℤ z → eq_z (pos s) z ≡ is_in (record { low = 1; high = 0 }) s
unfolding eq_z is_in
only_above z s p h = grind (arith, ints)

pub as_natural : (z y : ℤ) → pos 0 ≤ℤ z → y ≡ z → z ≡ pos (unsigned_abs y)
as_natural (pos n) y h e = rw e refl
as_natural (negsuc n) y h e = absurd (omega (arith, ints))

pub up_to_at : (z : ℤ) (n s : ℕ) → z ≡ pos n → le_z (pos s) z ≡ is_in (record { low = 0; high = n }) s
unfolding is_in
up_to_at z n s e = rw e (grind arith)

pub up_to_most : (z : ℤ) (s : ℕ) → s < 65536 → pos 65535 <ℤ z → le_z (pos s) z ≡ is_in (record { low = 0; high = 65535 }) s
unfolding is_in
up_to_most z s h p = grind (arith, ints)

pub up_to_none : (z : ℤ) (s : ℕ) → z <ℤ pos 0 → le_z (pos s) z ≡ is_in (record { low = 1; high = 0 }) s
unfolding is_in
up_to_none z s p = grind (arith, ints)

pub all_in : (s : ℕ) → s < 65536 → true ≡ is_in (record { low = 0; high = 65535 }) s
unfolding is_in
all_in s h = grind arith

-- ---- the letter's room

abs_less_one : (g : ℕ) → unsigned_abs (pos g -ℤ pos 1) ≤ suc g
abs_less_one g = omega (arith, ints)

abs_small : (a : ℤ) → negsuc 98 ≤ℤ a → a ≤ℤ pos 99 → unsigned_abs a ≤ 99
abs_small a p q = omega (arith, ints)

bounded : (a x g : ℕ) → a ≤ 99 → x ≤ g → a * x ≤ 99 * g
bounded a x g p q = grind arith

product_small : (a x : ℤ) (g : ℕ) → negsuc 98 ≤ℤ a → a ≤ℤ pos 99 → unsigned_abs x ≤ g → unsigned_abs (a *ℤ x) ≤ 99 * g
product_small a x g p q h = let e = unsigned_abs-mul a x in omega (arith, e, bounded (unsigned_abs a) (unsigned_abs x) g (abs_small a p q) h)

pub law_small : (l : Law) (g n : ℕ) → IsSmallLaw (AtMost l) → unsigned_abs (law_number l g n) ≤ 99 * suc g + 99 * n
unfolding IsSmallLaw law_number
law_small l g n h =
    let by_genus = product_small l.per_g (pos g -ℤ pos 1) (suc g) h.0 h.1 (abs_less_one g) in
    let by_places = product_small l.per_n (pos n) n h.2 h.3 (omega arith) in
    omega (arith, by_genus, by_places, unsigned_abs-sum (l.per_g *ℤ (pos g -ℤ pos 1)) (l.per_n *ℤ pos n))

-- no room where the shape isn't AtMost
pub no_room : (s : Shape) (key : Key) → ((l : Law) → s ≡ AtMost l → ⊥) → letter_of s key ≡ 0
unfolding letter_of room
no_room All key h = refl
no_room (Exact l) key h = refl
no_room (AtMost l) key h = absurd (h l refl)

-- the room is what the law's number is more than the sum
pub room_is : (s : Shape) (l : Law) (key : Key) (r : ℤ) → s ≡ AtMost l → r ≡ law_number l key.g (length key.idx) -ℤ pos (total key.idx) → letter_of s key ≡ natural r
unfolding letter_of room law_at law_number per_g per_n
room_is s l key r e f = rw (e, f) refl

pub natural_none : (r : ℤ) → r <ℤ pos 0 → natural r ≡ 0
unfolding natural
natural_none (pos n) h = absurd (omega (arith, ints))
natural_none (negsuc n) h = refl

pub natural_some : (r y : ℤ) → pos 0 ≤ℤ r → y ≡ r → unsigned_abs y ≡ natural r
unfolding natural
natural_some (pos n) y h e = rw e refl
natural_some (negsuc n) y h e = absurd (omega (arith, ints))
