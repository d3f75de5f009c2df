-- Where a key stands, case by case.
use Rattle.std.proofs.Common.{◌≡◌, ◌≤◌, true, false, length, refl, arith, ltb}
use Rattle.amp_plan.proofs.Words.{Key, euler, IsPlanned, IsKey, looked_up, covers, letter_of, Planning, tensors_of, rank_at, place_in, are_below, letter_power, At, Zero, Beyond, BadIndex}
use Rattle.amp_plan.proofs.PlaceLemmas.{sorted_below}

pub beyond : (p : Planning) (key : Key) → ltb p.bound (euler key.g (length key.idx)) ≡ true → place_in p key ≡ Beyond
unfolding place_in
beyond p key e = rw e refl

pub zero_there : (p : Planning) (key : Key) → ltb p.bound (euler key.g (length key.idx)) ≡ false → covers p.tensors.shape key ≡ false → place_in p key ≡ Zero
unfolding place_in
zero_there p key e f = rw (e, f) refl

pub bad_index : (p : Planning) (key : Key) → ltb p.bound (euler key.g (length key.idx)) ≡ false → covers p.tensors.shape key ≡ true → are_below p.tensors.dim key.idx ≡ false → place_in p key ≡ BadIndex
unfolding place_in
bad_index p key e f b = rw (e, f, b) refl

pub at_rank : (p : Planning) (key : Key) → ltb p.bound (euler key.g (length key.idx)) ≡ false → covers p.tensors.shape key ≡ true → are_below p.tensors.dim key.idx ≡ true → place_in p key ≡ At (rank_at p key)
unfolding place_in
at_rank p key e f b = rw (e, f, b) refl

pub no_letter : (p : Planning) (key : Key) → p.tensors.letter ≡ false → letter_power p key ≡ 0
unfolding letter_power
no_letter p key e = rw e refl

pub with_letter : (p : Planning) (key : Key) → p.tensors.letter ≡ true → letter_power p key ≡ letter_of p.tensors.shape key
unfolding letter_power
with_letter p key e = rw e refl

-- ---- a key that is planned

pub planned_there : (p : Planning) (key : Key) → IsKey key.g key.idx → euler key.g (length key.idx) ≤ p.bound → covers p.tensors.shape key ≡ true → are_below p.tensors.dim key.idx ≡ true → IsPlanned (tensors_of p) p.bound key
unfolding tensors_of looked_up euler
planned_there p key k e c b = record {
  sorted = sorted_below 0 256 p.tensors.dim key.idx k.sorted b;
  places = k.some;
  positive = omega (arith, k.stable);
  within = e;
  covered = c;
}
