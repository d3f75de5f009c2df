-- Draws, and some bulks, at numbers.
use Prim.Native.Nat.{ℕ}
use mathlib.Core.Path.{◌≡◌, refl}
use mathlib.Core.List.{[], ◌∷◌, map}
use lib.IntN.{pos, negsuc}
use Rattle.std.specs.Prelude.{None}
use Rattle.airy_math.specs.Examples.{computes}
use Rattle.airy_math.specs.Rational.{◌/ℚ◌}
use Rattle.airy_math.specs.Sums.{below}
use Rattle.bulk_tensors.specs.Bulk.{on_diagonal, diagonal, factor, after, bulk, then_refused, first_refused, bulk_refusal}
use Rattle.bulk_tensors.specs.Change.{gained, obtained_entry, obtained_gained, at_slot, amplitude, contracted, slot_by_slot, gains}
use Rattle.bulk_tensors.specs.Change.{changed, all_below, slot_obtained, slots_obtained, parts_obtained, gains_obtained, is_obtained}
use Rattle.bulk_tensors.specs.Draws.{state, draw}

draws_of_1 : map (draw 1) (below 9) ≡ 16838 ∷ 5758 ∷ 10113 ∷ 17515 ∷ 31051 ∷ 5627 ∷ 23010 ∷ 7419 ∷ 16212 ∷ []
unfolding computes state draw
draws_of_1 = refl

-- To name this on an `unfolding` line opens the definitions of this crate there, for `refl` at numbers.
unfoldable pub bulk_computes : ℕ → ℕ
unfolding computes state draw on_diagonal diagonal factor after bulk gained at_slot amplitude contracted slot_by_slot gains changed
bulk_computes n = n

one_index : (bulk 1 1).A 0 0 0 ∷ (bulk 1 1).B 0 0 0 ∷ (bulk 1 1).C 0 0 0 ∷ (bulk 1 1).D 0 ∷ []
    ≡ (pos 3 /ℚ 1) ∷ (pos 2 /ℚ 1) ∷ (pos 1 /ℚ 1) ∷ (pos 1 /ℚ 4) ∷ []
unfolding bulk_computes
one_index = refl

-- the factor is -1, and D at the index 1 is 7/8 - 1/4
d_of_two : (bulk 1 2).D 1 ≡ pos 5 /ℚ 8
unfolding bulk_computes
d_of_two = refl

a_of_two : (bulk 1 2).A 0 0 0 ∷ (bulk 1 2).A 0 0 1 ∷ (bulk 1 2).A 0 1 1 ∷ (bulk 1 2).A 1 1 1 ∷ []
    ≡ (pos 3 /ℚ 1) ∷ (negsuc 2 /ℚ 1) ∷ (pos 3 /ℚ 1) ∷ (negsuc 0 /ℚ 1) ∷ []
unfolding bulk_computes
a_of_two = refl

-- all steps of two indices are obtained
none_refused : bulk_refusal 1 2 ≡ None
unfolding bulk_computes obtained_entry obtained_gained all_below slot_obtained slots_obtained parts_obtained gains_obtained is_obtained
    then_refused first_refused bulk_refusal
none_refused = refl
