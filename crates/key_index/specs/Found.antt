-- What is found for a code in a row of slots: each has a code, and the rank that was put there with it, if any.
use Prim.Native.Nat.{ℕ, ◌*◌, ◌/◌, ◌%◌, ◌^◌, ◌<◌}
use mathlib.Core.Path.{◌≡◌}
use mathlib.Core.Bool.{cond}
use mathlib.Core.List.{List, [], ◌∷◌}
use lib.Dec.{eqb}
use lib.ListN.{length, take, drop}
use Rattle.std.specs.Prelude.{Option, Some, None}
use Rattle.airy_math.specs.Keys.{Key}
use Rattle.airy_math.specs.Ranks.{key_at}
use Rattle.key_index.specs.Codes.{code_of}
use Rattle.key_index.specs.declared.slots.Slot.{Slot}

-- the slot from which on a code is looked for, below the width: in proportion to the code's lowest 32 bits
unfoldable pub start_of : ℕ → ℕ → ℕ
start_of width code = code % 2 ^ 32 * width / 2 ^ 32

-- what stands at the first slot with the code
unfoldable pub first_rank : ℕ → List Slot → Option ℕ
first_rank code [] = None
first_rank code (s ∷ ss) = cond (eqb s.code code) s.rank (first_rank code ss)

-- what is found for a code: what stands at the first of 128 slots from its start on that has the code
unfoldable pub found : List Slot → ℕ → ℕ → Option ℕ
found slots width code = first_rank code (take 128 (drop (start_of width code) slots))

-- what is found for the code of each key is its rank
abbrev pub FindsAll : List Slot → ℕ → List Key → Type 0
FindsAll slots width keys = (r : ℕ) → r < length keys → found slots width (code_of (key_at keys r)) ≡ Some r

-- the answer is the rank of each key that has the code
abbrev pub IsRankOf : List Key → ℕ → Option ℕ → Type 0
IsRankOf keys code answer = (r : ℕ) → r < length keys → code_of (key_at keys r) ≡ code → answer ≡ Some r
