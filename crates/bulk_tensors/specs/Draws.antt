-- The numbers that a seed gives: a linear congruential generator of 31 bits, of which the upper 15 are drawn.
use Prim.Native.Nat.{ℕ, zero, suc, ◌+◌, ◌*◌, ◌/◌, ◌%◌, ◌^◌}

-- the state behind k draws
unfoldable pub state : ℕ → ℕ → ℕ
state seed zero = seed
state seed (suc k) = (1103515245 * state seed k + 12345) % 2 ^ 31

-- the draw numbered k, from 0
unfoldable pub draw : ℕ → ℕ → ℕ
draw seed k = state seed (suc k) / 65536
