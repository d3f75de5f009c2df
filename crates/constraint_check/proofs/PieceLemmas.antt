-- The pieces into which the ranks are cut.
use Rattle.std.proofs.Common.{◌≡◌, ℕ, ◌+◌, ◌/◌, ◌%◌, ◌<◌, ◌≤◌, arith, min}
use Rattle.std.proofs.Math.Nat.{div-add-mod, mod-lt, min-le_left, min-le_right, min-eq_right, le-min, mul-le-mul_right}
use Rattle.constraint_check.specs.Pivots.{cut_at}

module _ (len n : ℕ) where
  pub cut_first : cut_at len n 0 ≡ 0
  unfolding cut_at
  cut_first = omega (arith, min-le_left 0 (len % n))

  pub cut_last : 0 < n → cut_at len n n ≡ len
  unfolding cut_at
  cut_last some = omega (arith, div-add-mod len n, min-eq_right {n = len % n} {m = n} (let l = mod-lt len some in omega arith))

  pub cut_up : (k : ℕ) → cut_at len n k ≤ cut_at len n (k + 1)
  unfolding cut_at
  cut_up k = omega (arith, le-min {k = min k (len % n)} {a = k + 1} {b = len % n} (let l = min-le_left k (len % n) in omega arith) (min-le_right k (len % n)))

  pub cut_within : (k : ℕ) → k ≤ n → cut_at len n k ≤ len
  unfolding cut_at
  cut_within k l = omega (arith, div-add-mod len n, mul-le-mul_right (len / n) l, min-le_right k (len % n))
