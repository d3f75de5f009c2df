-- Divisions one after the other.
use Rattle.std.proofs.Common.{◌≡◌, ℕ, suc, ◌+◌, ◌-◌, ◌<◌, ◌≤◌, map, Option, Some, refl, arith, pos, option_and_then}
use Rattle.correlators.proofs.Words.{dvd_antisymm, one-dvd, gcd, IsGcd-gcd, ℚ, ◌/ℚ◌, count_from, obtained_product, divided}

-- what is left at k: over f k, f (k + 1), .., f (n - 1)
abbrev pub left : (ℕ → ℕ) → ℕ → ℕ → ℚ → Option ℚ
left f n k v = divided (map f (count_from k (n - k))) v

-- o is v over q, the next number
pub left-more : (f : ℕ → ℕ) (n k q : ℕ) (v w : ℚ) (o : Option ℚ) → k < n → o ≡ obtained_product v w → w ≡ pos 1 /ℚ q → q ≡ f k → left f n k v ≡ option_and_then (left f n (k + 1)) o
unfolding divided count_from
left-more f n k q v w o h e i j =
    let m : n - k ≡ suc (n - (k + 1)) = omega arith in
    let s : k + 1 ≡ suc k = omega arith in
    rw (m, s, e, i, j) refl

pub left-none : (f : ℕ → ℕ) (n k : ℕ) (v : ℚ) → n ≤ k → left f n k v ≡ Some v
unfolding divided count_from
left-none f n k v h = let e : n - k ≡ 0 = omega arith in rw e refl
