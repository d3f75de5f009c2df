-- Binomials: the step from one to the next in a row, and how large they are.
use Rattle.std.proofs.Common.{◌≡◌, ℕ, zero, suc, ◌+◌, ◌-◌, ◌*◌, ◌/◌, ◌^◌, ◌<◌, ◌≤◌, refl, ◌∙◌, ap, arith, inl, inr, ◌⊎◌}
use Rattle.airy_index.proofs.Words.{cases_lt, pow-suc, pow-le-pow_right, mul-le-mul, binomial, binomial-over}
use Rattle.std.proofs.Math.Nat.{mul-div_cancel}

-- k + 1 times the next is n - k times this one
pub binomial-step : (n k : ℕ) → binomial n (suc k) * suc k ≡ binomial n k * (n - k)
unfolding binomial
binomial-step zero zero = refl
binomial-step zero (suc k) = omega arith
binomial-step (suc n) zero = at (binomial n 1) n (binomial-step n zero)
  where
    at : (b n : ℕ) → b * 1 ≡ 1 * (n - 0) → (1 + b) * 1 ≡ 1 * (suc n - 0)
    at b n h = omega arith
binomial-step (suc n) (suc k) = by (cases_lt k n) (binomial-step n k) (binomial-step n (suc k))
  where
    in_row : (a b c k m : ℕ) → b * suc k ≡ a * suc m → c * suc (suc k) ≡ b * m → (b + c) * suc (suc k) ≡ (a + b) * suc m
    in_row a b c k m p q = omega (arith, p, q)

    by : (k < n) ⊎ (n ≤ k) → binomial n (suc k) * suc k ≡ binomial n k * (n - k) → binomial n (suc (suc k)) * suc (suc k) ≡ binomial n (suc k) * (n - suc k)
        → (binomial n (suc k) + binomial n (suc (suc k))) * suc (suc k) ≡ (binomial n k + binomial n (suc k)) * (suc n - suc k)
    by (inl l) p q =
        let s : n - k ≡ suc (n - suc k) = omega arith in
        let t : suc n - suc k ≡ suc (n - suc k) = omega arith in
        rw t (in_row (binomial n k) (binomial n (suc k)) (binomial n (suc (suc k))) k (n - suc k) (p ∙ ap (λ m. binomial n k * m) s) q)
    by (inr g) p q =
        let b : binomial n (suc k) ≡ 0 = binomial-over n (suc k) (omega arith) in
        let c : binomial n (suc (suc k)) ≡ 0 = binomial-over n (suc (suc k)) (omega arith) in
        let t : suc n - suc k ≡ 0 = omega arith in
        rw (b, c, t) (omega arith)

-- the next binomial of a row, by a division that leaves nothing
pub binomial-next : (n k : ℕ) → binomial n k * (n - k) / (k + 1) ≡ binomial n (k + 1)
binomial-next n k =
    let e : k + 1 ≡ suc k = omega arith in
    rw (e, ← binomial-step n k) (mul-div_cancel (binomial n (suc k)) (omega arith))

pub binomial-small : (n k : ℕ) → binomial n k ≤ 2 ^ n
unfolding binomial
binomial-small zero zero = omega arith
binomial-small zero (suc k) = omega arith
binomial-small (suc n) zero = omega (arith, pow-suc 2 n, binomial-small n zero)
binomial-small (suc n) (suc k) = omega (arith, pow-suc 2 n, binomial-small n k, binomial-small n (suc k))

-- in a short row the products fit
pub binomial-row : (n k w m : ℕ) → w ≡ binomial n k → m ≡ n - k → n ≤ 25 → w * m ≤ 2 ^ 30
binomial-row n k w m e f l =
    let small : w ≤ 2 ^ n = rw e (binomial-small n k) in
    let row : 2 ^ n ≤ 2 ^ 25 = pow-le-pow_right (omega arith) l in
    let short : w ≤ 2 ^ 25 = omega (arith, small, row) in
    let few : m ≤ 25 = omega (arith, f) in
    let product : w * m ≤ 2 ^ 25 * 25 = mul-le-mul short few in
    omega (arith, product)
