-- Odd numbers and powers of two under the greatest common divisor.
use Rattle.std.proofs.lemmas.Bool.{cases_lt}
use Rattle.std.proofs.Common.{inl, inr, ◌≡◌, ℕ, suc, zero, ◌+◌, ◌-◌, ◌*◌, ◌/◌, ◌%◌, ◌<◌, ◌≤◌, refl, sym, ◌∙◌, ap, subst, arith, ◌^◌, min, ◌⊎◌, pow-add, pow_pos}
use Rattle.std.specs.Int.{◌∣◌}
use Rattle.std.specs.Int.Count.{count_trailing_zeros, trailing_of_zero, under}
use Rattle.std.proofs.lemmas.Nat.Gcd.{IsGcd-from_zero, IsGcd-from_sub, IsGcd-swap, dvd_trans, le_of_dvd}
use Rattle.std.proofs.Math.Nat.{pow-suc, eq-one_of_dvd-one, dvd-mul_right, mul_comm, mul_assoc, one-mul, mod-eq_of_lt, div-div-eq-div-mul, min-eq_left, min-eq_right}
use Rattle.airy_math.specs.Gcd.{gcd, gcd_steps, IsGcd-gcd}
use Rattle.frac128.proofs.GcdLemmas.{Coprime, Coprime-from_gcd, Coprime-part_left, Coprime-product, gcd-from_IsGcd, gcd-from_Coprime, gcd-scaled, divides_other}
use Rattle.airy_math.specs.Rational.{gcd_one, one_gcd}

-- ---- the zeros at the end of a number

abbrev Splits : ℕ → ℕ → ℕ → Type 0
Splits k n t = (n / 2 ^ t * 2 ^ t ≡ n) × (n / 2 ^ t % 2 ≡ 1) × (t < k)

pub halves : (n q t : ℕ) → n % 2 ≡ 0 → q * 2 ^ t ≡ n / 2 → q * 2 ^ suc t ≡ n
halves n q t e h = let p = pow-suc 2 t in let a : q * (2 ^ t * 2) ≡ q * 2 ^ t * 2 = omega arith in ap (λ x. q * x) p ∙ a ∙ (let b : q * 2 ^ t * 2 ≡ n = omega arith in b)

pub zeros-split : (k n : ℕ) → 0 < n → n < 2 ^ k → Splits k n (count_trailing_zeros k n)
unfolding count_trailing_zeros
zeros-split zero n p h = absurd (let e : 2 ^ 0 ≡ 1 = refl in omega arith)
zeros-split (suc k) n p h =
    let half : n / 2 < 2 ^ k = (let e = pow-suc 2 k in omega arith) in
    by (n % 2) refl (λ some. zeros-split k (n / 2) some half)
  where
    even : (t : ℕ) → n % 2 ≡ 0 → Splits k (n / 2) t → Splits (suc k) n (suc t)
    even t e s =
        let same : n / 2 ^ suc t ≡ n / 2 / 2 ^ t = ap (λ x. n / x) (pow-suc 2 t ∙ mul_comm (2 ^ t) 2) ∙ sym (div-div-eq-div-mul n 2 (2 ^ t)) in
        (ap (λ q. q * 2 ^ suc t) same ∙ halves n (n / 2 / 2 ^ t) t e s.0, ap (λ q. q % 2) same ∙ s.1, let b = s.2 in omega arith)

    by : (d : ℕ) → n % 2 ≡ d → (0 < n / 2 → Splits k (n / 2) (count_trailing_zeros k (n / 2))) → Splits (suc k) n (under d (count_trailing_zeros k (n / 2)))
    by zero e f = even (count_trailing_zeros k (n / 2)) e (f (omega arith))
    by (suc d) e f = (let a : n / 2 ^ 0 * 2 ^ 0 ≡ n = omega arith in a, let b : n / 2 ^ 0 % 2 ≡ 1 = omega arith in b, omega arith)

-- ---- odd numbers

coprime_two : (x : ℕ) → x % 2 ≡ 1 → gcd x 2 ≡ 1
unfolding gcd gcd_steps
coprime_two x e = ap (λ r. gcd_steps 2 2 r) e

Coprime-power : (x j : ℕ) → x % 2 ≡ 1 → Coprime x (2 ^ j)
Coprime-power x zero e = λ d p q. eq-one_of_dvd-one q
Coprime-power x (suc j) e = rw (pow-suc 2 j) (Coprime-product x (2 ^ j) 2 (Coprime-power x j e) (Coprime-from_gcd x 2 (coprime_two x e)))

-- a factor that has nothing in common with the other number
gcd-drop : (x y c : ℕ) → Coprime x c → gcd x (y * c) ≡ gcd x y
gcd-drop x y c h =
    let g = IsGcd-gcd x y in
    gcd-from_IsGcd x (y * c) (gcd x y) (g.0, dvd_trans (gcd x y) g.1 (dvd-mul_right y c), λ d p q. g.2 d p (divides_other d c y (Coprime-part_left x c d p h) (subst (λ n. d ∣ n) (mul_comm y c) q)))

pub gcd_comm : (a b : ℕ) → gcd a b ≡ gcd b a
gcd_comm a b = gcd-from_IsGcd a b (gcd b a) (IsGcd-swap b a (gcd b a) (IsGcd-gcd b a))

pub gcd-zero_left : (b : ℕ) → gcd 0 b ≡ b
gcd-zero_left b = gcd-from_IsGcd 0 b b (IsGcd-swap b 0 b (IsGcd-from_zero b 0 refl))

pub gcd-zero_right : (a : ℕ) → gcd a 0 ≡ a
gcd-zero_right a = gcd-from_IsGcd a 0 a (IsGcd-from_zero a 0 refl)

-- the lesser power of two is common to both
gcd-twos_le : (x y i r : ℕ) → x % 2 ≡ 1 → gcd (x * 2 ^ i) (y * 2 ^ (i + r)) ≡ gcd x y * 2 ^ i
gcd-twos_le x y i r e =
    let p : y * 2 ^ (i + r) ≡ y * 2 ^ r * 2 ^ i = ap (λ n. y * n) (pow-add 2 i r ∙ mul_comm (2 ^ i) (2 ^ r)) ∙ sym (mul_assoc y (2 ^ r) (2 ^ i)) in
    ap (λ n. gcd (x * 2 ^ i) n) p ∙ gcd-scaled x (y * 2 ^ r) (2 ^ i) (pow_pos i) ∙ ap (λ n. n * 2 ^ i) (gcd-drop x y (2 ^ r) (Coprime-power x r e))

pub gcd-twos : (x y i j : ℕ) → x % 2 ≡ 1 → y % 2 ≡ 1 → gcd (x * 2 ^ i) (y * 2 ^ j) ≡ gcd x y * 2 ^ min i j
gcd-twos x y i j e f = by (cases_lt i j)
  where
    le : i ≤ j → gcd (x * 2 ^ i) (y * 2 ^ j) ≡ gcd x y * 2 ^ min i j
    le h = ap (λ n. gcd (x * 2 ^ i) (y * 2 ^ n)) (let a : j ≡ i + (j - i) = omega arith in a) ∙ gcd-twos_le x y i (j - i) e ∙ ap (λ n. gcd x y * 2 ^ n) (sym (min-eq_left h))

    ge : j ≤ i → gcd (x * 2 ^ i) (y * 2 ^ j) ≡ gcd x y * 2 ^ min i j
    ge h =
        gcd_comm (x * 2 ^ i) (y * 2 ^ j) ∙ ap (λ n. gcd (y * 2 ^ j) (x * 2 ^ n)) (let a : i ≡ j + (i - j) = omega arith in a) ∙ gcd-twos_le y x j (i - j) f
        ∙ ap (λ n. n * 2 ^ j) (gcd_comm y x) ∙ ap (λ n. gcd x y * 2 ^ n) (sym (min-eq_right h))

    by : (i < j) ⊎ (j ≤ i) → gcd (x * 2 ^ i) (y * 2 ^ j) ≡ gcd x y * 2 ^ min i j
    by (inl h) = le (let b : i ≤ j = omega arith in b)
    by (inr h) = ge h

-- the parts of odd_gcd
pub odd-step_up : (x y q t : ℕ) → x % 2 ≡ 1 → q * 2 ^ t ≡ y → x ≤ q → gcd x (q - x) ≡ gcd x y
odd-step_up x y q t e h le =
    let g = gcd x (q - x) in
    sym (ap (gcd x) (sym h) ∙ gcd-drop x q (2 ^ t) (Coprime-power x t e) ∙ gcd-from_IsGcd x q g (IsGcd-swap q x g (IsGcd-from_sub q x g le (IsGcd-swap x (q - x) g (IsGcd-gcd x (q - x))))))

pub odd-step_down : (x y q t : ℕ) → x % 2 ≡ 1 → q * 2 ^ t ≡ y → q < x → gcd q (x - q) ≡ gcd x y
odd-step_down x y q t e h less =
    let g = gcd q (x - q) in
    sym (ap (gcd x) (sym h) ∙ gcd-drop x q (2 ^ t) (Coprime-power x t e) ∙ gcd-from_IsGcd x q g (IsGcd-from_sub x q g (let le : q ≤ x = omega arith in le) (IsGcd-swap q (x - q) g (IsGcd-gcd q (x - q)))))

-- what n shares with 2^m
pub gcd-power : (w n m : ℕ) → n < 2 ^ w → m ≤ w → 2 ^ min (count_trailing_zeros w n) m ≡ gcd n (2 ^ m)
gcd-power w zero m h le = ap (λ t. 2 ^ min t m) (trailing_of_zero w) ∙ ap (λ t. 2 ^ t) (min-eq_right le) ∙ sym (gcd-zero_left (2 ^ m))
gcd-power w (suc n) m h le =
    let t = count_trailing_zeros w (suc n) in
    let s = zeros-split w (suc n) (omega arith) h in
    sym (ap (λ x. gcd x (2 ^ m)) (sym s.0) ∙ ap (λ x. gcd (suc n / 2 ^ t * 2 ^ t) x) (sym (one-mul (2 ^ m))) ∙ gcd-twos (suc n / 2 ^ t) 1 t m s.1 refl
    ∙ ap (λ x. x * 2 ^ min t m) (gcd_one (suc n / 2 ^ t)) ∙ one-mul (2 ^ min t m))

pub gcd-le : (a b : ℕ) → 0 < a → gcd a b ≤ a
gcd-le a b p = le_of_dvd p (IsGcd-gcd a b).0

-- two numbers by their odd parts
pub gcd-odd_parts : (a b x i y j : ℕ) → x * 2 ^ i ≡ a → y * 2 ^ j ≡ b → x % 2 ≡ 1 → y % 2 ≡ 1 → gcd x y * 2 ^ min i j ≡ gcd a b
gcd-odd_parts a b x i y j p q e f = sym (gcd-twos x y i j e f) ∙ ap (λ n. gcd n (y * 2 ^ j)) p ∙ ap (λ n. gcd a n) q

-- a word's divisor is a word
pub shifted_word : (g n a b : ℕ) → g * 2 ^ n ≡ gcd a b → 0 < a → a < 2 ^ 64 → g * 2 ^ n % 2 ^ 64 ≡ gcd a b
shifted_word g n a b e p h = let le = gcd-le a b p in let less : gcd a b < 2 ^ 64 = omega arith in ap (λ m. m % 2 ^ 64) e ∙ mod-eq_of_lt less

-- the same where one of the odd parts is 1
pub gcd-one : (x y : ℕ) → (x ≡ 1) ⊎ (y ≡ 1) → 1 ≡ gcd x y
gcd-one x y (inl e) = rw e (sym (one_gcd y))
gcd-one x y (inr e) = rw e (sym (gcd_one x))

-- where one of two numbers is a power of two, they share a power of two and no more
pub common_twos : (a b x i y j t : ℕ) → x * 2 ^ i ≡ a → y * 2 ^ j ≡ b → x % 2 ≡ 1 → y % 2 ≡ 1 → (x ≡ 1) ⊎ (y ≡ 1) → t ≡ min i j → 2 ^ t ≡ gcd a b
common_twos a b x i y j t p q e f one h = ap (λ n. 2 ^ n) h ∙ sym (one-mul (2 ^ min i j)) ∙ ap (λ n. n * 2 ^ min i j) (gcd-one x y one) ∙ gcd-odd_parts a b x i y j p q e f
