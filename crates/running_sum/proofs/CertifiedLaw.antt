-- Sums and products over a common denominator are obtained where their numbers are in range.
use Rattle.std.proofs.Common.{◌≡◌, ℕ, zero, suc, ◌+◌, ◌*◌, ◌/◌, ◌<◌, ◌≤◌, Bool, true, List, [], ◌∷◌, map, refl, sym, ◌∙◌, ap, ap₂, subst, arith, ℤ, pos, ◌+ℤ◌, ◌*ℤ◌, unsigned_abs}
use Rattle.std.specs.Prelude.{Some, None, cond, ◌&&◌, ◌^◌, IsPermutation, sum_by}
use Rattle.std.proofs.lemmas.List.Sorted.{sum_by-IsPermutation}
use Rattle.std.proofs.lemmas.List.Sums.{sum_by-cons}
use Rattle.std.specs.Int.{◌∣◌}
use Rattle.std.proofs.Math.Nat.{dvd-mul_left, mul-div_cancel', div-mul_cancel, div-le_self, mul-le-mul_left, eq_of_mul-eq-mul_left, eq_of_mul-eq-mul_right}
use Rattle.std.proofs.lemmas.Int.{unsigned_abs-mul, ints}
use borrow.Author.Differences.{up, down, product_is, sum_is_lem, same_in, same_out}
use lib.IntN.{+ℤ_idl}
use borrow.Author.Tests.{lt-ltb}
use Rattle.airy_math.specs.Gcd.{gcd, IsGcd-gcd, dvd_of_coprime, coprime_left}
use Rattle.airy_math.specs.Ints.{ring_z, *ℤ_assoc, *ℤ_distrib_r}
use Rattle.airy_math.specs.Rational.{ℚ, ◌/ℚ◌, ◌+ℚ◌, positive, coprime, cross, same_fraction, parts_lem, z_cancel}
use Rattle.airy_math.specs.RationalLaws.{0ℚ, add_fractions, mul_fractions, positive_times}
use Rattle.airy_math.specs.Obtained.{fits, obtained_sum, obtained_product, obtained_from, both_obtained}
use Rattle.running_sum.specs.Certified.{total, sizes, CertifiedLaw}

fits-true : (z : ℤ) → unsigned_abs z < 2 ^ 127 → fits z ≡ true
unfolding fits
fits-true z h = lt-ltb _ _ h

-- n/D is the part a/b of it in lowest terms, both its numbers q times as great
record IsTimes (x : ℚ) (n : ℤ) (D q : ℕ) : Type 0 where
  num : n ≡ x.num *ℤ pos q
  den : D ≡ x.den * q
  some : 0 < q

num_times : (x : ℚ) (n : ℤ) (D q : ℕ) → x.num *ℤ pos D ≡ n *ℤ pos x.den → D ≡ x.den * q → n ≡ x.num *ℤ pos q
num_times x n D q c e = z_cancel n (x.num *ℤ pos q) x.den (positive x) (sym c ∙ ap (λ t. x.num *ℤ pos t) e ∙ at x.num (pos x.den) (pos q))
  where
    at : (a b q : ℤ) → a *ℤ (b *ℤ q) ≡ (a *ℤ q) *ℤ b
    at a b q = simp ring_z

factor_some : (b q D : ℕ) → 0 < D → D ≡ b * q → 0 < q
factor_some b zero D p e = absurd (omega arith)
factor_some b (suc q) D p e = omega arith

den_divides : (n : ℤ) (D : ℕ) → 0 < D → (n /ℚ D).den ∣ D
den_divides n D p =
    let x = n /ℚ D in
    let e : unsigned_abs n * x.den ≡ unsigned_abs x.num * D = sym (unsigned_abs-mul n (pos x.den)) ∙ ap unsigned_abs (sym (cross n D p)) ∙ unsigned_abs-mul x.num (pos D) in
    dvd_of_coprime x.den (unsigned_abs x.num) D (coprime x) (subst (λ t. x.den ∣ t) e (dvd-mul_left x.den (unsigned_abs n)))

times_by : (n : ℤ) (D q : ℕ) → 0 < D → D ≡ (n /ℚ D).den * q → IsTimes (n /ℚ D) n D q
times_by n D q p e = record { num = num_times (n /ℚ D) n D q (cross n D p) e; den = e; some = factor_some _ q D p e }

times_of : (n : ℤ) (D : ℕ) → 0 < D → IsTimes (n /ℚ D) n D (D / (n /ℚ D).den)
times_of n D p = times_by n D _ p (sym (mul-div_cancel' (n /ℚ D).den (den_divides n D p)))

-- a part is no greater
part-small : (z : ℤ) (q m : ℕ) → 0 < q → unsigned_abs (z *ℤ pos q) < m → unsigned_abs z < m
part-small z q m p h = let l = at (unsigned_abs z) q p in let e = unsigned_abs-mul z (pos q) in omega arith
  where
    at : (n q : ℕ) → 0 < q → n ≤ n * q
    at n q p = grind arith

pub raised : (n : ℤ) (d k : ℕ) → 0 < d → 0 < k → n /ℚ d ≡ (n *ℤ pos k) /ℚ (d * k)
raised n d k p q = same_fraction _ _ _ _ p (positive_times d k p q) (at n (pos d) (pos k))
  where
    at : (n d k : ℤ) → n *ℤ (d *ℤ k) ≡ (n *ℤ k) *ℤ d
    at n d k = simp ring_z

-- ---- products

pub product : (n m : ℤ) (d e : ℕ) → 0 < d → 0 < e → unsigned_abs (n *ℤ m) < 2 ^ 127 → d * e < 2 ^ 127 → obtained_product (n /ℚ d) (m /ℚ e) ≡ Some ((n *ℤ m) /ℚ (d * e))
unfolding obtained_product
product n m d e p q hn hd =
    let s = mul_fractions n m d e p q in
    let z = (n *ℤ m) /ℚ (d * e) in
    let t = times_of (n *ℤ m) (d * e) (positive_times d e p q) in
    let a = fits-true z.num (part-small z.num _ _ t.some (subst (λ u. unsigned_abs u < 2 ^ 127) t.num hn)) in
    let b = fits-true (pos z.den) (part-small (pos z.den) _ _ t.some (subst (λ u. u < 2 ^ 127) t.den hd)) in
    rw (s, a, b) refl

-- ---- sums

-- of x = n/D and y = m/D: D is e times the least common denominator
record AreOver (x y : ℚ) (D e : ℕ) : Type 0 where
  left : D ≡ x.den * (y.den / gcd x.den y.den * e)
  right : D ≡ y.den * (x.den / gcd x.den y.den * e)

over_least : (x y : ℚ) (D u v : ℕ) → D ≡ x.den * u → D ≡ y.den * v → AreOver x y D (u / (y.den / gcd x.den y.den))
over_least x y D u v p q =
    let h = gcd x.den y.den in
    let is = IsGcd-gcd x.den y.den in
    let b = x.den / h in
    let d = y.den / h in
    let eb : b * h ≡ x.den = div-mul_cancel h is.0 in
    let ed : d * h ≡ y.den = div-mul_cancel h is.1 in
    let some = factor_some b h x.den (positive x) (sym eb) in
    let in_u : d ∣ u = dvd_of_coprime d b u (coprime_left x.den y.den some) (subst (λ t. d ∣ t) (sym (same b d h u v some (ap (λ t. t * u) eb ∙ sym p ∙ q ∙ ap (λ t. t * v) (sym ed)))) (dvd-mul_left d v)) in
    let eu : d * (u / d) ≡ u = mul-div_cancel' d in_u in
    record { left = p ∙ ap (λ t. x.den * t) (sym eu); right = p ∙ ap₂ ◌*◌ (sym eb) (sym eu) ∙ at b d h (u / d) ∙ ap (λ t. t * (b * (u / d))) ed }
  where
    same : (b d h u v : ℕ) → 0 < h → (b * h) * u ≡ (d * h) * v → b * u ≡ v * d
    same b d h u v some e = eq_of_mul-eq-mul_left h some (b * u) (v * d) (omega arith)

    at : (b d h e : ℕ) → (b * h) * (d * e) ≡ (d * h) * (b * e)
    at b d h e = omega arith

assoc : (a : ℤ) (d e : ℕ) → a *ℤ pos (d * e) ≡ (a *ℤ pos d) *ℤ pos e
assoc a d e = sym (*ℤ_assoc a (pos d) (pos e))

den_small : (b d k e D : ℕ) → D ≡ d * (b * e) → 0 < e → b * (d / k) ≤ D
den_small b d k zero D q some = absurd (omega arith)
den_small b d k (suc e) D q some = omega (arith, mul-le-mul_left b (div-le_self d k))

four : (a b c d : Bool) (x : ℚ) → a ≡ true → b ≡ true → c ≡ true → d ≡ true → cond (a && b && c && d) (Some x) None ≡ Some x
four a b c d x p q r s = rw (p, q, r, s) refl

pub sum : (n m : ℤ) (D : ℕ) → 0 < D → D < 2 ^ 127 → unsigned_abs n < 2 ^ 127 → unsigned_abs m < 2 ^ 127 → unsigned_abs (n +ℤ m) < 2 ^ 127 → obtained_sum (n /ℚ D) (m /ℚ D) ≡ Some ((n +ℤ m) /ℚ D)
unfolding obtained_sum
sum n m D p hd hn hm hs =
    let x = n /ℚ D in
    let y = m /ℚ D in
    let g = gcd x.den y.den in
    let l = x.num *ℤ pos (y.den / g) in
    let r = y.num *ℤ pos (x.den / g) in
    let e = D / x.den / (y.den / g) in
    let o = over_least x y D (D / x.den) (D / y.den) (times_of n D p).den (times_of m D p).den in
    let tx = times_by n D _ p o.left in
    let ty = times_by m D _ p o.right in
    let en : n ≡ l *ℤ pos e = tx.num ∙ assoc x.num (y.den / g) e in
    let em : m ≡ r *ℤ pos e = ty.num ∙ assoc y.num (x.den / g) e in
    let es : n +ℤ m ≡ (l +ℤ r) *ℤ pos e = ap₂ ◌+ℤ◌ en em ∙ sym (*ℤ_distrib_r (pos e) l r) in
    let some = factor_some (y.den / g) e _ tx.some refl in
    let k = gcd (unsigned_abs (l +ℤ r)) g in
    let least = den_small (x.den / g) y.den k e D o.right some in
    four _ _ _ _ (x +ℚ y)
    (fits-true l (part-small l e _ some (subst (λ u. unsigned_abs u < 2 ^ 127) en hn)))
    (fits-true r (part-small r e _ some (subst (λ u. unsigned_abs u < 2 ^ 127) em hm)))
    (fits-true (l +ℤ r) (part-small (l +ℤ r) e _ some (subst (λ u. unsigned_abs u < 2 ^ 127) es hs)))
    (fits-true (pos (x.den / g * (y.den / k))) (omega arith))
    ∙ ap Some (add_fractions n m D D p p ∙ same_fraction _ _ _ _ (positive_times D D p p) p (at n m (pos D)))
  where
    at : (n m d : ℤ) → (n *ℤ d +ℤ m *ℤ d) *ℤ d ≡ (n +ℤ m) *ℤ (d *ℤ d)
    at n m d = simp ring_z

-- ---- whole sums

total-size : (ns : List ℤ) → unsigned_abs (total ns) ≤ sizes ns
unfolding total sizes
total-size [] = omega arith
total-size (n ∷ ns) = let h = total-size ns in omega (arith, ints)

from_some : (ns : List ℤ) (s : ℤ) (D : ℕ) → 0 < D → D < 2 ^ 127 → unsigned_abs s + sizes ns < 2 ^ 127 → obtained_from (Some (s /ℚ D)) (map (λ n. Some (n /ℚ D)) ns) ≡ Some ((s +ℤ total ns) /ℚ D)
unfolding obtained_from both_obtained total sizes
from_some [] s D p hd h = ap (λ t. Some (t /ℚ D)) (omega (arith, ints))
from_some (n ∷ ns) s D p hd h =
    ap (λ t. obtained_from t (map (λ n. Some (n /ℚ D)) ns)) (sum s n D p hd (omega arith) (omega arith) (omega (arith, ints)))
    ∙ from_some ns (s +ℤ n) D p hd (omega (arith, ints))
    ∙ ap (λ t. Some (t /ℚ D)) (omega (arith, ints))

pub all : (ns : List ℤ) (D : ℕ) → 0 < D → D < 2 ^ 127 → sizes ns < 2 ^ 127 → obtained_from (Some 0ℚ) (map (λ n. Some (n /ℚ D)) ns) ≡ Some (total ns /ℚ D)
unfolding 0ℚ
all ns D p hd h =
    ap (λ t. obtained_from (Some t) (map (λ n. Some (n /ℚ D)) ns)) (same_fraction (pos 0) (pos 0) 1 D (omega arith) p (ap pos (none D)))
    ∙ from_some ns (pos 0) D p hd (omega arith) ∙ ap (λ t. Some (t /ℚ D)) (+ℤ_idl (total ns))
  where
    none : (D : ℕ) → 0 * D ≡ 0 * 1
    none D = omega arith

-- ---- in any order

-- the total by what its parts are differences of
total-parts : (ns : List ℤ) → up (total ns) + sum_by down ns ≡ down (total ns) + sum_by up ns
unfolding total
total-parts [] = omega arith
total-parts (n ∷ ns) = let h = total-parts ns in let s = sum_is_lem n (total ns) in omega (arith, sum_by-cons up n ns, sum_by-cons down n ns)

total-permuted : (ns ms : List ℤ) → IsPermutation ns ms → total ms ≡ total ns
total-permuted ns ms p =
    let a = total-parts ns in
    let b = total-parts ms in
    let u = sum_by-IsPermutation up ns ms p in
    let d = sum_by-IsPermutation down ns ms p in
    same_in _ _ (omega arith)

sizes-are : (ns : List ℤ) → sizes ns ≡ sum_by unsigned_abs ns
unfolding sizes
sizes-are [] = refl
sizes-are (n ∷ ns) = ap (λ t. unsigned_abs n + t) (sizes-are ns) ∙ sym (sum_by-cons unsigned_abs n ns)

sizes-permuted : (ns ms : List ℤ) → IsPermutation ns ms → sizes ms ≡ sizes ns
sizes-permuted ns ms p = sizes-are ms ∙ sum_by-IsPermutation unsigned_abs ns ms p ∙ sym (sizes-are ns)

any_order : (ns ms : List ℤ) (D : ℕ) → IsPermutation ns ms → 0 < D → D < 2 ^ 127 → sizes ns < 2 ^ 127 → obtained_from (Some 0ℚ) (map (λ n. Some (n /ℚ D)) ms) ≡ Some (total ns /ℚ D)
any_order ns ms D p hd d h = all ms D hd d (rw (sizes-permuted ns ms p) h) ∙ ap (λ t. Some (t /ℚ D)) (total-permuted ns ms p)

over : (x : ℚ) (D : ℕ) → 0 < D → x.den ∣ D → x ≡ (x.num *ℤ pos (D / x.den)) /ℚ D
over x D p h =
    let e = mul-div_cancel' x.den h in
    sym (parts_lem x) ∙ raised x.num x.den (D / x.den) (positive x) (factor_some x.den (D / x.den) D p (sym e)) ∙ ap (λ t. (x.num *ℤ pos (D / x.den)) /ℚ t) e

pub certified_law : CertifiedLaw
certified_law = record { sum = sum; product = product; raised = raised; all = any_order; over = over }
