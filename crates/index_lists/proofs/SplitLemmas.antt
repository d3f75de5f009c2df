-- The splits of a list, run by run, and what holds of all of them.
use Rattle.std.proofs.Common.{◌≡◌, ℕ, zero, suc, ◌+◌, ◌-◌, ◌*◌, ◌<◌, ◌≤◌, List, [], ◌∷◌, ◌++◌, map, append_assoc, append-nil, inl, inr, refl, sym, ap, ap₂, subst, ◌∙◌, arith, ◌⊎◌, replicate}
use Rattle.index_lists.proofs.Words.{AllByRecursion, mul_assoc, cases_lt, Split, splits, binomial, count_from, each, put_before, chosen_split, all_splits, splits-all, more_of, no_split}
use Rattle.airy_math.specs.Splits.{runs}
use Rattle.airy_math.specs.Sums.{below}
use Rattle.index_lists.specs.Parts.{behind}

-- ---- lists

pub each-one : {A B : Type 0} (f : A → List B) (x : A) → each (x ∷ []) f ≡ f x
unfolding each
each-one f x = append-nil (f x)

pub each-none : {A B : Type 0} (f : A → List B) (xs : List A) → AllByRecursion (λ x. f x ≡ []) xs → each xs f ≡ []
unfolding each
each-none f [] h = refl
each-none f (x ∷ xs) h = ap₂ ◌++◌ h.0 (each-none f xs h.1)

pub all-left : {A : Type 0} (P : A → Type 0) (xs ys : List A) → AllByRecursion P (xs ++ ys) → AllByRecursion P xs
all-left P [] ys h = tt
all-left P (x ∷ xs) ys h = (h.0, all-left P xs ys h.1)

pub all-right : {A : Type 0} (P : A → Type 0) (xs ys : List A) → AllByRecursion P (xs ++ ys) → AllByRecursion P ys
all-right P [] ys h = h
all-right P (x ∷ xs) ys h = all-right P xs ys h.1

all-append : {A : Type 0} (P : A → Type 0) (xs ys : List A) → AllByRecursion P xs → AllByRecursion P ys → AllByRecursion P (xs ++ ys)
all-append P [] ys h k = k
all-append P (x ∷ xs) ys h k = (h.0, all-append P xs ys h.1 k)

all-unmap : {A B : Type 0} (P : B → Type 0) (h : A → B) (xs : List A) → AllByRecursion P (map h xs) → AllByRecursion (λ x. P (h x)) xs
all-unmap P h [] a = tt
all-unmap P h (x ∷ xs) a = (a.0, all-unmap P h xs a.1)

pub all-map : {A B : Type 0} (P : B → Type 0) (h : A → B) (xs : List A) → AllByRecursion (λ x. P (h x)) xs → AllByRecursion P (map h xs)
all-map P h [] a = tt
all-map P h (x ∷ xs) a = (a.0, all-map P h xs a.1)

pub all-weaken : {A : Type 0} (P Q : A → Type 0) (xs : List A) → ((x : A) → P x → Q x) → AllByRecursion P xs → AllByRecursion Q xs
all-weaken P Q [] w a = tt
all-weaken P Q (x ∷ xs) w a = (w x a.0, all-weaken P Q xs w a.1)

pub all-both : {A : Type 0} (P Q R : A → Type 0) (xs : List A) → ((x : A) → P x → Q x → R x) → AllByRecursion P xs → AllByRecursion Q xs → AllByRecursion R xs
all-both P Q R [] w a b = tt
all-both P Q R (x ∷ xs) w a b = (w x a.0 b.0, all-both P Q R xs w a.1 b.1)

-- of what the numbers from k on make, and so of what t makes
all-counted : {A : Type 0} (P : A → Type 0) (f : ℕ → List A) (k n t : ℕ) → k ≤ t → t < k + n → AllByRecursion P (each (count_from k n) f) → AllByRecursion P (f t)
unfolding each count_from
all-counted P f k zero t l h a = absurd (omega arith)
all-counted P f k (suc n) t l h a = by (cases_lt k t) (λ s. all-counted P f (suc k) n t s (omega arith) (all-right P (f k) (each (count_from (suc k) n) f) a))
  where
    by : (k < t) ⊎ (t ≤ k) → (k < t → AllByRecursion P (f t)) → AllByRecursion P (f t)
    by (inl s) r = r s
    by (inr s) r = let e : k ≡ t = omega arith in subst (λ z. AllByRecursion P (f z)) e (all-left P (f k) (each (count_from (suc k) n) f) a)

pub all-counting : {A : Type 0} (P : A → Type 0) (f : ℕ → List A) (k n : ℕ) → ((t : ℕ) → t < k + n → AllByRecursion P (f t)) → AllByRecursion P (each (count_from k n) f)
unfolding each count_from
all-counting P f k zero h = tt
all-counting P f k (suc n) h = all-append P (f k) (each (count_from (suc k) n) f) (h k (omega arith)) (all-counting P f (suc k) n (λ t l. h t (omega arith)))

-- ---- numbers from k to g

pub count-none : (g : ℕ) → count_from 0 (suc g - 0) ≡ below (suc g)
unfolding below
count-none g = let e : suc g - 0 ≡ suc g = omega arith in ap (count_from 0) e

pub count-next : (k g : ℕ) → k ≤ g → count_from k (suc g - k) ≡ k ∷ count_from (k + 1) (suc g - (k + 1))
unfolding count_from
count-next k g h =
    let e : suc g - k ≡ suc (suc g - (k + 1)) = omega arith in
    let s : suc k ≡ k + 1 = omega arith in
    ap (count_from k) e ∙ ap (λ n. k ∷ count_from n (suc g - (k + 1))) s

pub count-over : (k g : ℕ) → g < k → count_from k (suc g - k) ≡ []
unfolding count_from
count-over k g h = let e : suc g - k ≡ 0 = omega arith in ap (count_from k) e

-- ---- splits

pub behind-more : (s u : Split) (r : ℕ × ℕ) (t : ℕ) → behind s (put_before r.0 r.1 t u) ≡ behind (more_of s r t) u
unfolding behind put_before more_of
behind-more s u r t =
    let part : s.part ++ (replicate t r.0 ++ u.part) ≡ (s.part ++ replicate t r.0) ++ u.part = sym (append_assoc s.part (replicate t r.0) u.part) in
    let rest : s.rest ++ (replicate (r.1 - t) r.0 ++ u.rest) ≡ (s.rest ++ replicate (r.1 - t) r.0) ++ u.rest = sym (append_assoc s.rest (replicate (r.1 - t) r.0) u.rest) in
    let ways : s.ways * (binomial r.1 t * u.ways) ≡ (s.ways * binomial r.1 t) * u.ways = sym (mul_assoc s.ways (binomial r.1 t) u.ways) in
    λ i. record { part = part i; rest = rest i; ways = ways i }

pub behind-end : (s : Split) → behind s (chosen_split []) ≡ s
unfolding behind chosen_split
behind-end s =
    let ways : s.ways * 1 ≡ s.ways = omega arith in
    λ i. record { part = append-nil s.part i; rest = append-nil s.rest i; ways = ways i }

pub behind-none : (s : Split) → behind no_split s ≡ s
unfolding behind no_split
behind-none s =
    let ways : 1 * s.ways ≡ s.ways = omega arith in
    λ i. record { part = s.part; rest = s.rest; ways = ways i }

-- what holds of all splits that go on from s holds of those that go on from s with t copies more
pub fits-more : (P : Split → Type 0) (s : Split) (r : ℕ × ℕ) (rs : List (ℕ × ℕ)) (t : ℕ) → t ≤ r.1 → AllByRecursion (λ u. P (behind s u)) (all_splits (r ∷ rs)) → AllByRecursion (λ u. P (behind (more_of s r t) u)) (all_splits rs)
unfolding all_splits below
fits-more P s r rs t l a =
    all-weaken (λ u. P (behind s (put_before r.0 r.1 t u))) (λ u. P (behind (more_of s r t) u)) (all_splits rs) (λ u. subst P (behind-more s u r t))
    (all-unmap (λ u. P (behind s u)) (put_before r.0 r.1 t) (all_splits rs)
    (all-counted (λ u. P (behind s u)) (λ t. map (put_before r.0 r.1 t) (all_splits rs)) 0 (suc r.1) t (omega arith) (omega arith) a))

pub fits-end : (P : Split → Type 0) (s : Split) → AllByRecursion (λ u. P (behind s u)) (all_splits []) → P s
unfolding all_splits
fits-end P s a = subst P (behind-end s) a.0

pub fits-all : (P : Split → Type 0) (I : List ℕ) → AllByRecursion P (splits I) → AllByRecursion (λ u. P (behind no_split u)) (all_splits (runs I))
fits-all P I a = all-weaken P (λ u. P (behind no_split u)) (all_splits (runs I)) (λ u. subst P (sym (behind-none u))) (subst (AllByRecursion P) (splits-all I) a)
