-- A list without an index, and its first run, found from left to right.
use Rattle.std.proofs.Common.{◌≡◌, ℕ, suc, ◌+◌, ◌<◌, ◌≤◌, Bool, true, false, List, [], ◌∷◌, ◌++◌, length, drop, get_or, refl, sym, ap, ap₂, subst, ◌∙◌, arith, append_assoc, nat_eq, cond, slice_index, drop-drop}
use Rattle.std.proofs.lemmas.List.{at_drop_more, at_drop_all}
use Rattle.airy_math.specs.Keys.{remove, head_or}
use Rattle.airy_math.specs.Splits.{runs, into_runs}

-- the list without its first x, or whole where that was found before
unfoldable pub without_from : Bool → ℕ → List ℕ → List ℕ
without_from true x ys = ys
without_from false x ys = remove x ys

pub without-here : (x : ℕ) (ys : List ℕ) (i : ℕ) → i < length ys → slice_index ys i ≡ x → without_from false x (drop i ys) ≡ without_from true x (drop (i + 1) ys)
unfolding without_from remove
without-here x ys i h e = at_drop_more (remove x) ys i 0 h ∙ (let t : nat_eq x (slice_index ys i) ≡ true = grind arith in rw (t, remove) refl)

pub without-other : (x : ℕ) (ys : List ℕ) (i : ℕ) → i < length ys → (slice_index ys i ≡ x → ⊥) → without_from false x (drop i ys) ≡ slice_index ys i ∷ without_from false x (drop (i + 1) ys)
unfolding without_from remove
without-other x ys i h n = at_drop_more (remove x) ys i 0 h ∙ (let t : nat_eq x (slice_index ys i) ≡ false = grind arith in rw (t, remove) refl)

pub without-passed : (x : ℕ) (ys : List ℕ) (i : ℕ) → i < length ys → without_from true x (drop i ys) ≡ slice_index ys i ∷ without_from true x (drop (i + 1) ys)
unfolding without_from
without-passed x ys i h = at_drop_more (λ l. l) ys i 0 h

pub without-end : (b : Bool) (x : ℕ) (ys : List ℕ) (i : ℕ) → length ys ≤ i → without_from b x (drop i ys) ≡ []
unfolding without_from remove
without-end true x ys i h = at_drop_all (λ l. l) ys i h
without-end false x ys i h = at_drop_all (remove x) ys i h

-- how often x stands at the beginning
unfoldable pub lead : ℕ → List ℕ → ℕ
lead x [] = 0
lead x (y ∷ ys) = cond (nat_eq x y) (suc (lead x ys)) 0

pub lead-more : (x : ℕ) (ys : List ℕ) (i : ℕ) → i < length ys → slice_index ys i ≡ x → lead x (drop i ys) ≡ suc (lead x (drop (i + 1) ys))
unfolding lead
lead-more x ys i h e = at_drop_more (lead x) ys i 0 h ∙ (let t : nat_eq x (slice_index ys i) ≡ true = grind arith in rw t refl)

pub lead-other : (x : ℕ) (ys : List ℕ) (i : ℕ) → i < length ys → (slice_index ys i ≡ x → ⊥) → lead x (drop i ys) ≡ 0
unfolding lead
lead-other x ys i h n = at_drop_more (lead x) ys i 0 h ∙ (let t : nat_eq x (slice_index ys i) ≡ false = grind arith in rw t refl)

pub lead-end : (x : ℕ) (ys : List ℕ) (i : ℕ) → length ys ≤ i → lead x (drop i ys) ≡ 0
unfolding lead
lead-end x ys i h = at_drop_all (lead x) ys i h

run_again : (x y n : ℕ) (rs : List (ℕ × ℕ)) → nat_eq x y ≡ true → into_runs x ((y, n) ∷ rs) ≡ (x, suc n) ∷ rs
unfolding into_runs
run_again x y n rs e = rw (e, into_runs) refl

run_new : (x y n : ℕ) (rs : List (ℕ × ℕ)) → nat_eq x y ≡ false → into_runs x ((y, n) ∷ rs) ≡ (x, 1) ∷ (y, n) ∷ rs
unfolding into_runs
run_new x y n rs e = rw (e, into_runs) refl

lead-again : (x y : ℕ) (ys : List ℕ) → nat_eq x y ≡ true → lead x (y ∷ ys) ≡ suc (lead y ys)
unfolding lead
lead-again x y ys e = let s : x ≡ y = grind arith in rw e (ap (λ z. suc (lead z ys)) s)

lead-new : (x y : ℕ) (ys : List ℕ) → nat_eq x y ≡ false → lead x (y ∷ ys) ≡ 0
unfolding lead
lead-new x y ys e = rw e refl

runs_of_two : (x y : ℕ) (ys : List ℕ) (t : Bool) → nat_eq x y ≡ t → runs (y ∷ ys) ≡ (y, suc (lead y ys)) ∷ runs (drop (lead y ys) ys)
    → runs (x ∷ y ∷ ys) ≡ (x, suc (lead x (y ∷ ys))) ∷ runs (drop (lead x (y ∷ ys)) (y ∷ ys))
unfolding runs
runs_of_two x y ys true e h = ap (into_runs x) h ∙ run_again x y (suc (lead y ys)) (runs (drop (lead y ys) ys)) e ∙ ap (λ n. (x, suc n) ∷ runs (drop n (y ∷ ys))) (sym (lead-again x y ys e))
runs_of_two x y ys false e h = ap (into_runs x) h ∙ run_new x y (suc (lead y ys)) (runs (drop (lead y ys) ys)) e ∙ ap (λ l. (x, 1) ∷ l) (sym h) ∙ ap (λ n. (x, suc n) ∷ runs (drop n (y ∷ ys))) (sym (lead-new x y ys e))

-- the first run of a list
pub runs-lead : (x : ℕ) (xs : List ℕ) → runs (x ∷ xs) ≡ (x, suc (lead x xs)) ∷ runs (drop (lead x xs) xs)
unfolding runs into_runs lead
runs-lead x [] = refl
runs-lead x (y ∷ ys) = runs_of_two x y ys (nat_eq x y) refl (runs-lead y ys)

lead-self : (x : ℕ) (xs : List ℕ) → lead x (x ∷ xs) ≡ suc (lead x xs)
lead-self x xs = let e : nat_eq x x ≡ true = grind arith in lead-again x x xs e

pub runs-first : (xs : List ℕ) (n : ℕ) → 0 < length xs → n ≡ lead (head_or 0 xs) xs → runs xs ≡ (head_or 0 xs, n) ∷ runs (drop n xs)
unfolding head_or
runs-first [] n h e = absurd (omega arith)
runs-first (x ∷ xs) n h e = runs-lead x xs ∙ ap (λ m. (x, m) ∷ runs (drop m (x ∷ xs))) (sym (e ∙ lead-self x xs))

pub head-index : (xs : List ℕ) → head_or 0 xs ≡ slice_index xs 0
unfolding head_or
head-index [] = refl
head-index (x ∷ xs) = refl

-- ---- one step of `without`

-- the list so far and what is left give the whole
pub without-found : (left ys whole : List ℕ) (x i : ℕ) → i < length ys → slice_index ys i ≡ x → left ++ without_from false x (drop i ys) ≡ whole → left ++ without_from true x (drop (i + 1) ys) ≡ whole
without-found left ys whole x i h e w = ap (λ l. left ++ l) (sym (without-here x ys i h e)) ∙ w

pub without-kept : (left ys whole : List ℕ) (b : Bool) (x i : ℕ) → i < length ys → (b ≡ false → slice_index ys i ≡ x → ⊥) → left ++ without_from b x (drop i ys) ≡ whole → (left ++ slice_index ys i ∷ []) ++ without_from b x (drop (i + 1) ys) ≡ whole
without-kept left ys whole true x i h n w = append_assoc left (slice_index ys i ∷ []) (without_from true x (drop (i + 1) ys)) ∙ ap (λ l. left ++ l) (sym (without-passed x ys i h)) ∙ w
without-kept left ys whole false x i h n w = append_assoc left (slice_index ys i ∷ []) (without_from false x (drop (i + 1) ys)) ∙ ap (λ l. left ++ l) (sym (without-other x ys i h (n refl))) ∙ w

-- the first run of what is left
pub runs-next : (xs : List ℕ) (i n : ℕ) (slice : List ℕ) → i < length xs → slice ≡ drop i xs → runs slice ≡ (head_or 0 slice, n) ∷ runs (drop n slice) → runs (drop i xs) ≡ (get_or xs i 0, n) ∷ runs (drop (i + n) xs)
runs-next xs i n slice l e h =
    let first : head_or 0 (drop i xs) ≡ get_or xs i 0 = at_drop_more (head_or 0) xs i 0 l ∙ head-cons (get_or xs i 0) (drop (i + 1) xs) in
    let rest : drop n (drop i xs) ≡ drop (i + n) xs = drop-drop n i xs in
    subst (λ s. runs s ≡ (head_or 0 s, n) ∷ runs (drop n s)) e h ∙ ap₂ (λ x ys. (x, n) ∷ runs ys) first rest
  where
    head-cons : (x : ℕ) (ys : List ℕ) → head_or 0 (x ∷ ys) ≡ x
    head-cons x ys = head-index (x ∷ ys)

pub runs-end : (xs : List ℕ) (i : ℕ) → length xs ≤ i → runs (drop i xs) ≡ []
unfolding runs
runs-end xs i l = at_drop_all runs xs i l
