-- Lists of indices in which those are left out early whose sum can't be one of the window's.
use Rattle.std.proofs.Common.{◌≡◌, ℕ, zero, suc, ◌+◌, ◌*◌, ◌-◌, ◌<◌, ◌≤◌, Bool, true, false, ◌&&◌, List, [], ◌∷◌, ◌++◌, length, map, refl, sym, ◌∙◌, ap, ap₂, subst, arith, append_assoc, take, length-append, leb}
use Rattle.index_lists.proofs.Words.{Key, key_of, total, IsSortedFrom, keep, lists_from, Each, Each-weaken, Ascending, AllBelow, IsListed, Window, is_in, reaching, keys_behind, found, keep-append}
use Rattle.airy_math.proofs.KeyLemmas.{append-nil}
use Rattle.airy_math.proofs.PlannedLaw.{listed}
use Rattle.index_lists.specs.declared.listing.Listing.{Listing}
use Rattle.index_lists.specs.Listing.{can_reach}
use Rattle.airy_math.proofs.EachLemmas.{map-append}

pub keep-none : {A : Type 0} (p : A → Bool) (xs : List A) → Each (λ x. p x ≡ false) xs → keep p xs ≡ []
unfolding keep
keep-none p [] h = refl
keep-none {A = A} p (x ∷ xs) h = by (p x) h.0 (keep-none p xs h.1)
  where
    by : (t : Bool) → t ≡ false → keep p xs ≡ [] → ◌≡◌ {A = List A} (elim t [ true ↦ x ∷ keep p xs | false ↦ keep p xs ]) []
    by true e r = cc
    by false e r = r

-- the next index is one of the prefix
behind-cons : (w : Window) (g : ℕ) (prefix : List ℕ) (k s : ℕ) (ls : List (List ℕ)) → keys_behind g prefix (reaching w s (map (λ l. k ∷ l) ls)) ≡ keys_behind g (prefix ++ k ∷ []) (reaching w (s + k) ls)
unfolding keys_behind reaching keep total
behind-cons w g prefix k s [] = refl
behind-cons w g prefix k s (l ∷ ls) = by (is_in w (s + (k + total l))) (is_in w ((s + k) + total l)) (ap (is_in w) (omega arith)) (behind-cons w g prefix k s ls)
  where
    by : (t u : Bool) → t ≡ u → keys_behind g prefix (reaching w s (map (λ l. k ∷ l) ls)) ≡ keys_behind g (prefix ++ k ∷ []) (reaching w (s + k) ls)
        → map (λ l. key_of g (prefix ++ l)) (elim t [ true ↦ (k ∷ l) ∷ reaching w s (map (λ l. k ∷ l) ls) | false ↦ reaching w s (map (λ l. k ∷ l) ls) ])
        ≡ map (λ l. key_of g ((prefix ++ k ∷ []) ++ l)) (elim u [ true ↦ l ∷ reaching w (s + k) ls | false ↦ reaching w (s + k) ls ])
    by true true e r = ap₂ (λ x y. x ∷ y) (ap (key_of g) (sym (append_assoc prefix (k ∷ []) l))) r
    by false false e r = r
    by true false e r = cc
    by false true e r = cc

step : (l : Listing) (prefix : List ℕ) (n k s w : ℕ) → keys_behind l.genus prefix (reaching l.window s (lists_from (suc n) k (suc w))) ≡ keys_behind l.genus (prefix ++ k ∷ []) (reaching l.window (s + k) (lists_from n k (suc w))) ++ keys_behind l.genus prefix (reaching l.window s (lists_from (suc n) (suc k) w))
unfolding keys_behind reaching lists_from
step l prefix n k s w =
    ap (map (λ x. key_of l.genus (prefix ++ x))) (keep-append _ (map (λ x. k ∷ x) (lists_from n k (suc w))) (lists_from (suc n) (suc k) w))
    ∙ map-append (λ x. key_of l.genus (prefix ++ x)) (reaching l.window s (map (λ x. k ∷ x) (lists_from n k (suc w)))) (reaching l.window s (lists_from (suc n) (suc k) w))
    ∙ ap (λ t. t ++ keys_behind l.genus prefix (reaching l.window s (lists_from (suc n) (suc k) w))) (behind-cons l.window l.genus prefix k s (lists_from n k (suc w)))

pub found-next : (l : Listing) (prefix : List ℕ) (n k s : ℕ) → k < l.dim → found l prefix (suc n) k s ≡ found l (prefix ++ k ∷ []) n k (s + k) ++ found l prefix (suc n) (suc k) s
unfolding found
found-next l prefix n k s h = let e : l.dim - k ≡ suc (l.dim - suc k) = omega arith in
    rw e (step l prefix n k s (l.dim - suc k))

pub found-at : (l : Listing) (prefix : List ℕ) (n k s : ℕ) → 0 < n → k < l.dim → found l prefix n k s ≡ found l (prefix ++ k ∷ []) (n - 1) k (s + k) ++ found l prefix n (k + 1) s
found-at l prefix zero k s p h = absurd (omega arith)
found-at l prefix (suc n) k s p h =
    let less : suc n - 1 ≡ n = omega arith in
    let more : k + 1 ≡ suc k = omega arith in
    rw (less, more) (found-next l prefix n k s h)

-- keys with those that begin with the next index
pub listed-more : (l : Listing) (prefix next : List ℕ) (n k s : ℕ) (keys more all : List Key) → 0 < n → k < l.dim → next ≡ prefix ++ k ∷ [] → more ≡ keys ++ found l next (n - 1) k (s + k)
    → keys ++ found l prefix n k s ≡ all → more ++ found l prefix n (k + 1) s ≡ all
listed-more l prefix next n k s keys more all p h e m i =
    ap (λ x. x ++ found l prefix n (k + 1) s) (m ∙ ap (λ x. keys ++ found l x (n - 1) k (s + k)) e)
    ∙ append_assoc keys (found l (prefix ++ k ∷ []) (n - 1) k (s + k)) (found l prefix n (k + 1) s)
    ∙ ap (λ x. keys ++ x) (sym (found-at l prefix n k s p h)) ∙ i

pub too_many : (l : Listing) (prefix next : List ℕ) (n k s : ℕ) (keys all old : List Key) → 0 < n → k < l.dim → next ≡ prefix ++ k ∷ [] → 200000 < length keys + length (found l next (n - 1) k (s + k))
    → keys ++ found l prefix n k s ≡ old ++ all → 200000 < length old + length all
too_many l prefix next n k s keys all old p h e m i =
    let more : 200000 < length keys + length (found l (prefix ++ k ∷ []) (n - 1) k (s + k)) = subst (λ x. 200000 < length keys + length (found l x (n - 1) k (s + k))) e m in
    let whole : length keys + length (found l prefix n k s) ≡ length old + length all = sym (length-append keys (found l prefix n k s)) ∙ ap length i ∙ length-append old all in
    let parts : length (found l prefix n k s) ≡ length (found l (prefix ++ k ∷ []) (n - 1) k (s + k)) + length (found l prefix n (k + 1) s) = ap length (found-at l prefix n k s p h) ∙ length-append (found l (prefix ++ k ∷ []) (n - 1) k (s + k)) (found l prefix n (k + 1) s) in
    omega arith

pub popped : (xs ys : List ℕ) (x : ℕ) → ys ≡ take (length (xs ++ x ∷ []) - 1) (xs ++ x ∷ []) → ys ≡ xs
popped xs ys x e = let n : length (xs ++ x ∷ []) - 1 ≡ length xs = omega (arith, length-append xs (x ∷ [])) in
    e ∙ ap (λ n. take n (xs ++ x ∷ [])) n ∙ front xs
  where
    front : (xs : List ℕ) → take (length xs) (xs ++ x ∷ []) ≡ xs
    front [] = refl
    front (y ∷ xs) = ap (λ l. y ∷ l) (front xs)

pub found-end : (l : Listing) (prefix : List ℕ) (n k s : ℕ) → 0 < n → l.dim ≤ k → found l prefix n k s ≡ []
unfolding found keys_behind reaching lists_from keep
found-end l prefix zero k s p h = absurd (omega arith)
found-end l prefix (suc n) k s p h = let e : l.dim - k ≡ 0 = omega arith in rw e refl

-- ---- what is left out

pub total-least : (k : ℕ) (l : List ℕ) → Ascending k l → length l * k ≤ total l
unfolding total
total-least k [] s = omega arith
total-least k (x ∷ l) s = more (length l) (total l) x (total-least x l s.1) s.0
  where
    more : (n t x : ℕ) → n * x ≤ t → k ≤ x → suc n * k ≤ x + t
    more n t x h p = grind (arith, Rattle.std.proofs.Math.Nat.mul-le-mul_left n p)

pub total-most : (m : ℕ) (l : List ℕ) → AllBelow m l → total l ≤ length l * (m - 1)
unfolding total
total-most m [] b = omega arith
total-most m (x ∷ l) b = omega (arith, total-most m l b.1, b.0)

outside : (a t b low high : ℕ) → a ≤ t → t ≤ b → (leb a high && leb low b) ≡ false → (leb low t && leb t high) ≡ false
outside a t b low high p q c = grind arith

lower : (m n s k t : ℕ) → n ≡ m → m * k ≤ t → s + suc n * k ≤ (s + k) + t
lower m n s k t e h = let e' : n * k ≡ m * k = ap (λ x. x * k) e in omega (arith, e')

upper : (m n s k d t : ℕ) → m ≡ n → t ≤ m * (d - 1) → k < d → (s + k) + t ≤ s + suc n * (d - 1)
upper m n s k d t e h p = let e' : m * (d - 1) ≡ n * (d - 1) = ap (λ x. x * (d - 1)) e in omega (arith, e')

out_of_reach : (l : Listing) (n k s : ℕ) (x : List ℕ) → k < l.dim → can_reach l s (suc n) k ≡ false → IsListed n k l.dim x → is_in l.window ((s + k) + total x) ≡ false
unfolding can_reach is_in
out_of_reach l n k s x h c i =
    outside (s + suc n * k) ((s + k) + total x) (s + suc n * (l.dim - 1)) l.window.low l.window.high
    (lower (length x) n s k (total x) (sym i.long) (total-least k x i.sorted))
    (upper (length x) n s k l.dim (total x) i.long (total-most l.dim x i.small) h) c

pub found-none : (l : Listing) (prefix : List ℕ) (n k s : ℕ) → k < l.dim → can_reach l s (suc n) k ≡ false → found l (prefix ++ k ∷ []) n k (s + k) ≡ []
unfolding found keys_behind reaching
found-none l prefix n k s h c =
    ap (map (λ x. key_of l.genus ((prefix ++ k ∷ []) ++ x))) (keep-none _ (lists_from n k (l.dim - k)) (Each-weaken (IsListed n k l.dim) _ (lists_from n k (l.dim - k)) (λ x i. out_of_reach l n k s x h c i) (listed n (l.dim - k) k l.dim (omega arith))))

pub listed-same : (l : Listing) (prefix : List ℕ) (n k s : ℕ) (keys all : List Key) → 0 < n → k < l.dim → can_reach l s n k ≡ false → keys ++ found l prefix n k s ≡ all → keys ++ found l prefix n (k + 1) s ≡ all
listed-same l prefix n k s keys all p h c i =
    ap (λ x. keys ++ x) (sym (found-at l prefix n k s p h ∙ ap (λ x. x ++ found l prefix n (k + 1) s) (none n p c))) ∙ i
  where
    none : (n : ℕ) → 0 < n → can_reach l s n k ≡ false → found l (prefix ++ k ∷ []) (n - 1) k (s + k) ≡ []
    none zero p c = absurd (omega arith)
    none (suc n) p c = let less : suc n - 1 ≡ n = omega arith in rw less (found-none l prefix n k s h c)

-- ---- the prefix

pub sorted-front : (k m x : ℕ) (xs : List ℕ) → IsSortedFrom k m (xs ++ x ∷ []) → IsSortedFrom k m xs
unfolding IsSortedFrom
sorted-front k m x [] h = tt
sorted-front k m x (y ∷ xs) h = (h.0, h.1, sorted-front y m x xs h.2)

pub sorted-next : (k m x y : ℕ) (xs : List ℕ) → IsSortedFrom k m (xs ++ x ∷ []) → x ≤ y → y < m → IsSortedFrom k m ((xs ++ y ∷ []) ++ y ∷ [])
unfolding IsSortedFrom
sorted-next k m x y [] h p q = (omega (arith, h.0), q, (omega arith, q, tt))
sorted-next k m x y (z ∷ xs) h p q = (h.0, h.1, sorted-next z m x y xs h.2 p q)

-- ---- at the end of the prefix

pub found-key : (l : Listing) (prefix : List ℕ) (n k s : ℕ) → n ≡ 0 → is_in l.window s ≡ true → found l prefix n k s ≡ key_of l.genus prefix ∷ []
unfolding found keys_behind reaching lists_from keep total
found-key l prefix (suc n) k s z h = absurd (omega arith)
found-key l prefix zero k s z h = by (is_in l.window (s + 0)) (ap (is_in l.window) (omega arith) ∙ h)
  where
    by : (t : Bool) → t ≡ true → map (λ x. key_of l.genus (prefix ++ x)) (elim t [ true ↦ [] ∷ [] | false ↦ [] ]) ≡ key_of l.genus prefix ∷ []
    by true e = ap (λ p. key_of l.genus p ∷ []) (append-nil prefix)
    by false e = cc

pub found-no_key : (l : Listing) (prefix : List ℕ) (n k s : ℕ) → n ≡ 0 → is_in l.window s ≡ false → found l prefix n k s ≡ []
unfolding found keys_behind reaching lists_from keep total
found-no_key l prefix (suc n) k s z h = absurd (omega arith)
found-no_key l prefix zero k s z h = by (is_in l.window (s + 0)) (ap (is_in l.window) (omega arith) ∙ h)
  where
    by : (t : Bool) → t ≡ false → map (λ x. key_of l.genus (prefix ++ x)) (elim t [ true ↦ [] ∷ [] | false ↦ [] ]) ≡ []
    by true e = cc
    by false e = refl

pub append-none : {A : Type 0} (xs : List A) {ys : List A} → ys ≡ [] → xs ≡ xs ++ ys
append-none xs e = sym (ap (λ l. xs ++ l) e ∙ append-nil xs)
