-- The plan ascends strictly, and grows level by level.
use Prim.Native.Nat.{ℕ, zero, suc, ◌+◌, ◌*◌, ◌-◌, ◌/◌, ◌<◌, ◌≤◌}
use mathlib.Core.Path.{◌≡◌, refl, sym, ap, ap₂, subst, ◌∙◌}
use mathlib.Core.Bool.{Bool, true, false, ◌&&◌}
use mathlib.Core.List.{[], List, ◌∷◌, ◌++◌, map}
use mathlib.Core.Logic.{◌⊎◌, inl, inr}
use native.Mathlib.Omega.{arith}
use lib.Dec.{ltb}
use lib.ListN.{length, get_or}
use Rattle.std.proofs.lemmas.Bool.{and_parts, ltb-true, lt-ltb, le-ltb, eq-eqb, cases_lt}
use Rattle.airy_math.specs.Sums.{each, keep, below, count_from}
use Rattle.airy_math.specs.Keys.{Key, euler, key_of, less_list, before}
use Rattle.airy_math.specs.Shapes.{covers}
use Rattle.airy_math.specs.Tensors.{Tensors}
use Rattle.airy_math.specs.Planned.{planned, lists_from, IsPlanned}
use Rattle.airy_math.specs.Terms.{StandsIn}
use Rattle.airy_math.specs.Levels.{euler_of, level, number_before, GrowsByLevels, AscendsLaw, LevelsLaw}
use Rattle.airy_math.proofs.SumLemmas.{Each, Each-append, Each-map, Each-each, Each-count, Each-below, Each-weaken, Each-from_all}
use Rattle.airy_math.proofs.EachLemmas.{each-count_append, Each-at, Each-right, Each-behind, get_or-left, length-append}
use Rattle.airy_math.proofs.KeyLemmas.{append-nil}
use Rattle.airy_math.proofs.BeforeLemmas.{before-euler, before-genus, before-list, before-back, before-self}
use Rattle.airy_math.proofs.PlannedLaw.{IsListed, listed, Each-keep}
use Rattle.airy_math.proofs.PlanLemmas.{Has, planned_has, planned_only}

-- ---- lists in a strict order

-- each element stands in the relation to all later ones
abbrev pub Ordered : {A : Type 0} → (A → A → Bool) → List A → Type 0
Ordered r [] = Unit
Ordered r (x ∷ xs) = Each (λ y. r x y ≡ true) xs × Ordered r xs

Ordered-append : {A : Type 0} (r : A → A → Bool) (xs ys : List A) → Ordered r xs → Ordered r ys → Each (λ x. Each (λ y. r x y ≡ true) ys) xs → Ordered r (xs ++ ys)
Ordered-append r [] ys h k d = k
Ordered-append r (x ∷ xs) ys h k d = (Each-append (λ y. r x y ≡ true) xs ys h.0 d.0, Ordered-append r xs ys h.1 k d.1)

Ordered-map : {A B : Type 0} (r : A → A → Bool) (q : B → B → Bool) (P : A → Type 0) (f : A → B) (xs : List A) → ((x y : A) → P x → P y → r x y ≡ true → q (f x) (f y) ≡ true) → Each P xs → Ordered r xs → Ordered q (map f xs)
Ordered-map r q P f [] m p h = tt
Ordered-map r q P f (x ∷ xs) m p h =
    (Each-map (λ y. q (f x) y ≡ true) f xs (Each-two P (λ y. r x y ≡ true) (λ y. q (f x) (f y) ≡ true) xs (λ y s t. m x y p.0 s t) p.1 h.0), Ordered-map r q P f xs m p.1 h.1)
  where
    Each-two : {A : Type 0} (P Q R : A → Type 0) (xs : List A) → ((x : A) → P x → Q x → R x) → Each P xs → Each Q xs → Each R xs
    Each-two P Q R [] f p q = tt
    Each-two P Q R (x ∷ xs) f p q = (f x p.0 q.0, Each-two P Q R xs f p.1 q.1)

Each-kept : {A : Type 0} (P : A → Type 0) (p : A → Bool) (xs : List A) → Each P xs → Each P (keep p xs)
Each-kept P p xs h = Each-keep P p xs (Each-weaken P (λ x. p x ≡ true → P x) xs (λ x y t. y) h)

Ordered-keep : {A : Type 0} (r : A → A → Bool) (p : A → Bool) (xs : List A) → Ordered r xs → Ordered r (keep p xs)
unfolding keep
Ordered-keep r p [] h = tt
Ordered-keep r p (x ∷ xs) h = by (p x) (Each-kept (λ y. r x y ≡ true) p xs h.0) (Ordered-keep r p xs h.1)
  where
    by : (t : Bool) → Each (λ y. r x y ≡ true) (keep p xs) → Ordered r (keep p xs) → Ordered r (elim t [ true ↦ x ∷ keep p xs | false ↦ keep p xs ])
    by true d s = (d, s)
    by false d s = s

-- lists told apart by a number, one after the other
Ordered-count : {B : Type 0} (r : B → B → Bool) (P : B → Type 0) (tag : B → ℕ) (body : ℕ → List B) (k n : ℕ) → ((x y : B) → P x → P y → tag x < tag y → r x y ≡ true) → ((a : ℕ) → k ≤ a → a < k + n → Ordered r (body a)) → ((a : ℕ) → k ≤ a → a < k + n → Each (λ y. P y × (tag y ≡ a)) (body a)) → Ordered r (each (count_from k n) body)
unfolding each count_from
Ordered-count r P tag body k zero m h t = tt
Ordered-count r P tag body k (suc n) m h t =
    Ordered-append r (body k) (each (count_from (suc k) n) body) (h k (omega arith) (omega arith)) (Ordered-count r P tag body (suc k) n m (λ a p q. h a (omega arith) (omega arith)) (λ a p q. t a (omega arith) (omega arith)))
    (Each-weaken (λ y. P y × (tag y ≡ k)) (λ x. Each (λ y. r x y ≡ true) (each (count_from (suc k) n) body)) (body k) (λ x e. Each-weaken (λ y. P y × (k < tag y)) (λ y. r x y ≡ true) (each (count_from (suc k) n) body) (λ y d. m x y e.0 d.0 (omega (arith, e.1, d.1))) later) (t k (omega arith) (omega arith)))
  where
    later : Each (λ y. P y × (k < tag y)) (each (count_from (suc k) n) body)
    later = Each-each (λ y. P y × (k < tag y)) body (count_from (suc k) n) (Each-count (λ a. Each (λ y. P y × (k < tag y)) (body a)) (suc k) n (λ a p q. Each-weaken (λ y. P y × (tag y ≡ a)) (λ y. P y × (k < tag y)) (body a) (λ y e. (e.0, omega (arith, e.1))) (t a (omega arith) (omega arith))))

Ordered-at : {A : Type 0} (r : A → A → Bool) (xs : List A) (d : A) (i j : ℕ) → Ordered r xs → i < j → j < length xs → r (get_or xs i d) (get_or xs j d) ≡ true
Ordered-at r [] d i j o h k = absurd (omega arith)
Ordered-at r (x ∷ xs) d i zero o h k = absurd (omega arith)
Ordered-at r (x ∷ xs) d zero (suc j) o h k = Each-at (λ y. r x y ≡ true) xs d j o.0 (omega arith)
Ordered-at r (x ∷ xs) d (suc i) (suc j) o h k = Ordered-at r xs d i j o.1 (omega arith) (omega arith)

-- ---- index lists

cons-less : (k : ℕ) (x y : List ℕ) → less_list x y ≡ true → less_list (k ∷ x) (k ∷ y) ≡ true
unfolding less_list
cons-less k x y h = rw (le-ltb k k (omega arith), eq-eqb k k refl) h

head-less : (n k m : ℕ) (x l : List ℕ) → IsListed (suc n) (suc k) m l → less_list (k ∷ x) l ≡ true
unfolding less_list
head-less n k m x [] i = absurd (omega (arith, i.long))
head-less n k m x (a ∷ l) i = rw (lt-ltb k a i.sorted.0) refl

lists_ordered : (n w k : ℕ) → Ordered less_list (lists_from n k w)
unfolding lists_from
lists_ordered zero w k = (tt, tt)
lists_ordered (suc n) zero k = tt
lists_ordered (suc n) (suc w) k =
    Ordered-append less_list (map (λ l. k ∷ l) (lists_from n k (suc w))) (lists_from (suc n) (suc k) w)
    (Ordered-map less_list less_list (λ l. Unit) (λ l. k ∷ l) (lists_from n k (suc w)) (λ x y p q h. cons-less k x y h) (Each-from_all _ (lists_from n k (suc w)) (λ l. tt)) (lists_ordered n (suc w) k))
    (lists_ordered (suc n) w (suc k))
    (Each-map (λ x. Each (λ y. less_list x y ≡ true) (lists_from (suc n) (suc k) w)) (λ l. k ∷ l) (lists_from n k (suc w)) (Each-from_all _ (lists_from n k (suc w)) (λ x.
    Each-weaken (IsListed (suc n) (suc k) (suc k + w)) (λ y. less_list (k ∷ x) y ≡ true) (lists_from (suc n) (suc k) w) (λ y i. head-less n k (suc k + w) x y i) (listed (suc n) w (suc k) (suc k + w) (omega arith)))))

-- ---- one genus, one level, the plan

module _ (T : Tensors) where
  -- the planned keys of one Euler number and one genus
  abbrev of_genus : ℕ → ℕ → List Key
  of_genus e g = keep (λ key. ltb 0 (length key.idx) && covers T.shape key) (map (key_of g) (lists_from (e + 2 - 2 * g) 0 T.dim))

  genus_ordered : (e g : ℕ) → Ordered before (of_genus e g)
  unfolding key_of euler_of
  genus_ordered e g =
      Ordered-keep before _ (map (key_of g) (lists_from (e + 2 - 2 * g) 0 T.dim))
      (Ordered-map less_list before (IsListed (e + 2 - 2 * g) 0 T.dim) (key_of g) (lists_from (e + 2 - 2 * g) 0 T.dim) (λ x y p q h. before-list (key_of g x) (key_of g y) (ap (euler g) (p.long ∙ sym q.long)) refl h) (listed (e + 2 - 2 * g) T.dim 0 T.dim (omega arith)) (lists_ordered (e + 2 - 2 * g) T.dim 0))

  genus_tags : (e g : ℕ) → Each (λ key. (euler_of key ≡ e) × (key.g ≡ g)) (of_genus e g)
  unfolding key_of euler_of
  genus_tags e g =
      Each-keep (λ key. (euler_of key ≡ e) × (key.g ≡ g)) _ (map (key_of g) (lists_from (e + 2 - 2 * g) 0 T.dim))
      (Each-map _ (key_of g) (lists_from (e + 2 - 2 * g) 0 T.dim) (Each-weaken (IsListed (e + 2 - 2 * g) 0 T.dim) _ (lists_from (e + 2 - 2 * g) 0 T.dim)
      (λ l i t. (Rattle.airy_math.proofs.PlannedLaw.level e g (length l) i.long (ltb-true 0 (length l) (and_parts (ltb 0 (length l)) (covers T.shape (key_of g l)) t).0), refl)) (listed (e + 2 - 2 * g) T.dim 0 T.dim (omega arith))))

  level_ordered : (e : ℕ) → Ordered before (level T e)
  unfolding level below
  level_ordered e = Ordered-count before (λ key. euler_of key ≡ e) (λ key. key.g) (of_genus e) 0 (suc (e / 2 + 1)) (λ x y p q h. before-genus x y (p ∙ sym q) h) (λ g p q. genus_ordered e g) (λ g p q. genus_tags e g)

  level_tags : (e : ℕ) → Each (λ key. euler_of key ≡ e) (level T e)
  unfolding level
  level_tags e = Each-each (λ key. euler_of key ≡ e) (of_genus e) (below (suc (e / 2 + 1))) (Each-below _ (suc (e / 2 + 1)) (λ g p. Each-weaken (λ key. (euler_of key ≡ e) × (key.g ≡ g)) (λ key. euler_of key ≡ e) (of_genus e g) (λ key t. t.0) (genus_tags e g)))

  planned_levels : (X : ℕ) → planned T X ≡ each (count_from 1 X) (level T)
  unfolding planned level
  planned_levels X = refl

  pub planned_ordered : (X : ℕ) → Ordered before (planned T X)
  planned_ordered X = subst (Ordered before) (sym (planned_levels X))
      (Ordered-count before (λ key. Unit) euler_of (level T) 1 X (λ x y p q h. before-euler x y h) (λ e p q. level_ordered e) (λ e p q. Each-weaken (λ key. euler_of key ≡ e) (λ key. Unit × (euler_of key ≡ e)) (level T e) (λ key t. (tt, t)) (level_tags e)))

-- ---- ranks

kept_true : (p : Key → Bool) (x : Key) (xs : List Key) → p x ≡ true → keep p (x ∷ xs) ≡ x ∷ keep p xs
unfolding keep
kept_true p x xs e = rw (e, keep) refl

kept_false : (p : Key → Bool) (x : Key) (xs : List Key) → p x ≡ false → keep p (x ∷ xs) ≡ keep p xs
unfolding keep
kept_false p x xs e = rw (e, keep) refl

kept_none : (p : Key → Bool) (xs : List Key) → Each (λ x. p x ≡ false) xs → keep p xs ≡ []
unfolding keep
kept_none p [] h = refl
kept_none p (x ∷ xs) h = kept_false p x xs h.0 ∙ kept_none p xs h.1

rank_is : (xs : List Key) (d : Key) (r : ℕ) → Ordered before xs → r < length xs → number_before (get_or xs r d) xs ≡ r
unfolding number_before
rank_is [] d r o h = absurd (omega arith)
rank_is (x ∷ xs) d zero o h = ap length (kept_false (λ k. before k x) x xs (before-self x) ∙ kept_none (λ k. before k x) xs (Each-weaken _ _ xs (λ y l. before-back x y l) o.0))
rank_is (x ∷ xs) d (suc r) o h =
    ap length (kept_true (λ k. before k (get_or xs r d)) x xs (Each-at (λ y. before x y ≡ true) xs d r o.0 (omega arith))) ∙ ap suc (rank_is xs d r o.1 (omega arith))

pub ascends : AscendsLaw
ascends T X = record {
  all = λ d r s h k. Ordered-at before (planned T X) d r s (planned_ordered T X) h k;
  ranks = λ d r h. rank_is (planned T X) d r (planned_ordered T X) h;
}

-- ---- levels

module _ (T : Tensors) (X : ℕ) where
  pub longer : (m : ℕ) → planned T (X + m) ≡ planned T X ++ each (count_from (suc X) m) (level T)
  longer m = planned_levels T (X + m) ∙ each-count_append (level T) 1 X m ∙ ap₂ (λ l k. l ++ each (count_from k m) (level T)) (sym (planned_levels T X)) (omega arith)

  next_level : planned T (suc X) ≡ planned T X ++ level T (suc X)
  unfolding each count_from
  next_level = ap (planned T) (plus_one X) ∙ longer 1 ∙ ap (λ l. planned T X ++ l) (append-nil (level T (suc X)))
    where
      plus_one : (X : ℕ) → suc X ≡ X + 1
      plus_one X = omega arith

  stands_each : (P : Key → Type 0) (key : Key) (xs : List Key) → Each P xs → StandsIn key xs → P key
  unfolding StandsIn
  stands_each P key [] e h = absurd h
  stands_each P key (x ∷ xs) e (inl s) = subst P (sym s) e.0
  stands_each P key (x ∷ xs) e (inr h) = stands_each P key xs e.1 h

  -- a key of a greater Euler number than all of the first list stands in the second
  stands_behind : (key : Key) (xs ys : List Key) → Each (λ k. euler_of k ≤ X) xs → X < euler_of key → Has key (xs ++ ys) → StandsIn key ys
  unfolding StandsIn
  stands_behind key [] [] e l h = h
  stands_behind key [] (y ∷ ys) e l (inl s) = inl s
  stands_behind key [] (y ∷ ys) e l (inr h) = inr (stands_behind key [] ys tt l h)
  stands_behind key (x ∷ xs) ys e l (inl s) = absurd (omega (arith, e.0, ap euler_of s))
  stands_behind key (x ∷ xs) ys e l (inr h) = stands_behind key xs ys e.1 l h

  small_keys : Each (λ k. euler_of k ≤ X) (planned T X)
  unfolding euler_of
  small_keys = Each-weaken (IsPlanned T X) (λ k. euler_of k ≤ X) (planned T X) (λ k p. p.within) (planned_only T X)

  level_keys : Each (IsPlanned T (suc X)) (level T (suc X))
  level_keys = Each-right (IsPlanned T (suc X)) (planned T X) (level T (suc X)) (subst (Each (IsPlanned T (suc X))) next_level (planned_only T (suc X)))

  great_keys : (m : ℕ) → Each (λ k. X < euler_of k) (each (count_from (suc X) m) (level T))
  great_keys m = Each-each (λ k. X < euler_of k) (level T) (count_from (suc X) m) (Each-count _ (suc X) m (λ e p q. Each-weaken (λ key. euler_of key ≡ e) (λ k. X < euler_of k) (level T e) (λ k t. omega (arith, t)) (level_tags T e)))

  split_at : (Y : ℕ) → X ≤ Y → planned T Y ≡ planned T X ++ each (count_from (suc X) (Y - X)) (level T)
  split_at Y h = ap (planned T) (again X Y h) ∙ longer (Y - X)
    where
      again : (X Y : ℕ) → X ≤ Y → Y ≡ X + (Y - X)
      again X Y h = omega arith

  ends_of : (xs ys : List Key) (d : Key) (r : ℕ) → Each (λ k. euler_of k ≤ X) xs → Each (λ k. X < euler_of k) ys → r < length (xs ++ ys) → euler_of (get_or (xs ++ ys) r d) ≤ X → r < length xs
  ends_of xs ys d r e f h l = by (cases_lt r (length xs))
    where
      by : (r < length xs) ⊎ (length xs ≤ r) → r < length xs
      by (inl p) = p
      by (inr p) = absurd (omega (arith, Each-behind (λ k. X < euler_of k) xs ys d r f p h))

  starts_of : (xs ys : List Key) (d : Key) (r : ℕ) → Each (λ k. euler_of k ≤ X) xs → r < length xs → euler_of (get_or (xs ++ ys) r d) ≤ X
  starts_of xs ys d r e h = subst (λ k. euler_of k ≤ X) (sym (get_or-left xs ys d r h)) (Each-at (λ k. euler_of k ≤ X) xs d r e h)

  no_level : each (count_from 1 0) (level T) ≡ []
  unfolding each count_from
  no_level = refl

  pub length-grows : (Y : ℕ) → X ≤ Y → length (planned T X) ≤ length (planned T Y)
  length-grows Y h = omega (arith, ap length (split_at Y h), length-append (planned T X) (each (count_from (suc X) (Y - X)) (level T)))

  pub grows : GrowsByLevels T X
  unfolding euler_of
  grows = record {
    none = planned_levels T 0 ∙ no_level;
    next = next_level;
    keys = λ key. (
      λ h. (stands_each (IsPlanned T (suc X)) key (level T (suc X)) level_keys h, stands_each (λ k. euler_of k ≡ suc X) key (level T (suc X)) (level_tags T (suc X)) h),
      λ p. stands_behind key (planned T X) (level T (suc X)) small_keys (omega (arith, p.1)) (subst (Has key) next_level (planned_has T (suc X) key p.0)),
    );
    kept = λ Y h d r k. ap (λ l. get_or l r d) (split_at Y h) ∙ get_or-left (planned T X) (each (count_from (suc X) (Y - X)) (level T)) d r k;
    ends = λ Y h d r k. (
      λ q. subst (λ l. euler_of (get_or l r d) ≤ X) (sym (split_at Y h)) (starts_of (planned T X) (each (count_from (suc X) (Y - X)) (level T)) d r small_keys q),
      λ q. ends_of (planned T X) (each (count_from (suc X) (Y - X)) (level T)) d r small_keys (great_keys (Y - X)) (subst (λ l. r < length l) (split_at Y h) k) (subst (λ l. euler_of (get_or l r d) ≤ X) (split_at Y h) q),
    );
  }

pub levels : LevelsLaw
levels T X = grows T X
