-- The order of keys is a strict total order.
use Prim.Native.Nat.{ℕ, ◌<◌}
use mathlib.Core.Path.{◌≡◌, refl, sym, ◌∙◌}
use mathlib.Core.Bool.{Bool, true, false, ◌&&◌, cond}
use mathlib.Core.List.{[], List, ◌∷◌}
use mathlib.Core.Logic.{◌⊎◌, inl, inr}
use native.Mathlib.Omega.{arith}
use lib.Dec.{ltb, eqb}
use Rattle.std.proofs.lemmas.Bool.{cases_order, lt-ltb, le-ltb, eq-eqb, ne_eqb}
use Rattle.airy_math.specs.Keys.{Key, less_list, before}
use Rattle.airy_math.specs.Levels.{euler_of}

-- ---- one step: p before q, or p is q and the rest decides

step-less : (p q : ℕ) (t : Bool) → p < q → cond (ltb p q) true (eqb p q && t) ≡ true
step-less p q t h = rw (lt-ltb p q h) refl

step-same : (p q : ℕ) (t : Bool) → p ≡ q → cond (ltb p q) true (eqb p q && t) ≡ t
step-same p q t e = rw (le-ltb p q (omega arith), eq-eqb p q e) refl

step-greater : (p q : ℕ) (t : Bool) → q < p → cond (ltb p q) true (eqb p q && t) ≡ false
step-greater p q t h = rw (le-ltb p q (omega arith), ne_eqb p q (λ e. omega arith)) refl

step_cases : (p q : ℕ) (t : Bool) → cond (ltb p q) true (eqb p q && t) ≡ true → (p < q) ⊎ ((p ≡ q) × (t ≡ true))
step_cases p q t h = by (cases_order p q)
  where
    by : (p ≡ q) ⊎ ((p < q) ⊎ (q < p)) → (p < q) ⊎ ((p ≡ q) × (t ≡ true))
    by (inl e) = inr (e, sym (step-same p q t e) ∙ h)
    by (inr (inl l)) = inl l
    by (inr (inr l)) = absurd (clash (sym h ∙ step-greater p q t l))
      where
        clash : true ≡ false → ⊥
        clash e = cc

step_back : (p q : ℕ) (t u : Bool) → cond (ltb p q) true (eqb p q && t) ≡ true → (t ≡ true → u ≡ false) → cond (ltb q p) true (eqb q p && u) ≡ false
step_back p q t u h k = by (step_cases p q t h)
  where
    by : (p < q) ⊎ ((p ≡ q) × (t ≡ true)) → cond (ltb q p) true (eqb q p && u) ≡ false
    by (inl l) = step-greater q p u l
    by (inr e) = step-same q p u (sym e.0) ∙ k e.1

step_trans : (p q r : ℕ) (t u v : Bool) → cond (ltb p q) true (eqb p q && t) ≡ true → cond (ltb q r) true (eqb q r && u) ≡ true → (t ≡ true → u ≡ true → v ≡ true) → cond (ltb p r) true (eqb p r && v) ≡ true
step_trans p q r t u v h k f = by (step_cases p q t h) (step_cases q r u k)
  where
    by : (p < q) ⊎ ((p ≡ q) × (t ≡ true)) → (q < r) ⊎ ((q ≡ r) × (u ≡ true)) → cond (ltb p r) true (eqb p r && v) ≡ true
    by (inl l) (inl m) = step-less p r v (omega arith)
    by (inl l) (inr e) = step-less p r v (omega (arith, e.0))
    by (inr e) (inl m) = step-less p r v (omega (arith, e.0))
    by (inr e) (inr d) = step-same p r v (e.0 ∙ d.0) ∙ f e.1 d.1

-- ---- the dictionary

pub less_list-back : (x y : List ℕ) → less_list x y ≡ true → less_list y x ≡ false
unfolding less_list
less_list-back [] [] h = refl
less_list-back [] (b ∷ y) h = refl
less_list-back (a ∷ x) [] h = cc
less_list-back (a ∷ x) (b ∷ y) h = step_back a b (less_list x y) (less_list y x) h (less_list-back x y)

pub less_list-trans : (x y z : List ℕ) → less_list x y ≡ true → less_list y z ≡ true → less_list x z ≡ true
unfolding less_list
less_list-trans [] [] z h k = cc
less_list-trans [] (b ∷ y) [] h k = cc
less_list-trans [] (b ∷ y) (c ∷ z) h k = refl
less_list-trans (a ∷ x) [] z h k = cc
less_list-trans (a ∷ x) (b ∷ y) [] h k = cc
less_list-trans (a ∷ x) (b ∷ y) (c ∷ z) h k = step_trans a b c (less_list x y) (less_list y z) (less_list x z) h k (less_list-trans x y z)

pub less_list-total : (x y : List ℕ) → (x ≡ y) ⊎ ((less_list x y ≡ true) ⊎ (less_list y x ≡ true))
unfolding less_list
less_list-total [] [] = inl refl
less_list-total [] (b ∷ y) = inr (inl refl)
less_list-total (a ∷ x) [] = inr (inr refl)
less_list-total (a ∷ x) (b ∷ y) = by (cases_order a b) (less_list-total x y)
  where
    by : (a ≡ b) ⊎ ((a < b) ⊎ (b < a)) → (x ≡ y) ⊎ ((less_list x y ≡ true) ⊎ (less_list y x ≡ true)) → (◌≡◌ {A = List ℕ} (a ∷ x) (b ∷ y)) ⊎ ((cond (ltb a b) true (eqb a b && less_list x y) ≡ true) ⊎ (cond (ltb b a) true (eqb b a && less_list y x) ≡ true))
    by (inl e) (inl f) = inl (λ i. e i ∷ f i)
    by (inl e) (inr (inl f)) = inr (inl (step-same a b _ e ∙ f))
    by (inl e) (inr (inr f)) = inr (inr (step-same b a _ (sym e) ∙ f))
    by (inr (inl l)) r = inr (inl (step-less a b _ l))
    by (inr (inr l)) r = inr (inr (step-less b a _ l))

-- ---- keys

-- the genus and the list, as the order of a plan compares them where the Euler numbers are equal
abbrev within : Key → Key → Bool
within a b = cond (ltb a.g b.g) true (eqb a.g b.g && less_list a.idx b.idx)

within-back : (a b : Key) → within a b ≡ true → within b a ≡ false
within-back a b h = step_back a.g b.g (less_list a.idx b.idx) (less_list b.idx a.idx) h (less_list-back a.idx b.idx)

within-trans : (a b c : Key) → within a b ≡ true → within b c ≡ true → within a c ≡ true
within-trans a b c h k = step_trans a.g b.g c.g (less_list a.idx b.idx) (less_list b.idx c.idx) (less_list a.idx c.idx) h k (less_list-trans a.idx b.idx c.idx)

pub before-euler : (a b : Key) → euler_of a < euler_of b → before a b ≡ true
unfolding before euler_of
before-euler a b h = step-less (euler_of a) (euler_of b) (within a b) h

pub before-genus : (a b : Key) → euler_of a ≡ euler_of b → a.g < b.g → before a b ≡ true
unfolding before euler_of
before-genus a b e h = step-same (euler_of a) (euler_of b) (within a b) e ∙ step-less a.g b.g (less_list a.idx b.idx) h

pub before-list : (a b : Key) → euler_of a ≡ euler_of b → a.g ≡ b.g → less_list a.idx b.idx ≡ true → before a b ≡ true
unfolding before euler_of
before-list a b e h l = step-same (euler_of a) (euler_of b) (within a b) e ∙ step-same a.g b.g (less_list a.idx b.idx) h ∙ l

-- Of two keys at most one is before the other; so no key is before itself.
pub before-back : (a b : Key) → before a b ≡ true → before b a ≡ false
unfolding before euler_of
before-back a b h = step_back (euler_of a) (euler_of b) (within a b) (within b a) h (within-back a b)

pub before-self : (a : Key) → before a a ≡ false
before-self a = by (before a a) refl
  where
    by : (t : Bool) → before a a ≡ t → before a a ≡ false
    by true e = before-back a a e
    by false e = e

pub before-trans : (a b c : Key) → before a b ≡ true → before b c ≡ true → before a c ≡ true
unfolding before euler_of
before-trans a b c h k = step_trans (euler_of a) (euler_of b) (euler_of c) (within a b) (within b c) (within a c) h k (within-trans a b c)

-- Of two different keys one is before the other.
pub before-total : (a b : Key) → (before a b ≡ true) ⊎ ((before b a ≡ true) ⊎ (a ≡ b))
before-total a b = by (cases_order (euler_of a) (euler_of b)) (cases_order a.g b.g) (less_list-total a.idx b.idx)
  where
    by : (euler_of a ≡ euler_of b) ⊎ ((euler_of a < euler_of b) ⊎ (euler_of b < euler_of a)) → (a.g ≡ b.g) ⊎ ((a.g < b.g) ⊎ (b.g < a.g)) → (a.idx ≡ b.idx) ⊎ ((less_list a.idx b.idx ≡ true) ⊎ (less_list b.idx a.idx ≡ true)) → (before a b ≡ true) ⊎ ((before b a ≡ true) ⊎ (a ≡ b))
    by (inr (inl l)) g i = inl (before-euler a b l)
    by (inr (inr l)) g i = inr (inl (before-euler b a l))
    by (inl e) (inr (inl l)) i = inl (before-genus a b e l)
    by (inl e) (inr (inr l)) i = inr (inl (before-genus b a (sym e) l))
    by (inl e) (inl g) (inl i) = inr (inr (λ t. record { g = g t; idx = i t }))
    by (inl e) (inl g) (inr (inl l)) = inl (before-list a b e g l)
    by (inl e) (inl g) (inr (inr l)) = inr (inl (before-list b a (sym e) (sym g) l))
