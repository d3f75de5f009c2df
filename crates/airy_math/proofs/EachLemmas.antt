-- Laws of lists that are made element by element.
use Prim.Native.Nat.{ℕ, zero, suc, ◌+◌, ◌<◌, ◌≤◌}
use mathlib.Core.Path.{◌≡◌, refl, sym, ap, ap₂, ◌∙◌}
use mathlib.Core.List.{[], List, ◌∷◌, ◌++◌, map}
use native.Mathlib.Omega.{arith}
use lib.ListN.{length, get_or}
use Rattle.airy_math.specs.Sums.{each, count_from, keep}
use Rattle.airy_math.proofs.SumLemmas.{Each}
use mathlib.Core.Bool.{Bool, true, false, cond}
use Rattle.std.proofs.Common.{take, drop}
use Rattle.std.proofs.lemmas.List.{take-append-drop}

pub append_assoc : {A : Type 0} (xs ys zs : List A) → (xs ++ ys) ++ zs ≡ xs ++ (ys ++ zs)
append_assoc [] ys zs = refl
append_assoc (x ∷ xs) ys zs = ap (λ t. x ∷ t) (append_assoc xs ys zs)

pub each-append : {A B : Type 0} (xs ys : List A) (f : A → List B) → each (xs ++ ys) f ≡ each xs f ++ each ys f
unfolding each
each-append [] ys f = refl
each-append (x ∷ xs) ys f = ap (λ t. f x ++ t) (each-append xs ys f) ∙ sym (append_assoc (f x) (each xs f) (each ys f))

-- k, k + 1, and so on: first n numbers, then m
pub count-append : (k n m : ℕ) → count_from k (n + m) ≡ count_from k n ++ count_from (k + n) m
unfolding count_from
count-append k zero m = ap₂ count_from (plus_zero k) (zero_plus m)
  where
    plus_zero : (k : ℕ) → k ≡ k + 0
    plus_zero k = omega arith

    zero_plus : (m : ℕ) → 0 + m ≡ m
    zero_plus m = omega arith
count-append k (suc n) m = ap (count_from k) (suc_plus n m) ∙ ap (λ t. k ∷ t) (count-append (suc k) n m ∙ ap (λ j. count_from (suc k) n ++ count_from j m) (move k n))
  where
    suc_plus : (n m : ℕ) → suc n + m ≡ suc (n + m)
    suc_plus n m = omega arith

    move : (k n : ℕ) → suc k + n ≡ k + suc n
    move k n = omega arith

pub each-count_append : {B : Type 0} (f : ℕ → List B) (k n m : ℕ) → each (count_from k (n + m)) f ≡ each (count_from k n) f ++ each (count_from (k + n) m) f
each-count_append f k n m = ap (λ l. each l f) (count-append k n m) ∙ each-append (count_from k n) (count_from (k + n) m) f

pub length-append : {A : Type 0} (xs ys : List A) → length (xs ++ ys) ≡ length xs + length ys
length-append [] ys = omega arith
length-append (x ∷ xs) ys = omega (arith, length-append xs ys)

pub Each-at : {A : Type 0} (P : A → Type 0) (xs : List A) (d : A) (r : ℕ) → Each P xs → r < length xs → P (get_or xs r d)
Each-at P [] d r e h = absurd (omega arith)
Each-at P (x ∷ xs) d zero e h = e.0
Each-at P (x ∷ xs) d (suc r) e h = Each-at P xs d r e.1 (omega arith)

pub Each-left : {A : Type 0} (P : A → Type 0) (xs ys : List A) → Each P (xs ++ ys) → Each P xs
Each-left P [] ys e = tt
Each-left P (x ∷ xs) ys e = (e.0, Each-left P xs ys e.1)

pub Each-right : {A : Type 0} (P : A → Type 0) (xs ys : List A) → Each P (xs ++ ys) → Each P ys
Each-right P [] ys e = e
Each-right P (x ∷ xs) ys e = Each-right P xs ys e.1

pub get_or-left : {A : Type 0} (xs ys : List A) (d : A) (r : ℕ) → r < length xs → get_or (xs ++ ys) r d ≡ get_or xs r d
get_or-left [] ys d r h = absurd (omega arith)
get_or-left (x ∷ xs) ys d zero h = refl
get_or-left (x ∷ xs) ys d (suc r) h = get_or-left xs ys d r (omega arith)

-- behind the first list stands the second
pub Each-behind : {A : Type 0} (P : A → Type 0) (xs ys : List A) (d : A) (r : ℕ) → Each P ys → length xs ≤ r → r < length (xs ++ ys) → P (get_or (xs ++ ys) r d)
Each-behind P [] ys d r e h k = Each-at P ys d r e k
Each-behind P (x ∷ xs) ys d zero e h k = absurd (omega arith)
Each-behind P (x ∷ xs) ys d (suc r) e h k = Each-behind P xs ys d r e (omega arith) (omega arith)

pub keep-append : {A : Type 0} (p : A → Bool) (xs ys : List A) → keep p (xs ++ ys) ≡ keep p xs ++ keep p ys
unfolding keep
keep-append p [] ys = refl
keep-append p (x ∷ xs) ys = by (p x) (keep-append p xs ys)
  where
    by : (t : Bool) → keep p (xs ++ ys) ≡ keep p xs ++ keep p ys → elim t [ true ↦ x ∷ keep p (xs ++ ys) | false ↦ keep p (xs ++ ys) ] ≡ elim t [ true ↦ x ∷ keep p xs | false ↦ keep p xs ] ++ keep p ys
    by true r = ap (λ t. x ∷ t) r
    by false r = r

pub map-append : {A B : Type 0} (f : A → B) (xs ys : List A) → map f (xs ++ ys) ≡ map f xs ++ map f ys
map-append f [] ys = refl
map-append f (x ∷ xs) ys = ap (λ t. f x ∷ t) (map-append f xs ys)

pub each-cong : {A B : Type 0} (f h : A → List B) (xs : List A) → ((x : A) → f x ≡ h x) → each xs f ≡ each xs h
unfolding each
each-cong f h [] e = refl
each-cong f h (x ∷ xs) e = ap₂ ◌++◌ (e x) (each-cong f h xs e)

pub each-map : {A B C : Type 0} (g : B → List C) (f : A → B) (xs : List A) → each (map f xs) g ≡ each xs (λ x. g (f x))
unfolding each
each-map g f [] = refl
each-map g f (x ∷ xs) = ap (λ t. g (f x) ++ t) (each-map g f xs)

pub each-each : {A B C : Type 0} (g : B → List C) (f : A → List B) (xs : List A) → each (each xs f) g ≡ each xs (λ x. each (f x) g)
unfolding each
each-each g f [] = refl
each-each g f (x ∷ xs) = each-append (f x) (each xs f) g ∙ ap (λ t. each (f x) g ++ t) (each-each g f xs)

pub each-none : {A B : Type 0} (f : A → List B) (xs : List A) → Each (λ x. f x ≡ []) xs → each xs f ≡ []
unfolding each
each-none f [] h = refl
each-none f (x ∷ xs) h = ap₂ ◌++◌ h.0 (each-none f xs h.1)

-- the elements that pass, one by one
pub keep-singles : {A : Type 0} (p : A → Bool) (xs : List A) → keep p xs ≡ each xs (λ x. cond (p x) (x ∷ []) [])
unfolding keep each
keep-singles p [] = refl
keep-singles p (x ∷ xs) = by (p x) (keep-singles p xs)
  where
    by : (t : Bool) → keep p xs ≡ each xs (λ x. cond (p x) (x ∷ []) []) → elim t [ true ↦ x ∷ keep p xs | false ↦ keep p xs ] ≡ cond t (x ∷ []) [] ++ each xs (λ x. cond (p x) (x ∷ []) [])
    by true e = ap (λ t. x ∷ t) e
    by false e = e

pub map-cong_each : {A B : Type 0} (f h : A → B) (xs : List A) → Each (λ x. f x ≡ h x) xs → map f xs ≡ map h xs
map-cong_each f h [] e = refl
map-cong_each f h (x ∷ xs) e = ap₂ ◌∷◌ e.0 (map-cong_each f h xs e.1)

pub take-one_more : (done rest more : List (List ℕ)) (w : List ℕ) → take (suc (length done)) (done ++ (w ∷ rest)) ++ more ≡ done ++ (w ∷ more)
take-one_more [] rest more w = refl
take-one_more (v ∷ done) rest more w = ap (λ x. v ∷ x) (take-one_more done rest more w)

pub parted : (k : ℕ) (ws more : List (List ℕ)) → ws ++ more ≡ take k ws ++ (drop k ws ++ more)
parted k ws more = sym (ap (λ x. x ++ more) (take-append-drop k ws)) ∙ append_assoc (take k ws) (drop k ws) more
