-- Lists of items in order: what a test picks, one more item, and a search.
use Rattle.std.proofs.Common.{◌≡◌, ℕ, zero, suc, ◌<◌, ◌≤◌, ◌⊎◌, inl, inr, Bool, true, false, cond, List, [], ◌∷◌, ◌++◌, length, get_or, map, refl, ap, ◌∙◌, arith, Ordering, Less, Equal, Greater}
use Rattle.std.specs.Ordering.{ordering_index}
use Rattle.airy_math.specs.Rational.{ℚ}
use Rattle.airy_math.specs.RationalLaws.{0ℚ}
use Rattle.airy_math.proofs.SumLemmas.{Each, Each-weaken}
use Rattle.airy_math.proofs.EachLemmas.{Each-at}
use Rattle.sparse_tensor.specs.Items.{fold_where, first_value, is_any, picked, put_in_front, IsNext, Ascends}
use Rattle.sparse_tensor.specs.Rows.{IsFound, IsGap}

-- ---- items that a test picks

pub none-picked : {E : Type 0} (p : E → Bool) (es : List E) → is_any p es ≡ false → Each (λ e. p e ≡ false) es
none-picked p [] h = tt
none-picked p (e ∷ es) h = by (p e) refl h (none-picked p es)
  where
    by : (t : Bool) → p e ≡ t → cond t true (is_any p es) ≡ false → (is_any p es ≡ false → Each (λ e. p e ≡ false) es) → Each (λ e. p e ≡ false) (e ∷ es)
    by true t h rest = cc
    by false t h rest = (t, rest h)

pub fold-none : {E B : Type 0} (p : E → Bool) (s : E → B → B) (z : B) (es : List E) → Each (λ e. p e ≡ false) es → fold_where p s z es ≡ z
fold-none p s z [] h = refl
fold-none p s z (e ∷ es) h = let t : p e ≡ false = h.0 in rw t (fold-none p s z es h.1)

pub fold-behind : {E B : Type 0} (p : E → Bool) (s : E → B → B) (z : B) (xs ys : List E) → Each (λ e. p e ≡ false) xs → fold_where p s z (xs ++ ys) ≡ fold_where p s z ys
fold-behind p s z [] ys h = refl
fold-behind p s z (e ∷ xs) ys h = let t : p e ≡ false = h.0 in rw t (fold-behind p s z xs ys h.1)

pub fold-before : {E B : Type 0} (p : E → Bool) (s : E → B → B) (z : B) (xs ys : List E) → Each (λ e. p e ≡ false) ys → fold_where p s z (xs ++ ys) ≡ fold_where p s z xs
fold-before p s z [] ys h = fold-none p s z ys h
fold-before p s z (e ∷ xs) ys h = ap (λ r. cond (p e) (s e r) r) (fold-before p s z xs ys h)

pub fold-map : {A E B : Type 0} (p : E → Bool) (s : E → B → B) (z : B) (f : A → E) (q : A → Bool) → ((a : A) → p (f a) ≡ q a) → (xs : List A) → fold_where p s z (map f xs) ≡ fold_where q (λ a r. s (f a) r) z xs
fold-map p s z f q h [] = refl
fold-map p s z f q h (a ∷ xs) = rw (h a) (ap (λ r. cond (q a) (s (f a) r) r) (fold-map p s z f q h xs))

pub picked-all : {E : Type 0} (es : List E) → picked (λ e. true) (λ e. e) es ≡ es
picked-all [] = refl
picked-all (e ∷ es) = ap (λ r. e ∷ r) (picked-all es)

-- What stands where a test picks: an item of which P holds, or nothing.
abbrev pub Stands : {E : Type 0} → (E → Type 0) → (E → Bool) → (E → ℚ) → List E → Type 0
Stands {E} P p v es = ((e : E) × P e × (p e ≡ true) × (first_value p v es ≡ v e)) ⊎ ((is_any p es ≡ false) × (first_value p v es ≡ 0ℚ))

pub stands : {E : Type 0} (P : E → Type 0) (p : E → Bool) (v : E → ℚ) (es : List E) → Each P es → Stands P p v es
stands P p v [] h = inr (refl, refl)
stands P p v (e ∷ es) h = by (p e) refl (stands P p v es h.1)
  where
    by : (t : Bool) → p e ≡ t → Stands P p v es → Stands P p v (e ∷ es)
    by true t rest = inl (e, h.0, t, rw t refl)
    by false t rest = rw t rest

-- ---- one more item

-- it is picked before the others, where no other is picked with it
pub fold-put : {E B : Type 0} (p : E → Bool) (s : E → B → B) (z : B) (b : E → Bool) (x : E) (es : List E) → (p x ≡ true → Each (λ e. p e ≡ false) es) → fold_where p s z (put_in_front b x es) ≡ cond (p x) (s x (fold_where p s z es)) (fold_where p s z es)
fold-put p s z b x [] h = refl
fold-put {B = B} p s z b x (e ∷ es) h = by (b e) (fold-put p s z b x es (λ t. (h t).1))
  where
    swap : (r t : Bool) (rest : B) → (t ≡ true → r ≡ false) → cond r (s e (cond t (s x rest) rest)) (cond t (s x rest) rest) ≡ cond t (s x (cond r (s e rest) rest)) (cond r (s e rest) rest)
    swap true true rest apart = let not : true ≡ false = apart refl in cc
    swap true false rest apart = refl
    swap false true rest apart = refl
    swap false false rest apart = refl

    by : (t : Bool) → fold_where p s z (put_in_front b x es) ≡ cond (p x) (s x (fold_where p s z es)) (fold_where p s z es) → fold_where p s z (cond t (x ∷ e ∷ es) (e ∷ put_in_front b x es)) ≡ cond (p x) (s x (fold_where p s z (e ∷ es))) (fold_where p s z (e ∷ es))
    by true rest = refl
    by false rest = ap (λ r. cond (p e) (s e r) r) rest ∙ swap (p e) (p x) (fold_where p s z es) (λ t. (h t).0)

pub each-put : {E : Type 0} (P : E → Type 0) (b : E → Bool) (x : E) (es : List E) → P x → Each P es → Each P (put_in_front b x es)
each-put P b x [] p h = (p, tt)
each-put P b x (e ∷ es) p h = by (b e) (each-put P b x es p h.1)
  where
    by : (t : Bool) → Each P (put_in_front b x es) → Each P (cond t (x ∷ e ∷ es) (e ∷ put_in_front b x es))
    by true rest = (p, h)
    by false rest = (h.0, rest)

next-put : {E : Type 0} (before : E → E → Bool) (y : E) (b : E → Bool) (x : E) (es : List E) → before y x ≡ true → IsNext before y es → IsNext before y (put_in_front b x es)
next-put before y b x [] l h = l
next-put before y b x (e ∷ es) l h = by (b e)
  where
    by : (t : Bool) → IsNext before y (cond t (x ∷ e ∷ es) (e ∷ put_in_front b x es))
    by true = l
    by false = h

pub ascends-put : {E : Type 0} (before : E → E → Bool) (x : E) (es : List E) → Each (λ e. before x e ≡ false → before e x ≡ true) es → Ascends before es → Ascends before (put_in_front (before x) x es)
ascends-put before x [] total h = (tt, tt)
ascends-put before x (e ∷ es) total h = by (before x e) refl (ascends-put before x es total.1 h.1)
  where
    by : (t : Bool) → before x e ≡ t → Ascends before (put_in_front (before x) x es) → Ascends before (cond t (x ∷ e ∷ es) (e ∷ put_in_front (before x) x es))
    by true b rest = (b, h)
    by false b rest = (next-put before e (before x) x es (total.0 b) h.0, rest)

-- in a list with xs in front and ys behind, all of which stand apart from x
pub put-behind : {E : Type 0} (b : E → Bool) (x : E) (xs ys : List E) → Each (λ e. b e ≡ false) xs → put_in_front b x (xs ++ ys) ≡ xs ++ put_in_front b x ys
put-behind b x [] ys h = refl
put-behind b x (e ∷ xs) ys h = let t : b e ≡ false = h.0 in rw t (ap (λ l. e ∷ l) (put-behind b x xs ys h.1))

pub put-before : {E : Type 0} (b : E → Bool) (x : E) (xs ys : List E) → Each (λ e. b e ≡ true) ys → put_in_front b x (xs ++ ys) ≡ put_in_front b x xs ++ ys
put-before b x [] [] h = refl
put-before b x [] (e ∷ ys) h = let t : b e ≡ true = h.0 in rw t refl
put-before b x (e ∷ xs) ys h = by (b e) (put-before b x xs ys h)
  where
    by : (t : Bool) → put_in_front b x (xs ++ ys) ≡ put_in_front b x xs ++ ys → cond t (x ∷ e ∷ (xs ++ ys)) (e ∷ put_in_front b x (xs ++ ys)) ≡ cond t (x ∷ e ∷ xs) (e ∷ put_in_front b x xs) ++ ys
    by true rest = refl
    by false rest = ap (λ l. e ∷ l) rest

pub put-map : {A E : Type 0} (b : E → Bool) (f : A → E) (c : A → Bool) (x : A) → ((a : A) → b (f a) ≡ c a) → (xs : List A) → put_in_front b (f x) (map f xs) ≡ map f (put_in_front c x xs)
put-map b f c x h [] = refl
put-map b f c x h (a ∷ xs) = rw (h a) (by (c a) (put-map b f c x h xs))
  where
    by : (t : Bool) → put_in_front b (f x) (map f xs) ≡ map f (put_in_front c x xs) → cond t (f x ∷ f a ∷ map f xs) (f a ∷ put_in_front b (f x) (map f xs)) ≡ map f (cond t (x ∷ a ∷ xs) (a ∷ put_in_front c x xs))
    by true rest = refl
    by false rest = ap (λ l. f a ∷ l) rest

-- ---- a search

-- How the items stand to each other, and to what is looked for.
pub record IsOrder {E : Type 0} (before : E → E → Bool) (same behind : E → Bool) (compared : E → Ordering) : Type 0 where
  pub trans : (x y z : E) → before x y ≡ true → before y z ≡ true → before x z ≡ true
  pub apart : (x y : E) → before x y ≡ true → compared y ≡ Equal → same x ≡ false
  pub equal : (x : E) → compared x ≡ Equal → same x ≡ true
  pub less : (x : E) → compared x ≡ Less → (same x ≡ false) × (behind x ≡ false)
  pub greater : (x : E) → compared x ≡ Greater → (same x ≡ false) × (behind x ≡ true)
  pub rises : (x y : E) → before x y ≡ true → ordering_index (compared x) ≤ ordering_index (compared y)

pub ascends-each : {E : Type 0} (before : E → E → Bool) → ((x y z : E) → before x y ≡ true → before y z ≡ true → before x z ≡ true) → (e : E) (es : List E) → Ascends before (e ∷ es) → Each (λ y. before e y ≡ true) es
ascends-each before trans e [] h = tt
ascends-each before trans e (f ∷ es) h = (h.0, Each-weaken (λ y. before f y ≡ true) (λ y. before e y ≡ true) es (λ y p. trans e f y h.0 p) (ascends-each before trans f es h.1))

module _ {E : Type 0} (before : E → E → Bool) (same behind : E → Bool) (compared : E → Ordering) (o : IsOrder before same behind compared) where
  head : (e : E) (es : List E) (n : ℕ) (d : E) → Ascends before (e ∷ es) → n < length es → before e (get_or es n d) ≡ true
  head e es n d h l = Each-at (λ y. before e y ≡ true) es d n (ascends-each before o.trans e es h) l

  pub rises-along : (es : List E) (n m : ℕ) (d : E) → Ascends before es → n ≤ m → m < length es → ordering_index (compared (get_or es n d)) ≤ ordering_index (compared (get_or es m d))
  rises-along [] n m d h p l = absurd (omega arith)
  rises-along (e ∷ es) zero zero d h p l = omega arith
  rises-along (e ∷ es) zero (suc m) d h p l = o.rises e (get_or es m d) (head e es m d h (omega arith))
  rises-along (e ∷ es) (suc n) zero d h p l = absurd (omega arith)
  rises-along (e ∷ es) (suc n) (suc m) d h p l = rises-along es n m d h.1 (omega arith) (omega arith)

  pub found : (reads : E → ℚ) (es : List E) (n : ℕ) → Ascends before es → n < length es → ((d : E) → compared (get_or es n d) ≡ Equal) → IsFound (is_any same es) (first_value same reads es) reads es n
  found reads [] n h l e = absurd (omega arith)
  found reads (f ∷ es) zero h l e = let t : same f ≡ true = o.equal f (e f) in record { within = l; given = rw t refl; value = λ d. rw t refl }
  found reads (f ∷ es) (suc n) h l e =
      let t : same f ≡ false = o.apart f (get_or es n f) (head f es n f h (omega arith)) (e f) in
      let rest = found reads es n h.1 (omega arith) e in
      record { within = l; given = rw t rest.given; value = λ d. rw t (rest.value d) }

  pub gap : (reads : E → ℚ) (item : ℚ → E) (es : List E) (n : ℕ) → n ≤ length es → ((m : ℕ) (d : E) → m < n → compared (get_or es m d) ≡ Less) → ((m : ℕ) (d : E) → n ≤ m → m < length es → compared (get_or es m d) ≡ Greater) → IsGap (is_any same es) (first_value same reads es) (λ v. put_in_front behind (item v) es) item es n
  gap reads item [] zero l below above = record { within = l; given = refl; value = refl; put = λ v. refl }
  gap reads item [] (suc n) l below above = absurd (omega arith)
  gap reads item (e ∷ es) zero l below above =
      let t = o.greater e (above 0 e (omega arith) (omega arith)) in
      let rest = gap reads item es zero (omega arith) (λ m d p. absurd (omega arith)) (λ m d p q. above (suc m) d (omega arith) (omega arith)) in
      record { within = l; given = rw t.0 rest.given; value = rw t.0 rest.value; put = λ v. rw t.1 refl }
  gap reads item (e ∷ es) (suc n) l below above =
      let t = o.less e (below 0 e (omega arith)) in
      let rest = gap reads item es n (omega arith) (λ m d p. below (suc m) d (omega arith)) (λ m d p q. above (suc m) d (omega arith) (omega arith)) in
      record { within = l; given = rw t.0 rest.given; value = rw t.0 rest.value; put = λ v. rw t.1 (ap (λ r. e ∷ r) (rest.put v)) }
