-- The planned keys of a genus, of an Euler number and of all.
use Rattle.std.proofs.Common.{◌≡◌, ℕ, suc, ◌+◌, ◌*◌, ◌-◌, ◌<◌, ◌≤◌, Bool, true, false, ◌&&◌, List, [], ◌∷◌, ◌++◌, length, map, refl, sym, ◌∙◌, ap, arith, append_assoc, length-append, ltb, lt-ltb}
use Rattle.index_lists.proofs.Words.{key_of, total, covers, keep, each, count_from, Tensors, planned, lists_from, Each, Each-weaken, IsListed, Window, is_in, reaching, keys_behind, found, keys_at, level_keys}
use Rattle.airy_math.proofs.PlannedLaw.{listed}
use Rattle.index_lists.proofs.ListingLemmas.{total-most}

keep-map_each : {A B : Type 0} (p : B → Bool) (q : A → Bool) (f : A → B) (xs : List A) → Each (λ x. p (f x) ≡ q x) xs → keep p (map f xs) ≡ map f (keep q xs)
unfolding keep
keep-map_each p q f [] h = refl
keep-map_each p q f (x ∷ xs) h = by (p (f x)) (q x) h.0 (keep-map_each p q f xs h.1)
  where
    by : (t u : Bool) → t ≡ u → keep p (map f xs) ≡ map f (keep q xs) → elim t [ true ↦ f x ∷ keep p (map f xs) | false ↦ keep p (map f xs) ] ≡ map f (elim u [ true ↦ x ∷ keep q xs | false ↦ keep q xs ])
    by true true e r = ap (λ l. f x ∷ l) r
    by false false e r = r
    by true false e r = cc
    by false true e r = cc

-- what a window has to say of a genus g and n indices
pub record IsWindow (T : Tensors) (g n : ℕ) (w : Window) : Type 0 where
  pub says : (xs : List ℕ) → length xs ≡ n → total xs < 65536 → covers T.shape (key_of g xs) ≡ is_in w (total xs)

-- the planned keys of a genus are what a listing finds behind no index
pub keys_at-found : (T : Tensors) (e g n : ℕ) (w : Window) → n ≡ e + 2 - 2 * g → 0 < n → n ≤ 26 → T.dim ≤ 72 → IsWindow T g n w
    → keys_at T e g ≡ found (record { genus = g; dim = T.dim; window = w }) [] n 0 0
unfolding keys_at found keys_behind reaching key_of
keys_at-found T e g n w long p q d h =
    ap (λ m. keep (λ key. ltb 0 (length key.idx) && covers T.shape key) (map (key_of g) (lists_from m 0 T.dim))) (sym long)
    ∙ keep-map_each (λ key. ltb 0 (length key.idx) && covers T.shape key) (λ l. is_in w (0 + total l)) (key_of g) (lists_from n 0 T.dim) (Each-weaken (IsListed n 0 T.dim) (λ l. (ltb 0 (length l) && covers T.shape (key_of g l)) ≡ is_in w (0 + total l)) (lists_from n 0 T.dim) same (listed n T.dim 0 T.dim (omega arith)))
    ∙ ap (λ m. map (key_of g) (keep (λ l. is_in w (0 + total l)) (lists_from n 0 m))) (no_less T.dim)
  where
    no_less : (m : ℕ) → m ≡ m - 0
    no_less m = omega arith

    small : (m t d : ℕ) → t ≤ m * (d - 1) → m ≤ 26 → d ≤ 72 → t < 65536
    small m t d h p q = let b : m * (d - 1) ≤ 26 * 71 = grind arith in omega arith

    same : (l : List ℕ) → IsListed n 0 T.dim l → (ltb 0 (length l) && covers T.shape (key_of g l)) ≡ is_in w (0 + total l)
    same l i =
        let some : ltb 0 (length l) ≡ true = lt-ltb 0 (length l) (omega (arith, i.long)) in
        let t : total l < 65536 = small (length l) (total l) T.dim (total-most T.dim l i.small) (omega (arith, i.long)) d in
        ap (λ b. b && covers T.shape (key_of g l)) some ∙ h.says l i.long t ∙ ap (is_in w) (omega arith)

pub keys_at-none : (T : Tensors) (e g : ℕ) → e + 2 - 2 * g ≡ 0 → keys_at T e g ≡ []
unfolding keys_at lists_from keep key_of
keys_at-none T e g h = ap (λ n. keep (λ key. ltb 0 (length key.idx) && covers T.shape key) (map (key_of g) (lists_from n 0 T.dim))) h

-- ---- one after another

module _ {A : Type 0} (f : ℕ → List A) where
  pub each-next : (a b : ℕ) → a < b → each (count_from a (b - a)) f ≡ f a ++ each (count_from (a + 1) (b - (a + 1))) f
  unfolding each count_from
  each-next a b h = let e : b - a ≡ suc (b - (a + 1)) = omega arith in let s : suc a ≡ a + 1 = omega arith in rw (e, s) refl

  pub each-end : (a b : ℕ) → b ≤ a → each (count_from a (b - a)) f ≡ []
  unfolding each count_from
  each-end a b h = let e : b - a ≡ 0 = omega arith in rw e refl

  -- the part of a is added
  pub each-more : (a b : ℕ) (xs more all : List A) → a < b → more ≡ xs ++ f a → xs ++ each (count_from a (b - a)) f ≡ all → more ++ each (count_from (a + 1) (b - (a + 1))) f ≡ all
  each-more a b xs more all h m i =
      ap (λ l. l ++ each (count_from (a + 1) (b - (a + 1))) f) m
      ∙ append_assoc xs (f a) (each (count_from (a + 1) (b - (a + 1))) f)
      ∙ ap (λ l. xs ++ l) (sym (each-next a b h)) ∙ i

  -- with the part of a it is too long
  pub each-too_long : (a b most : ℕ) (xs all old : List A) → a < b → most < length xs + length (f a) → xs ++ each (count_from a (b - a)) f ≡ old ++ all → most < length old + length all
  each-too_long a b most xs all old h m i =
      let whole : length xs + length (each (count_from a (b - a)) f) ≡ length old + length all = sym (length-append xs (each (count_from a (b - a)) f)) ∙ ap length i ∙ length-append old all in
      let parts : length (each (count_from a (b - a)) f) ≡ length (f a) + length (each (count_from (a + 1) (b - (a + 1))) f) = ap length (each-next a b h) ∙ length-append (f a) (each (count_from (a + 1) (b - (a + 1))) f) in
      omega arith

pub planned-levels : (T : Tensors) (X : ℕ) → planned T X ≡ each (count_from 1 X) (level_keys T)
unfolding planned level_keys keys_at
planned-levels T X = refl
