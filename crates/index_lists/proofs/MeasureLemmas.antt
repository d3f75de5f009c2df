-- Measures of lists: they add up, they say what a shape covers, and they are small.
use Rattle.std.proofs.Common.{◌≡◌, ℕ, suc, ◌+◌, ◌-◌, ◌*◌, ◌<◌, ◌≤◌, Bool, true, false, List, [], ◌∷◌, ◌++◌, length, length-append, refl, sym, ap, ap₂, ◌∙◌, arith, ℤ, pos, ◌+ℤ◌, ◌-ℤ◌, ◌*ℤ◌, nat_le, ◌&&◌, zero, ◌/◌, subst, append_assoc, replicate}
use Rattle.index_lists.proofs.Words.{unsigned_abs, AllByRecursion, le_z, ints, Key, total, insert, IsSortedFrom, covers, law_number, eq_z, per_n, Shape, All, Exact, AtMost, list_code-append, list_code-more, list_code-none, list_code-small, Measure, law_excess, covers_excess, IsMeasured, IsLight, length-insert, binomial, mul_assoc}
use Rattle.std.proofs.Math.Nat.{mul-div_cancel}
use Rattle.airy_index.proofs.BinomialLemmas.{binomial-step}
use Rattle.airy_math.specs.Ints.{*ℤ_distrib}
use Rattle.key_index.specs.Codes.{code_of_index}
use Rattle.key_index.proofs.CodeLemmas.{list_code-insert}
use Rattle.index_lists.specs.Measures.{excess}

-- ---- the excess

pub excess-append : (c : ℤ) (xs ys : List ℕ) → excess c (xs ++ ys) ≡ excess c xs +ℤ excess c ys
unfolding excess
excess-append c [] ys = omega (arith, ints)
excess-append c (x ∷ xs) ys = omega (arith, ints, excess-append c xs ys)

pub excess-insert : (c : ℤ) (a : ℕ) (xs : List ℕ) → excess c (insert a xs) ≡ (pos a -ℤ c) +ℤ excess c xs
unfolding excess insert
excess-insert c a [] = refl
excess-insert c a (x ∷ xs) = by (nat_le a x) (excess-insert c a xs)
  where
    by : (t : Bool) → excess c (insert a xs) ≡ (pos a -ℤ c) +ℤ excess c xs → excess c (elim t [ true ↦ a ∷ x ∷ xs | false ↦ x ∷ insert a xs ]) ≡ (pos a -ℤ c) +ℤ ((pos x -ℤ c) +ℤ excess c xs)
    by true h = refl
    by false h = omega (arith, ints, h)

times-more : (c : ℤ) (n : ℕ) → c *ℤ pos (suc n) ≡ c +ℤ (c *ℤ pos n)
times-more c n = ap (λ z. c *ℤ z) (one n) ∙ *ℤ_distrib c (pos 1) (pos n) ∙ ap (λ z. z +ℤ (c *ℤ pos n)) (self c)
  where
    one : (n : ℕ) → pos (suc n) ≡ pos 1 +ℤ pos n
    one n = omega (arith, ints)

    self : (c : ℤ) → c *ℤ pos 1 ≡ c
    self c = omega (arith, ints)

-- the sum is the excess and the law's number for each index
pub excess-total : (c : ℤ) (xs : List ℕ) → pos (total xs) ≡ excess c xs +ℤ (c *ℤ pos (length xs))
unfolding excess total
excess-total c [] = omega (arith, ints)
excess-total c (x ∷ xs) = omega (arith, ints, excess-total c xs, times-more c (length xs))

le-shift : (a b p x y : ℤ) → x ≡ a +ℤ p → y ≡ b +ℤ p → le_z x y ≡ le_z a b
le-shift a b p x y e f = grind (arith, ints)

pub covers-excess : (s : Shape) (key : Key) → covers s key ≡ covers_excess s key.g (excess (per_n s) key.idx)
unfolding covers covers_excess law_excess law_number per_n eq_z
covers-excess All key = refl
covers-excess (Exact l) key =
    let e = excess l.per_n key.idx in
    let w = l.per_g *ℤ (pos key.g -ℤ pos 1) in
    let p = l.per_n *ℤ pos (length key.idx) in
    let s = excess-total l.per_n key.idx in
    ap₂ (λ a b. a && b) (le-shift e w p (pos (total key.idx)) (w +ℤ p) s refl) (le-shift w e p (w +ℤ p) (pos (total key.idx)) refl s)
covers-excess (AtMost l) key =
    let w = l.per_g *ℤ (pos key.g -ℤ pos 1) in
    let p = l.per_n *ℤ pos (length key.idx) in
    le-shift (excess l.per_n key.idx) w p (pos (total key.idx)) (w +ℤ p) (excess-total l.per_n key.idx) refl

-- ---- measures

pub measured-one : (c : ℤ) (x : ℕ) (e : ℤ) (k : ℕ) → e ≡ pos x -ℤ c → k ≡ code_of_index x → IsMeasured c (x ∷ []) (record { places = 1; excess = e; code = k })
unfolding excess
measured-one c x e k h i = record { places = refl; excess = omega (arith, ints, h); code = omega (arith, i, list_code-more x [], list_code-none) }

pub measured-none : (c : ℤ) → IsMeasured c [] (record { places = 0; excess = pos 0; code = 0 })
unfolding excess
measured-none c = record { places = refl; excess = refl; code = sym list_code-none }

pub measured-append : (c : ℤ) (xs ys : List ℕ) (m n : Measure) → IsMeasured c xs m → IsMeasured c ys n
    → IsMeasured c (xs ++ ys) (record { places = m.places + n.places; excess = m.excess +ℤ n.excess; code = m.code + n.code })
measured-append c xs ys m n h k = record {
  places = omega (arith, h.places, k.places, length-append xs ys);
  excess = omega (arith, ints, h.excess, k.excess, excess-append c xs ys);
  code = omega (arith, h.code, k.code, list_code-append xs ys);
}

-- without a part of the list
pub measured-rest : (c : ℤ) (b : ℕ) (xs ys : List ℕ) (m n : Measure) → IsMeasured c (b ∷ (xs ++ ys)) m → IsMeasured c xs n
    → IsMeasured c (b ∷ ys) (record { places = m.places - n.places; excess = m.excess -ℤ n.excess; code = m.code - n.code })
unfolding excess
measured-rest c b xs ys m n h k = record {
  places = omega (arith, h.places, k.places, length-append xs ys);
  excess = omega (arith, ints, h.excess, k.excess, excess-append c xs ys);
  code = omega (arith, h.code, k.code, list_code-append xs ys, list_code-more b (xs ++ ys), list_code-more b ys);
}

-- an index in its place
pub measured-insert : (c : ℤ) (a : ℕ) (xs : List ℕ) (m : Measure) → IsMeasured c (a ∷ xs) m → IsMeasured c (insert a xs) m
unfolding excess
measured-insert c a xs m h = record {
  places = omega (arith, h.places, length-insert a xs);
  excess = omega (arith, ints, h.excess, excess-insert c a xs);
  code = omega (arith, h.code, list_code-insert a xs, list_code-more a xs);
}

-- the indices are bytes
abbrev pub AreBytes : List ℕ → Type 0
AreBytes = AllByRecursion (λ x. x < 256)

pub bytes-push : (xs : List ℕ) (x : ℕ) → AreBytes xs → x < 256 → AreBytes (xs ++ x ∷ [])
bytes-push [] x h b = (b, tt)
bytes-push (y ∷ xs) x h b = (h.0, bytes-push xs x h.1 b)

pub bytes_below : (k m : ℕ) (xs : List ℕ) → m ≤ 256 → IsSortedFrom k m xs → AreBytes xs
unfolding IsSortedFrom
bytes_below k m [] l s = tt
bytes_below k m (x ∷ xs) l s = (omega (arith, l, s.1), bytes_below x m xs l s.2)

pub excess-small : (c : ℤ) (xs : List ℕ) → unsigned_abs c ≤ 99 → AreBytes xs → unsigned_abs (excess c xs) ≤ 354 * length xs
unfolding excess
excess-small c [] h b = omega (arith, ints)
excess-small c (x ∷ xs) h b = omega (arith, ints, h, b.0, excess-small c xs h b.1)

-- a measure of a short list can be added to another
pub measured-light : (c : ℤ) (xs : List ℕ) (m : Measure) → unsigned_abs c ≤ 99 → AreBytes xs → length xs ≤ 27 → IsMeasured c xs m → IsLight m
measured-light c xs m h b l k = record {
  places = omega (arith, l, k.places);
  excess = omega (arith, ap unsigned_abs k.excess, excess-small c xs h b, l);
  code = omega (arith, k.code, list_code-small xs, l);
}

-- ---- with one more copy of an index

replicate-push : (t x : ℕ) → replicate (suc t) x ≡ replicate t x ++ x ∷ []
replicate-push zero x = refl
replicate-push (suc t) x = ap (λ l. x ∷ l) (replicate-push t x)

-- the measure with one copy more
pub part-next : (c : ℤ) (xs : List ℕ) (x t : ℕ) (m n item : Measure) → IsMeasured c (xs ++ replicate t x) m → IsMeasured c (x ∷ []) item
    → n ≡ record { places = m.places + item.places; excess = m.excess +ℤ item.excess; code = m.code + item.code } → IsMeasured c (xs ++ replicate (t + 1) x) n
part-next c xs x t m n item a i same =
    let more : replicate (t + 1) x ≡ replicate t x ++ x ∷ [] = ap (λ n. replicate n x) (let u : t + 1 ≡ suc t = omega arith in u) ∙ replicate-push t x in
    let list : (xs ++ replicate t x) ++ x ∷ [] ≡ xs ++ replicate (t + 1) x = append_assoc xs (replicate t x) (x ∷ []) ∙ ap (λ l. xs ++ l) (sym more) in
    subst (λ l. IsMeasured c l n) list (subst (IsMeasured c ((xs ++ replicate t x) ++ x ∷ [])) (sym same) (measured-append c (xs ++ replicate t x) (x ∷ []) m item a i))

-- and the number of ways
pub ways-next : (w n t : ℕ) → (w * binomial n t) * (n - t) / (t + 1) ≡ w * binomial n (t + 1)
ways-next w n t =
    let u : t + 1 ≡ suc t = omega arith in
    let step = binomial-step n t in
    let whole : (w * binomial n t) * (n - t) ≡ (w * binomial n (suc t)) * suc t = mul_assoc w (binomial n t) (n - t) ∙ ap (λ z. w * z) (sym step) ∙ sym (mul_assoc w (binomial n (suc t)) (suc t)) in
    rw (u, whole) (mul-div_cancel (w * binomial n (suc t)) (omega arith))

pub bytes-append : (xs ys : List ℕ) → AreBytes xs → AreBytes ys → AreBytes (xs ++ ys)
bytes-append [] ys h k = k
bytes-append (x ∷ xs) ys h k = (h.0, bytes-append xs ys h.1 k)

pub bytes-replicate : (t x : ℕ) → x < 256 → AreBytes (replicate t x)
bytes-replicate zero x h = tt
bytes-replicate (suc t) x h = (h, bytes-replicate t x h)
