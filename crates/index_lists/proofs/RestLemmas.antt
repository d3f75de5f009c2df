-- What is read of a list, one index after the other.
use Rattle.std.proofs.Common.{◌≡◌, ℕ, zero, suc, ◌+◌, ◌-◌, ◌*◌, ◌<◌, ◌≤◌, Bool, true, false, List, [], ◌∷◌, ◌++◌, length, map, length-append, append_assoc, refl, sym, ap, subst, ◌∙◌, arith, ℤ, pos, negsuc, ◌+ℤ◌, ◌-ℤ◌, nat_eq, replicate}
use Rattle.index_lists.proofs.Words.{unsigned_abs, AllByRecursion, ints, natural, into_runs, splits, put_before, chosen_split, all_splits, splits-all, code_of_list, list_code-append, list_code-more, list_code-none, IsMeasured, IsLight, Measure}
use Rattle.airy_math.specs.Splits.{runs}
use Rattle.airy_math.specs.Sums.{below}
use Rattle.index_lists.specs.Measures.{excess, gain, loss}
use Rattle.index_lists.specs.Parts.{listed}
use Rattle.index_lists.proofs.SplitLemmas.{all-weaken, all-map, all-counting}
use Rattle.index_lists.proofs.MeasureLemmas.{excess-append, AreBytes, bytes-push, measured-append, measured-none, measured-light}

natural-small : (z : ℤ) (n : ℕ) → unsigned_abs z ≤ n → natural z ≤ n
unfolding natural
natural-small (pos m) n h = h
natural-small (negsuc m) n h = omega arith

pub gain-push : (c : ℤ) (xs : List ℕ) (x : ℕ) → gain c (xs ++ x ∷ []) ≡ gain c xs + natural (pos x -ℤ c)
unfolding gain
gain-push c [] x = omega arith
gain-push c (y ∷ xs) x = omega (arith, gain-push c xs x)

pub loss-push : (c : ℤ) (xs : List ℕ) (x : ℕ) → loss c (xs ++ x ∷ []) ≡ loss c xs + natural (c -ℤ pos x)
unfolding loss
loss-push c [] x = omega arith
loss-push c (y ∷ xs) x = omega (arith, loss-push c xs x)

item-small : (c : ℤ) (x : ℕ) → unsigned_abs c ≤ 99 → x < 256 → (natural (pos x -ℤ c) ≤ 354) × (natural (c -ℤ pos x) ≤ 354)
item-small c x h b = (natural-small (pos x -ℤ c) 354 (omega (arith, ints, h, b)), natural-small (c -ℤ pos x) 354 (omega (arith, ints, h, b)))

turned : (c : ℤ) (x : ℕ) (e : ℤ) → e ≡ pos x -ℤ c → pos 0 -ℤ e ≡ c -ℤ pos x
turned c x e i = omega (arith, ints, i)

pub item_small : (c : ℤ) (x : ℕ) (e : ℤ) → unsigned_abs c ≤ 99 → x < 256 → e ≡ pos x -ℤ c → (natural e ≤ 354) × (natural (pos 0 -ℤ e) ≤ 354)
item_small c x e h b i = let s = item-small c x h b in (omega (arith, s.0, ap natural i), omega (arith, s.1, ap natural (turned c x e i)))

pub gain-small : (c : ℤ) (xs : List ℕ) → unsigned_abs c ≤ 99 → AreBytes xs → gain c xs ≤ 354 * length xs
unfolding gain
gain-small c [] h b = omega arith
gain-small c (x ∷ xs) h b = omega (arith, (item-small c x h b.0).0, gain-small c xs h b.1)

pub loss-small : (c : ℤ) (xs : List ℕ) → unsigned_abs c ≤ 99 → AreBytes xs → loss c xs ≤ 354 * length xs
unfolding loss
loss-small c [] h b = omega arith
loss-small c (x ∷ xs) h b = omega (arith, (item-small c x h b.0).1, loss-small c xs h b.1)

-- What was read of a list: its measure, and how far the excess of a part of it can rise and fall.
pub record IsRead (c : ℤ) (xs : List ℕ) (m : Measure) (up down : ℕ) : Type 0 where
  pub bytes : AreBytes xs
  pub whole : IsMeasured c xs m
  pub gain : up ≡ gain c xs
  pub loss : down ≡ loss c xs

pub read-none : (c : ℤ) → IsRead c [] (record { places = 0; excess = pos 0; code = 0 }) 0 0
unfolding gain loss
read-none c = record { bytes = tt; whole = measured-none c; gain = refl; loss = refl }

pub read-next : (c : ℤ) (xs ys : List ℕ) (m item whole : Measure) (up down n d x : ℕ) → IsRead c xs m up down → x < 256 → IsMeasured c (x ∷ []) item → item.excess ≡ pos x -ℤ c → ys ≡ xs ++ x ∷ []
    → whole ≡ record { places = m.places + item.places; excess = m.excess +ℤ item.excess; code = m.code + item.code } → n ≡ natural item.excess → d ≡ natural (pos 0 -ℤ item.excess)
    → IsRead c ys whole (up + n) (down + d)
read-next c xs ys m item whole up down n d x h byte i e list sum more less = record {
  bytes = subst AreBytes (sym list) (bytes-push xs x h.bytes byte);
  whole = subst (λ l. IsMeasured c l whole) (sym list) (subst (IsMeasured c (xs ++ x ∷ [])) (sym sum) (measured-append c xs (x ∷ []) m item h.whole i));
  gain = omega (arith, h.gain, more, gain-push c xs x, ap natural e, ap (gain c) list);
  loss = omega (arith, h.loss, less, loss-push c xs x, ap natural (turned c x item.excess e), ap (loss c) list);
}

-- the numbers are small
pub record IsSmallRead (m : Measure) (up down : ℕ) : Type 0 where
  pub light : IsLight m
  pub gain : up ≤ 9204
  pub loss : down ≤ 9204

pub read-small : {c : ℤ} {xs : List ℕ} {m : Measure} {up down : ℕ} → unsigned_abs c ≤ 99 → length xs ≤ 26 → IsRead c xs m up down → IsSmallRead m up down
read-small {c} {xs} {m} {up} {down} h l r = record {
  light = measured-light c xs m h r.bytes (omega (arith, l)) r.whole;
  gain = omega (arith, r.gain, gain-small c xs h r.bytes, l);
  loss = omega (arith, r.loss, loss-small c xs h r.bytes, l);
}

-- ---- the runs give the list

listed-into : (x : ℕ) (rs : List (ℕ × ℕ)) → listed (into_runs x rs) ≡ x ∷ listed rs
unfolding into_runs listed
listed-into x [] = refl
listed-into x (r ∷ rs) = by (nat_eq x r.0) refl
  where
    by : (t : Bool) → nat_eq x r.0 ≡ t → listed (elim t [ true ↦ (x, suc r.1) ∷ rs | false ↦ (x, 1) ∷ r ∷ rs ]) ≡ x ∷ listed (r ∷ rs)
    by true e = let same : x ≡ r.0 = grind arith in ap (λ z. x ∷ replicate r.1 z ++ listed rs) same
    by false e = refl

pub listed-runs : (xs : List ℕ) → listed (runs xs) ≡ xs
unfolding runs listed
listed-runs [] = refl
listed-runs (x ∷ xs) = listed-into x (runs xs) ∙ ap (λ l. x ∷ l) (listed-runs xs)

-- ---- a part and the rest

-- Two lists that have together what a list has.
pub record AddUp (c : ℤ) (ys zs xs : List ℕ) : Type 0 where
  pub places : length ys + length zs ≡ length xs
  pub excess : excess c ys +ℤ excess c zs ≡ excess c xs
  pub code : code_of_list ys + code_of_list zs ≡ code_of_list xs

add-left : (c : ℤ) (x : ℕ) (ys zs xs : List ℕ) → AddUp c ys zs xs → AddUp c (x ∷ ys) zs (x ∷ xs)
unfolding excess
add-left c x ys zs xs h = record {
  places = omega (arith, h.places);
  excess = omega (arith, ints, h.excess);
  code = omega (arith, h.code, list_code-more x ys, list_code-more x xs);
}

add-right : (c : ℤ) (x : ℕ) (ys zs xs : List ℕ) → AddUp c ys zs xs → AddUp c ys (x ∷ zs) (x ∷ xs)
unfolding excess
add-right c x ys zs xs h = record {
  places = omega (arith, h.places);
  excess = omega (arith, ints, h.excess);
  code = omega (arith, h.code, list_code-more x zs, list_code-more x xs);
}

add-rest : (c : ℤ) (x n : ℕ) (ys zs xs : List ℕ) → AddUp c ys zs xs → AddUp c ys (replicate n x ++ zs) (replicate n x ++ xs)
add-rest c x zero ys zs xs h = h
add-rest c x (suc n) ys zs xs h = add-right c x ys (replicate n x ++ zs) (replicate n x ++ xs) (add-rest c x n ys zs xs h)

add-run : (c : ℤ) (x t n d : ℕ) (ys zs xs : List ℕ) → n ≡ t + d → AddUp c ys zs xs → AddUp c (replicate t x ++ ys) (replicate d x ++ zs) (replicate n x ++ xs)
add-run c x zero n d ys zs xs e h = let s : d ≡ n = omega arith in subst (λ n. AddUp c ys (replicate d x ++ zs) (replicate n x ++ xs)) s (add-rest c x d ys zs xs h)
add-run c x (suc t) zero d ys zs xs e h = absurd (omega arith)
add-run c x (suc t) (suc n) d ys zs xs e h = add-left c x (replicate t x ++ ys) (replicate d x ++ zs) (replicate n x ++ xs) (add-run c x t n d ys zs xs (omega arith) h)

add-all : (c : ℤ) (rs : List (ℕ × ℕ)) → AllByRecursion (λ u. AddUp c u.part u.rest (listed rs)) (all_splits rs)
unfolding all_splits below listed chosen_split excess put_before
add-all c [] = (record { places = refl; excess = omega (arith, ints); code = omega (arith, list_code-none) }, tt)
add-all c (r ∷ rs) = all-counting (λ u. AddUp c u.part u.rest (listed (r ∷ rs))) (λ t. map (put_before r.0 r.1 t) (all_splits rs)) 0 (suc r.1) (λ t l.
    all-map (λ u. AddUp c u.part u.rest (listed (r ∷ rs))) (put_before r.0 r.1 t) (all_splits rs)
    (all-weaken (λ u. AddUp c u.part u.rest (listed rs)) (λ u. AddUp c (replicate t r.0 ++ u.part) (replicate (r.1 - t) r.0 ++ u.rest) (listed (r ∷ rs))) (all_splits rs) (λ u i.
    add-run c r.0 t r.1 (r.1 - t) u.part u.rest (listed rs) (omega (arith, l)) i) (add-all c rs)))

pub splits-add : (c : ℤ) (xs : List ℕ) → AllByRecursion (λ u. AddUp c u.part u.rest xs) (splits xs)
splits-add c xs = subst (AllByRecursion (λ u. AddUp c u.part u.rest xs)) (sym (splits-all xs)) (subst (λ l. AllByRecursion (λ u. AddUp c u.part u.rest l) (all_splits (runs xs))) (listed-runs xs) (add-all c (runs xs)))

-- of the whole with an index
pub measured-whole : (c : ℤ) (b : ℕ) (ys zs xs : List ℕ) (m : Measure) → AddUp c ys zs xs → IsMeasured c (b ∷ xs) m → IsMeasured c (b ∷ (ys ++ zs)) m
unfolding excess
measured-whole c b ys zs xs m a h = record {
  places = omega (arith, h.places, a.places, length-append ys zs);
  excess = omega (arith, ints, h.excess, a.excess, excess-append c ys zs);
  code = omega (arith, h.code, a.code, list_code-append ys zs, list_code-more b xs, list_code-more b (ys ++ zs));
}

-- what holds of each element as it stands in the list holds of all
pub all-standing : {A : Type 0} (P : A → Type 0) (before xs all : List A) → before ++ xs ≡ all → ((b a : List A) (x : A) → b ++ x ∷ a ≡ all → P x) → AllByRecursion P xs
all-standing P before [] all e h = tt
all-standing P before (x ∷ xs) all e h = (h before xs x e, all-standing P (before ++ x ∷ []) xs all (append_assoc before (x ∷ []) xs ∙ e) h)
