-- The splits of a list as they are listed, run by run.
use Rattle.std.proofs.Common.{◌≡◌, ℕ, zero, suc, ◌+◌, ◌-◌, ◌*◌, ◌/◌, ◌<◌, ◌≤◌, ◌^◌, List, [], ◌∷◌, ◌++◌, length, length-append, map, take, drop, append_assoc, append-nil, refl, sym, ap, ap₂, ◌∙◌, arith, lit≤, ℤ, pos, ◌+ℤ◌, ◌-ℤ◌, replicate}
use Rattle.index_lists.proofs.Words.{unsigned_abs, ints, pow-le-pow_right, total, Split, splits, binomial, count_from, each, put_before, all_splits, whole_length, binomial-small, splits-all, code_of_list, list_code-append, IsMeasured, IsLight, more_of, no_split, chain, listed_of, numbers_of, all_listed, all_without, part_without, last_of, full, going_on, Measure, Chosen, Listed}
use Rattle.std.proofs.lemmas.List.{length-replicate, length-drop, map-append, replicate-append-replicate, drop_more, take-append-drop}
use Rattle.std.proofs.Math.Nat.{mul-div_cancel, mul_right_comm}
use Rattle.std.proofs.Math.Seq.{take-length, drop-length, drop-append_seam}
use lib.ListN.{get_or}
use Rattle.airy_math.proofs.SplitLemmas.{binomial-over, binomial-zero, binomial-all}
use Rattle.airy_index.proofs.BinomialLemmas.{binomial-step}
use Rattle.airy_math.specs.Splits.{runs}
use Rattle.airy_math.specs.Sums.{below}
use Rattle.index_lists.specs.Measures.{excess}
use Rattle.index_lists.specs.Parts.{behind, listed}
use Rattle.index_lists.specs.Rests.{IsRest}
use Rattle.index_lists.specs.declared.rest.Rest.{Rest}
use Rattle.index_lists.proofs.RestLemmas.{listed-runs}
use Rattle.index_lists.proofs.SplitLemmas.{count-next, count-over, behind-more, behind-end, behind-none}
use Rattle.airy_math.proofs.EachLemmas.{each-cong}
use Rattle.index_lists.proofs.MeasureLemmas.{excess-append, excess-small, measured-none, measured-light, part-next, ways-next, bytes-replicate}
use Rattle.airy_math.proofs.KeyLemmas.{map-each}

-- ---- the numbers of a split

pub record IsNumbered (c : ℤ) (s : Split) (x : Chosen) : Type 0 where
  pub part : IsMeasured c s.part x.part
  pub ways : x.ways ≡ s.ways
  pub gain : x.gain ≡ 0
  pub loss : x.loss ≡ 0

numbers-next : (c : ℤ) (s : Split) (r : ℕ × ℕ) (t : ℕ) (d e : Chosen) (item : Measure) → IsNumbered c (more_of s r t) d → IsMeasured c (r.0 ∷ []) item
    → e ≡ record d { part = record { places = d.part.places + item.places; excess = d.part.excess +ℤ item.excess; code = d.part.code + item.code }; ways = d.ways * (r.1 - t) / (t + 1) } → IsNumbered c (more_of s r (t + 1)) e
unfolding more_of
numbers-next c s r t d e item n i same = record {
  part = part-next c s.part r.0 t d.part e.part item n.part i (ap (λ z. z.part) same);
  ways = ap (λ z. z.ways) same ∙ ap (λ w. w * (r.1 - t) / (t + 1)) n.ways ∙ ways-next s.ways r.1 t;
  gain = ap (λ z. z.gain) same ∙ n.gain;
  loss = ap (λ z. z.loss) same ∙ n.loss;
}

-- ---- the splits that go on from a split

map-behind : (s : Split) (r : ℕ × ℕ) (t : ℕ) (us : List Split) → map (behind s) (map (put_before r.0 r.1 t) us) ≡ map (behind (more_of s r t)) us
map-behind s r t [] = refl
map-behind s r t (u ∷ us) = ap₂ (λ x xs. x ∷ xs) (behind-more s u r t) (map-behind s r t us)

going-all : (s : Split) (rs : List (ℕ × ℕ)) → going_on s rs 0 ≡ map (behind s) (all_splits rs)
unfolding going_on all_splits below
going-all s [] = ap (λ x. x ∷ []) (sym (behind-end s))
going-all s (r ∷ rs) =
    let n : suc r.1 - 0 ≡ suc r.1 = omega arith in
    ap (λ n. each (count_from 0 n) (λ u. map (behind (more_of s r u)) (all_splits rs))) n
    ∙ sym (map-each (behind s) (λ t. map (put_before r.0 r.1 t) (all_splits rs)) (count_from 0 (suc r.1))
    ∙ each-cong (λ t. map (behind s) (map (put_before r.0 r.1 t) (all_splits rs))) (λ t. map (behind (more_of s r t)) (all_splits rs)) (count_from 0 (suc r.1)) (λ t. map-behind s r t (all_splits rs)))

map-none : (us : List Split) → map (behind no_split) us ≡ us
map-none [] = refl
map-none (u ∷ us) = ap₂ (λ x xs. x ∷ xs) (behind-none u) (map-none us)

-- from nothing all splits of a list go on
pub going-from_none : (I : List ℕ) → going_on no_split (runs I) 0 ≡ splits I
going-from_none I = going-all no_split (runs I) ∙ map-none (all_splits (runs I)) ∙ sym (splits-all I)

going-step : (s : Split) (r : ℕ × ℕ) (rs : List (ℕ × ℕ)) (t : ℕ) → t ≤ r.1 → going_on s (r ∷ rs) t ≡ going_on (more_of s r t) rs 0 ++ going_on s (r ∷ rs) (t + 1)
unfolding going_on each
going-step s r rs t l =
    let f : ℕ → List Split = λ u. map (behind (more_of s r u)) (all_splits rs) in
    ap (λ ns. each ns f) (count-next t r.1 l) ∙ ap (λ ss. ss ++ each (count_from (t + 1) (suc r.1 - (t + 1))) f) (sym (going-all (more_of s r t) rs))

going-over : (s : Split) (r : ℕ × ℕ) (rs : List (ℕ × ℕ)) (t : ℕ) → r.1 < t → going_on s (r ∷ rs) t ≡ []
unfolding going_on each
going-over s r rs t l = ap (λ ns. each ns (λ u. map (behind (more_of s r u)) (all_splits rs))) (count-over t r.1 l)

pub listed-append : (c : ℤ) (ss us : List Split) → all_listed c (ss ++ us) ≡ all_listed c ss ++ all_listed c us
unfolding all_listed
listed-append c ss us = map-append (λ s. (chain (excess c s.part), listed_of (numbers_of c s))) ss us

-- those with t copies of the first run's index are listed before those with more
pub listed-step : (c : ℤ) (s : Split) (r : ℕ × ℕ) (rs : List (ℕ × ℕ)) (t : ℕ) → t ≤ r.1 → all_listed c (going_on s (r ∷ rs) t) ≡ all_listed c (going_on (more_of s r t) rs 0) ++ all_listed c (going_on s (r ∷ rs) (t + 1))
listed-step c s r rs t l = ap (all_listed c) (going-step s r rs t l) ∙ listed-append c (going_on (more_of s r t) rs 0) (going_on s (r ∷ rs) (t + 1))

-- and those with all copies last
pub record EndsFull (c : ℤ) (s : Split) (r : ℕ × ℕ) (rs : List (ℕ × ℕ)) (t : ℕ) : Type 0 where
  pub front : List (ℕ × Listed)
  pub is : all_listed c (going_on s (r ∷ rs) t) ≡ front ++ all_listed c (going_on (more_of s r r.1) rs 0)

pub listed-full : (c : ℤ) (s : Split) (r : ℕ × ℕ) (rs : List (ℕ × ℕ)) → all_listed c (going_on s (r ∷ rs) r.1) ≡ all_listed c (going_on (more_of s r r.1) rs 0)
unfolding all_listed
listed-full c s r rs =
    let l : r.1 ≤ r.1 = omega arith in
    listed-step c s r rs r.1 l ∙ ap (λ ss. all_listed c (going_on (more_of s r r.1) rs 0) ++ all_listed c ss) (going-over s r rs (r.1 + 1) (omega arith)) ∙ append-nil (all_listed c (going_on (more_of s r r.1) rs 0))

pub ends_full : (c : ℤ) (s : Split) (r : ℕ × ℕ) (rs : List (ℕ × ℕ)) (j : ℕ) → j ≤ r.1 → EndsFull c s r rs (r.1 - j)
ends_full c s r rs zero l = let e : r.1 - 0 ≡ r.1 = omega arith in record { front = []; is = ap (λ t. all_listed c (going_on s (r ∷ rs) t)) e ∙ listed-full c s r rs }
ends_full c s r rs (suc j) l =
    let t = r.1 - suc j in
    let next : t + 1 ≡ r.1 - j = omega (arith, l) in
    let here = all_listed c (going_on (more_of s r t) rs 0) in
    let e = ends_full c s r rs j (omega (arith, l)) in
    record {
      front = here ++ e.front;
      is = listed-step c s r rs t (omega arith) ∙ ap (λ xs. here ++ xs) (ap (λ t. all_listed c (going_on s (r ∷ rs) t)) next ∙ e.is) ∙ sym (append_assoc here e.front (all_listed c (going_on (more_of s r r.1) rs 0)));
    }

-- ---- copies of one index

-- The numbers of j copies of a run's index.
pub record AreCopies (c : ℤ) (r : ℕ × ℕ) (j : ℕ) (x : Chosen) : Type 0 where
  pub numbers : IsNumbered c (more_of no_split r j) x
  pub within : j ≤ r.1

abbrev pub nothing : Chosen
nothing = record { part = record { places = 0; excess = pos 0; code = 0 }; ways = 1; gain = 0; loss = 0 }

pub copies-none : (c : ℤ) (r : ℕ × ℕ) → AreCopies c r 0 nothing
unfolding more_of no_split binomial
copies-none c r = record { numbers = record { part = measured-none c; ways = refl; gain = refl; loss = refl }; within = omega arith }

module _ {c : ℤ} {r : ℕ × ℕ} {j : ℕ} {x : Chosen} (k : AreCopies c r j x) where
  pub copies-more : {e : Chosen} {item : Measure} → j < r.1 → IsMeasured c (r.0 ∷ []) item → e ≡ record x { part = record { places = x.part.places + item.places; excess = x.part.excess +ℤ item.excess; code = x.part.code + item.code }; ways = x.ways * (r.1 - j) / (j + 1) } → AreCopies c r (j + 1) e
  copies-more {e} {item} l i same = record { numbers = numbers-next c no_split r j x e item k.numbers i same; within = omega (arith, l) }

  pub copies-ways : r.1 ≤ 25 → x.ways ≤ 2 ^ 25
  unfolding more_of no_split
  copies-ways few =
      let power : 2 ^ r.1 ≤ 2 ^ 25 = pow-le-pow_right (lit≤ tt) few in
      omega (arith, k.numbers.ways, binomial-small r.1 j, power)

  pub copies-light : unsigned_abs c ≤ 99 → r.1 ≤ 25 → r.0 < 256 → IsLight x.part
  unfolding more_of no_split
  copies-light law few byte = measured-light c (replicate j r.0) x.part law (bytes-replicate j r.0 byte) (omega (arith, length-replicate j r.0, k.within, few)) k.numbers.part

  pub copies-small : unsigned_abs c ≤ 99 → r.1 ≤ 25 → r.0 < 256 → unsigned_abs x.part.excess < 2 ^ 14
  unfolding more_of no_split
  copies-small law few byte = omega (arith, ap unsigned_abs k.numbers.part.excess, excess-small c (replicate j r.0) law (bytes-replicate j r.0 byte), length-replicate j r.0, k.within, few)

-- as many ways to take k of n things as to leave k
binomial-mirror : (n k : ℕ) → k ≤ n → binomial n k ≡ binomial n (n - k)
binomial-mirror n zero l = let e : n - 0 ≡ n = omega arith in binomial-zero n ∙ sym (binomial-all n) ∙ ap (binomial n) (sym e)
binomial-mirror n (suc k) l =
    let j = n - suc k in
    let above : n - k ≡ suc j = omega (arith, l) in
    let below : n - j ≡ suc k = omega (arith, l) in
    let same : binomial n (suc k) * suc k ≡ binomial n j * suc k =
    binomial-step n k ∙ ap₂ (λ a b. a * b) (binomial-mirror n k (omega (arith, l)) ∙ ap (binomial n) above) above ∙ binomial-step n j ∙ ap (λ z. binomial n j * z) below in
    sym (mul-div_cancel (binomial n (suc k)) (omega arith)) ∙ ap (λ z. z / suc k) same ∙ mul-div_cancel (binomial n j) (omega arith)

module _ {c : ℤ} {r : ℕ × ℕ} {j : ℕ} {x : Chosen} (k : AreCopies c r j x) (s : Split) where
  -- a split with all copies of a run's index in its part, without j of them
  less-one : (u : Split) → part_without (listed_of x) (listed_of (numbers_of c (behind (more_of s r r.1) u))) ≡ listed_of (numbers_of c (behind (more_of s r (r.1 - j)) u))
  unfolding part_without listed_of numbers_of behind more_of no_split
  less-one u =
      let t = r.1 - j in
      let v = r.0 in
      let n = k.numbers in
      let all : replicate r.1 v ≡ replicate t v ++ replicate j v = let e : t + j ≡ r.1 = omega (arith, k.within) in ap (λ m. replicate m v) (sym e) ∙ sym (replicate-append-replicate t j v) in
      let whole = λ (m : ℕ). (s.part ++ replicate m v) ++ u.part in
      let code : code_of_list (whole r.1) - x.part.code ≡ code_of_list (whole t) =
      omega (arith, n.part.code, list_code-append (s.part ++ replicate r.1 v) u.part, list_code-append s.part (replicate r.1 v), ap code_of_list all, list_code-append (replicate t v) (replicate j v), list_code-append (s.part ++ replicate t v) u.part, list_code-append s.part (replicate t v)) in
      let places : length (whole r.1) - x.part.places ≡ length (whole t) =
      omega (arith, n.part.places, length-append (s.part ++ replicate r.1 v) u.part, length-append s.part (replicate r.1 v), ap (λ l. length l) all, length-append (replicate t v) (replicate j v), length-append (s.part ++ replicate t v) u.part, length-append s.part (replicate t v)) in
      let excess : excess c (whole r.1) -ℤ x.part.excess ≡ excess c (whole t) =
      omega (arith, ints, n.part.excess, excess-append c (s.part ++ replicate r.1 v) u.part, excess-append c s.part (replicate r.1 v), ap (excess c) all, excess-append c (replicate t v) (replicate j v), excess-append c (s.part ++ replicate t v) u.part, excess-append c s.part (replicate t v)) in
      let top : s.ways * binomial r.1 r.1 ≡ s.ways = ap (λ b. s.ways * b) (binomial-all r.1) ∙ (let o : s.ways * 1 ≡ s.ways = omega arith in o) in
      let copies : x.ways ≡ binomial r.1 t = (let o : x.ways ≡ binomial r.1 j = omega (arith, n.ways) in o) ∙ binomial-mirror r.1 j k.within in
      let ways : ((s.ways * binomial r.1 r.1) * u.ways) * x.ways ≡ (s.ways * binomial r.1 t) * u.ways =
      ap₂ (λ a b. (a * u.ways) * b) top copies ∙ mul_right_comm s.ways u.ways (binomial r.1 t) in
      λ i. record { code = code i; ways = ways i; excess = excess i; places = places i }

  less-all : (us : List Split) → all_without (listed_of x) (all_listed c (map (behind (more_of s r r.1)) us)) ≡ all_listed c (map (behind (more_of s r (r.1 - j))) us)
  unfolding all_without all_listed excess listed_of behind numbers_of
  less-all [] = refl
  less-all (u ∷ us) = ap₂ (λ l ls. (chain l.excess, l) ∷ ls) (less-one u) (less-all us)

  pub less-listed : (rs : List (ℕ × ℕ)) → all_without (listed_of x) (all_listed c (going_on (more_of s r r.1) rs 0)) ≡ all_listed c (going_on (more_of s r (r.1 - j)) rs 0)
  less-listed rs = ap (λ ss. all_without (listed_of x) (all_listed c ss)) (going-all (more_of s r r.1) rs) ∙ less-all (all_splits rs) ∙ ap (all_listed c) (sym (going-all (more_of s r (r.1 - j)) rs))

-- ---- the last of a list

pub last-none : {A : Type 0} (xs : List A) → last_of 0 xs ≡ []
unfolding last_of
last-none xs = let e : length xs - 0 ≡ length xs = omega arith in ap (λ n. drop n xs) e ∙ drop-length xs

pub last-append : {A : Type 0} (xs ys : List A) → last_of (length ys) (xs ++ ys) ≡ ys
unfolding last_of
last-append xs ys = let e : length (xs ++ ys) - length ys ≡ length xs = omega (arith, length-append xs ys) in ap (λ n. drop n (xs ++ ys)) e ∙ drop-append_seam xs ys

-- The item before the last n.
pub record IsBefore {A : Type 0} (n : ℕ) (xs : List A) : Type 0 where
  pub item : A
  pub front : List A
  pub all : xs ≡ front ++ item ∷ last_of n xs
  pub more : last_of (n + 1) xs ≡ item ∷ last_of n xs
  pub count : length (last_of n xs) ≡ n

pub before_last : {A : Type 0} (n : ℕ) (xs : List A) (d : A) → n < length xs → IsBefore n xs
unfolding last_of
before_last n xs d l =
    let at = length xs - (n + 1) in
    let next : at + 1 ≡ length xs - n = omega (arith, l) in
    let more : drop at xs ≡ get_or xs at d ∷ drop (length xs - n) xs = drop_more xs at d (omega (arith, l)) ∙ ap (λ m. get_or xs at d ∷ drop m xs) next in
    record {
      item = get_or xs at d;
      front = take at xs;
      all = sym (take-append-drop at xs) ∙ ap (λ ys. take at xs ++ ys) more;
      more = more;
      count = omega (arith, length-drop (length xs - n) xs, l);
    }

-- ---- all runs

full-one : (rs : List (ℕ × ℕ)) (r : ℕ × ℕ) → full (rs ++ r ∷ []) ≡ more_of (full rs) r r.1
unfolding full more_of listed
full-one rs r =
    let rest : [] ≡ [] ++ replicate (r.1 - r.1) r.0 = let e : r.1 - r.1 ≡ 0 = omega arith in ap (λ n. replicate n r.0) (sym e) in
    let ways : 1 ≡ 1 * binomial r.1 r.1 = omega (arith, binomial-all r.1) in
    λ i. record { part = listed-push rs r i; rest = rest i; ways = ways i }
  where
    listed-push : (rs : List (ℕ × ℕ)) (r : ℕ × ℕ) → listed (rs ++ r ∷ []) ≡ listed rs ++ replicate r.1 r.0
    listed-push [] r = append-nil (replicate r.1 r.0)
    listed-push (q ∷ rs) r = ap (λ l. replicate q.1 q.0 ++ l) (listed-push rs r) ∙ sym (append_assoc (replicate q.1 q.0) (listed rs) (replicate r.1 r.0))

pub run-short : (rs : List (ℕ × ℕ)) (i : ℕ) (d : ℕ × ℕ) → i < length rs → (get_or rs i d).1 ≤ whole_length rs
unfolding whole_length total
run-short [] i d l = absurd (omega (arith, l))
run-short (r ∷ rs) zero d l = omega arith
run-short (r ∷ rs) (suc i) d l = omega (arith, run-short rs i d (omega (arith, l)))

-- ---- what is left of a key

pub whole-small : {c : ℤ} {rest : Rest} → IsRest c rest → unsigned_abs c ≤ 99 → length rest.list.items ≤ 25 → unsigned_abs rest.whole.excess < 2 ^ 14
whole-small {c} {rest} h law few = omega (arith, ap unsigned_abs h.whole.excess, excess-small c rest.list.items law h.bytes, few)

pub whole-listed : {c : ℤ} {rest : Rest} {rs : List (ℕ × ℕ)} {n : ℕ} {l : Listed} {old new : List (ℕ × Listed)} (x : Chosen) → IsRest c rest → rs ≡ runs rest.list.items → x.part ≡ rest.whole → x.ways ≡ 1
    → n ≡ chain rest.whole.excess → l ≡ listed_of x → old ≡ [] → new ≡ (n, l) ∷ old → new ≡ all_listed c (full rs ∷ [])
unfolding all_listed full listed_of numbers_of
whole-listed {c} {rest} {rs} {n} {l} {old} {new} x h e same one i k none is =
    let part : rest.list.items ≡ listed rs = sym (listed-runs rest.list.items) ∙ ap listed (sym e) in
    let m = h.whole in
    let code = ap (λ m. m.code) same ∙ m.code ∙ ap code_of_list part in
    let places = ap (λ m. m.places) same ∙ m.places ∙ ap (λ xs. length xs) part in
    let excess = m.excess ∙ ap (excess c) part in
    let numbers = k ∙ λ j. record { code = code j; ways = one j; excess = (ap (λ m. m.excess) same ∙ excess) j; places = places j } in
    is ∙ ap₂ (λ (x : ℕ × Listed) xs. x ∷ xs) (ap₂ (λ n l. (n, l)) (i ∙ ap chain excess) numbers) none

-- ---- what stands in the loops

-- Splits whose part takes all copies of a run's index were listed, and are now listed before them those with up to j copies less.
pub record IsRunListed (c : ℤ) (r : ℕ × ℕ) (j : ℕ) (x : Chosen) (old now : List (ℕ × Listed)) : Type 0 where
  pub copies : AreCopies c r j x
  pub most : length old ≤ length now
  pub is : (s : Split) (rs : List (ℕ × ℕ)) → old ≡ all_listed c (going_on (more_of s r r.1) rs 0) → now ≡ all_listed c (going_on s (r ∷ rs) (r.1 - j))

pub run-begun : (c : ℤ) (r : ℕ × ℕ) (old : List (ℕ × Listed)) → IsRunListed c r 0 nothing old old
run-begun c r old = record {
  copies = copies-none c r;
  most = omega arith;
  is = λ s rs e. let t : r.1 - 0 ≡ r.1 = omega arith in e ∙ sym (listed-full c s r rs) ∙ ap (λ t. all_listed c (going_on s (r ∷ rs) t)) (sym t);
}

pub run-next : {c : ℤ} {r : ℕ × ℕ} {j : ℕ} {x y : Chosen} {old now new : List (ℕ × Listed)} → IsRunListed c r j x old now → j < r.1 → AreCopies c r (j + 1) y → new ≡ all_without (listed_of y) (last_of (length old) now) ++ now → IsRunListed c r (j + 1) y old new
run-next {c} {r} {j} {x} {y} {old} {now} {new} h l k e = record {
  copies = k;
  most = omega (arith, h.most, ap (λ xs. length xs) e, length-append (all_without (listed_of y) (last_of (length old) now)) now);
  is = λ s rs o.
      let t = r.1 - (j + 1) in
      let next : t + 1 ≡ r.1 - j = omega (arith, l) in
      let last = all_listed c (going_on (more_of s r r.1) rs 0) in
      let ends = ends_full c s r rs j (omega (arith, l)) in
      let is = h.is s rs o in
      let block : last_of (length old) now ≡ last = ap₂ (λ n xs. last_of n xs) (ap (λ xs. length xs) o) (is ∙ ends.is) ∙ last-append ends.front last in
      e ∙ ap₂ ◌++◌ (ap (all_without (listed_of y)) block ∙ less-listed k s rs) (is ∙ ap (λ t. all_listed c (going_on s (r ∷ rs) t)) (sym next)) ∙ sym (listed-step c s r rs t (omega arith));
}

-- The split whose part takes all was listed, and now all splits whose part takes all of the first runs.
pub record AreRunsListed (c : ℤ) (rs : List (ℕ × ℕ)) (left : ℕ) (old now : List (ℕ × Listed)) : Type 0 where
  pub within : left ≤ length rs
  pub is : old ≡ all_listed c (full rs ∷ []) → now ≡ all_listed c (going_on (full (take left rs)) (drop left rs) 0)

pub runs-begun : (c : ℤ) (rs : List (ℕ × ℕ)) (old : List (ℕ × Listed)) → AreRunsListed c rs (length rs) old old
unfolding going_on
runs-begun c rs old = record {
  within = omega arith;
  is = λ e. e ∙ ap₂ (λ f b. all_listed c (going_on (full f) b 0)) (sym (take-length rs)) (sym (drop-length rs));
}

pub runs-next : {c : ℤ} {rs : List (ℕ × ℕ)} {left : ℕ} {old now new : List (ℕ × Listed)} (r : ℕ × ℕ) → AreRunsListed c rs (left + 1) old now → take (left + 1) rs ≡ take left rs ++ r ∷ [] → drop left rs ≡ r ∷ drop (left + 1) rs → ((s : Split) (bs : List (ℕ × ℕ)) → now ≡ all_listed c (going_on (more_of s r r.1) bs 0) → new ≡ all_listed c (going_on s (r ∷ bs) 0)) → AreRunsListed c rs left old new
runs-next {c} {rs} {left} {old} {now} {new} r h front back f = record {
  within = omega (arith, h.within);
  is = λ e.
      let first : full (take (left + 1) rs) ≡ more_of (full (take left rs)) r r.1 = ap full front ∙ full-one (take left rs) r in
      f (full (take left rs)) (drop (left + 1) rs) (h.is e ∙ ap (λ s. all_listed c (going_on s (drop (left + 1) rs) 0)) first) ∙ ap (λ b. all_listed c (going_on (full (take left rs)) b 0)) (sym back);
}
