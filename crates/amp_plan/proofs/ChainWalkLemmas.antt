-- A walk over listed splits, or along the chain of one excess, meets all products.
use Rattle.std.proofs.Common.{Option, ◌≡◌, ℕ, suc, ◌-◌, ◌<◌, ◌≤◌, ◌^◌, Bool, true, false, List, [], ◌∷◌, ◌++◌, length, map, append_assoc, append-nil, refl, sym, ap, subst, ◌∙◌, arith, lit≤, ℤ, cond, nat_eq, Some, None, length-append, not, eq-eqb}
use Rattle.amp_plan.proofs.Words.{AllByRecursion, ints, pow-le-pow_right, total, key_of, insert, Split, splits, each, all_splits, whole_length, splits_law, looked_up, from_first, first-within, Planning, tensors_of, RankedTerm, Twice, NameAllowed, Takes, HasRoom, split_part, IsMeasured, choice_part, IsShare, FitsShare, IsChosen, CanGoOn, chain, listed_of, numbers_of, all_listed, Share, Listed, false≢true}
use Rattle.std.proofs.lemmas.List.{length-map}
use Rattle.airy_math.specs.Rational.{whole}
use Rattle.index_lists.specs.Measures.{excess, gain, loss}
use Rattle.index_lists.specs.Parts.{listed}
use Rattle.index_lists.specs.SplitLists.{chosen_of, is_passed, first_with, MeetsAt}
use Rattle.airy_math.proofs.EachLemmas.{each-append}
use Rattle.amp_plan.proofs.WalkLemmas.{takes-same, taken-all, taken-more, allowed-next, allowed-same, HasTaken}
use Rattle.amp_plan.proofs.SplitWalkLemmas.{total_at}
use Rattle.index_lists.proofs.SplitLemmas.{all-left, all-right, all-both, each-none, behind-end}
use Rattle.amp_plan.proofs.ChoiceLemmas.{choices-end}
use Rattle.index_lists.proofs.MeasureLemmas.{bytes_below}
use Rattle.amp_plan.proofs.ReachLemmas.{no_ranks, live_within}
use Rattle.index_lists.proofs.RestLemmas.{all-standing}
use Rattle.amp_plan.proofs.StartLemmas.{all_fit}
use Rattle.index_lists.proofs.SplitListLemmas.{listed-append}

-- ---- the splits that are met

-- The next split that is met: those before it are passed over.
record IsNext (c : ℤ) (k : Option ℕ) (ss : List Split) (left : ℕ) : Type 0 where
  before : List Split
  split : Split
  after : List Split
  parts : before ++ split ∷ after ≡ ss
  others : AllByRecursion (λ s. is_passed k (chain (excess c s.part)) ≡ true) before
  same : is_passed k (chain (excess c split.part)) ≡ false
  at : left ≡ suc (length (all_listed c after))

next_split : (c : ℤ) (k : Option ℕ) (ss : List Split) → 0 < first_with k (all_listed c ss) → IsNext c k ss (first_with k (all_listed c ss))
unfolding all_listed first_with from_first is_passed
next_split c None [] l = absurd (omega arith)
next_split c None (s ∷ ss) l = record { before = []; split = s; after = ss; parts = refl; others = tt; same = refl; at = refl }
next_split c (Some n) [] l = absurd (omega arith)
next_split c (Some n) (s ∷ ss) l = by (nat_eq (chain (excess c s.part)) n) refl l (next_split c (Some n) ss)
  where
    by : (t : Bool) → nat_eq (chain (excess c s.part)) n ≡ t → 0 < cond t (suc (length (all_listed c ss))) (from_first n (all_listed c ss)) → (0 < from_first n (all_listed c ss) → IsNext c (Some n) ss (from_first n (all_listed c ss)))
        → IsNext c (Some n) (s ∷ ss) (cond t (suc (length (all_listed c ss))) (from_first n (all_listed c ss)))
    by true e l r = record { before = []; split = s; after = ss; parts = refl; others = tt; same = ap not e; at = refl }
    by false e l r =
        let x = r l in
        record { before = s ∷ x.before; split = x.split; after = x.after; parts = ap (λ us. s ∷ us) x.parts; others = (ap not e, x.others); same = x.same; at = x.at }

no_more : (c : ℤ) (k : Option ℕ) (ss : List Split) → first_with k (all_listed c ss) ≡ 0 → AllByRecursion (λ s. is_passed k (chain (excess c s.part)) ≡ true) ss
unfolding all_listed first_with from_first is_passed
no_more c k [] l = tt
no_more c None (s ∷ ss) l = absurd (omega (arith, l))
no_more c (Some n) (s ∷ ss) l = by (nat_eq (chain (excess c s.part)) n) refl l (no_more c (Some n) ss)
  where
    by : (t : Bool) → nat_eq (chain (excess c s.part)) n ≡ t → cond t (suc (length (all_listed c ss))) (from_first n (all_listed c ss)) ≡ 0 → (from_first n (all_listed c ss) ≡ 0 → AllByRecursion (λ s. is_passed (Some n) (chain (excess c s.part)) ≡ true) ss)
        → AllByRecursion (λ s. is_passed (Some n) (chain (excess c s.part)) ≡ true) (s ∷ ss)
    by true e l r = absurd (omega (arith, l))
    by false e l r = (ap not e, r l)

first_with-within : {T : Type 0} (k : Option ℕ) (xs : List (ℕ × T)) → first_with k xs ≤ length xs
unfolding first_with
first_with-within None xs = omega arith
first_with-within (Some n) xs = first-within n xs

-- where the next split stands in the whole list
pub listed-parts : (c : ℤ) (taken before after ahead all : List Split) (s : Split) → taken ++ ahead ≡ all → before ++ s ∷ after ≡ ahead
    → all_listed c (taken ++ before) ++ (chain (excess c s.part), listed_of (numbers_of c s)) ∷ all_listed c after ≡ all_listed c all
unfolding all_listed
listed-parts c taken before after ahead all s e h =
    sym (listed-append c (taken ++ before) (s ∷ after)) ∙ ap (all_listed c) (append_assoc taken before (s ∷ after) ∙ ap (λ us. taken ++ us) h ∙ e)

-- ---- the splits of a share

-- A split of a share's indices with few ways.
pub record StandsIn (p : Planning) (h : Share) (s : Split) : Type 0 where
  pub fits : FitsShare p h s
  pub small : s.ways ≤ 2 ^ 25

pub all_stand : (p : Planning) (h : Share) (I : List ℕ) → IsShare p h → HasRoom (tensors_of p) p.bound h.genus I → IsMeasured h.per_n (h.pair.now.b ∷ I) h.right → AllByRecursion (StandsIn p h) (splits I)
all_stand p h I is room right =
    let few : length I ≤ 25 = omega (arith, room.level, is.bound) in
    let power : 2 ^ length I ≤ 2 ^ 25 = pow-le-pow_right (lit≤ tt) few in
    all-both (FitsShare p h) (λ s. s.ways ≤ 2 ^ 25) (StandsIn p h) (splits I) (λ s f w. record { fits = f; small = w }) (all_fit p h I is room right)
    (all-standing (λ s. s.ways ≤ 2 ^ 25) [] (splits I) (splits I) refl (λ before after s e.
    omega (arith, total_at (λ s. s.ways) before after s, ap (λ ss. total (map (λ s. s.ways) ss)) e, splits_law.ways I, power)))

pub all-ahead : {A : Type 0} (P : A → Type 0) (taken ahead all : List A) → taken ++ ahead ≡ all → AllByRecursion P all → AllByRecursion P ahead
all-ahead P taken ahead all e a = all-right P taken ahead (subst (AllByRecursion P) (sym e) a)

pub listed_chosen : (p : Planning) (h : Share) (s : Split) → IsShare p h → StandsIn p h s → IsChosen p h [] (numbers_of h.per_n s) s
unfolding numbers_of listed gain loss whole_length total all_splits tensors_of looked_up
listed_chosen p h s is f =
    let part = f.fits.is_part.part in
    record {
      part = record { places = refl; excess = refl; code = refl };
      ways = refl;
      gain = refl;
      loss = refl;
      fits = (subst (FitsShare p h) (sym (behind-end s)) f.fits, tt);
      bytes = bytes_below 0 p.tensors.dim s.part (omega (arith, is.dim)) part.sorted;
      few = omega (arith, part.level, is.bound);
      small = omega (arith, f.small);
    }

-- where a chain is walked along, the part of each product has its excess
abbrev pub IsOnly : Share → Option ℕ → Type 0
IsOnly h k = (n : ℕ) → k ≡ Some n → (h.low ≡ h.high) × (n ≡ chain h.low)

-- a split that is passed over has no product
passed_none : (p : Planning) (h : Share) (k : Option ℕ) (s : Split) → IsShare p h → IsOnly h k → StandsIn p h s → is_passed k (chain (excess h.per_n s.part)) ≡ true → split_part p h.genus h.pair.now.a h.pair.now.b h.pair.now.weight h.k s ≡ []
unfolding split_part is_passed
passed_none p h None s is only f other = cc
passed_none p h (Some n) s is only f other =
    no_ranks p (key_of h.k (insert h.pair.now.a s.part)) (key_of (h.genus - h.k) (insert h.pair.now.b s.rest)) (Twice h.pair.now.weight (whole s.ways)) (λ a b.
    let w = live_within p h s is f.fits a b in
    let o = only n refl in
    let same : excess h.per_n s.part ≡ h.low = omega (arith, ints, w.0, w.1, o.0) in
    let met : chain (excess h.per_n s.part) ≡ n = ap chain same ∙ sym o.1 in
    false≢true (sym (ap not (eq-eqb (chain (excess h.per_n s.part)) n met)) ∙ other))

length-listed : (c : ℤ) (ss : List Split) → length (all_listed c ss) ≡ length ss
unfolding all_listed
length-listed c ss = length-map ss (λ s. (chain (excess c s.part), listed_of (numbers_of c s)))

listed-back : (c : ℤ) (s : Split) (l : Listed) → l ≡ listed_of (numbers_of c s) → chosen_of l ≡ numbers_of c s
unfolding listed_of chosen_of numbers_of
listed-back c s l e = ap chosen_of e

-- ---- what a visitor has taken

module _ {W S : Type 0} {allows : W → ℕ → Type 0} {state : W → S} {step : S → RankedTerm → S} {f : Split → List RankedTerm} where
  -- those that make nothing are taken too
  taken-skip : (before : List Split) {all rest ahead : List Split} {a b : W} → before ++ rest ≡ ahead → AllByRecursion (λ x. f x ≡ []) before → HasTaken allows state step f all ahead a b → HasTaken allows state step f all rest a b
  taken-skip before {all} {rest} {ahead} {a} {b} e none h = record {
    before = h.before ++ before;
    parts = append_assoc h.before before rest ∙ ap (λ xs. h.before ++ xs) e ∙ h.parts;
    takes = takes-same (sym (each-append h.before before f ∙ ap (λ ts. each h.before f ++ ts) (each-none f before none) ∙ append-nil (each h.before f))) h.takes;
  }

-- A visitor that took what all splits make but those ahead; it is known how many there are from the first one of them that is met on.
pub record HasWalked {W S : Type 0} (allows : W → ℕ → Type 0) (state : W → S) (step : S → RankedTerm → S) (f : Split → List RankedTerm) (c : ℤ) (k : Option ℕ) (all : List Split) (left : ℕ) (old new : W) : Type 0 where
  pub ahead : List Split
  pub is : left ≡ first_with k (all_listed c ahead)
  pub taken : HasTaken allows state step f all ahead old new

module _ {W S : Type 0} {allows : W → ℕ → Type 0} {state : W → S} {step : S → RankedTerm → S} {c : ℤ} {f : Split → List RankedTerm} {k : Option ℕ} {all : List Split} {left : ℕ} {old new : W} (w : HasWalked allows state step f c k all left old new) where
  pub walked-within : {xs : List (ℕ × Listed)} → xs ≡ all_listed c all → left ≤ length xs
  walked-within {xs} e = omega (arith, w.is, first_with-within k (all_listed c w.ahead), length-listed c w.ahead, ap length w.taken.parts, length-append w.taken.before w.ahead, ap length e, length-listed c all)

abbrev pub made : Planning → Share → Split → List RankedTerm
made p h = split_part p h.genus h.pair.now.a h.pair.now.b h.pair.now.weight h.k

-- A split that is met as it is listed, what stands behind it, and what was taken before it.
pub record IsMet {W S : Type 0} (allows : W → ℕ → Type 0) (state : W → S) (step : S → RankedTerm → S) (p : Planning) (h : Share) (k : Option ℕ) (all : List Split) (left : ℕ) (old new : W) (r : Listed × ℕ) : Type 0 where
  pub split : Split
  pub after : List Split
  pub at : left ≡ suc (length (all_listed h.per_n after))
  pub next : r.1 ≡ first_with k (all_listed h.per_n after)
  pub chosen : IsChosen p h [] (chosen_of r.0) split
  pub taken : HasTaken allows state step (made p h) all (split ∷ after) old new

module _ {W S : Type 0} {allows : W → ℕ → Type 0} {state : W → S} {step : S → RankedTerm → S} {p : Planning} {h : Share} {k : Option ℕ} {all : List Split} {left : ℕ} {old new : W} where
  module _ (is : IsShare p h) (stand : AllByRecursion (StandsIn p h) all) (only : IsOnly h k) (w : HasWalked allows state step (made p h) h.per_n k all left old new) where
    idle : (before rest : List Split) → before ++ rest ≡ w.ahead → AllByRecursion (λ s. is_passed k (chain (excess h.per_n s.part)) ≡ true) before → AllByRecursion (λ s. made p h s ≡ []) before
    idle before rest e passed =
        all-both (StandsIn p h) (λ s. is_passed k (chain (excess h.per_n s.part)) ≡ true) (λ s. made p h s ≡ []) before (λ s f o. passed_none p h k s is only f o)
        (all-left (StandsIn p h) before rest (all-ahead (StandsIn p h) [] (before ++ rest) w.ahead e (all-ahead (StandsIn p h) w.taken.before w.ahead all w.taken.parts stand))) passed

    pub meets : 0 < left → {xs : List (ℕ × Listed)} {r : Listed × ℕ} → xs ≡ all_listed h.per_n all → MeetsAt k xs left r → IsMet allows state step p h k all left old new r
    meets l {xs} {r} listed at =
        let x = next_split h.per_n k w.ahead (subst (λ k. 0 < k) w.is l) in
        let here = w.is ∙ x.at in
        let met = at (all_listed h.per_n (w.taken.before ++ x.before)) (all_listed h.per_n x.after) (chain (excess h.per_n x.split.part), listed_of (numbers_of h.per_n x.split))
        (listed-parts h.per_n w.taken.before x.before x.after w.ahead all x.split w.taken.parts x.parts ∙ sym listed) here x.same in
        let stands = (all-right (StandsIn p h) x.before (x.split ∷ x.after) (all-ahead (StandsIn p h) [] (x.before ++ x.split ∷ x.after) w.ahead x.parts (all-ahead (StandsIn p h) w.taken.before w.ahead all w.taken.parts stand))).0 in
        record {
          split = x.split;
          after = x.after;
          at = here;
          next = ap (λ q. q.1) met;
          chosen = subst (λ d. IsChosen p h [] d x.split) (sym (listed-back h.per_n x.split r.0 (ap (λ q. q.0) met))) (listed_chosen p h x.split is stands);
          taken = taken-skip x.before x.parts (idle x.before (x.split ∷ x.after) x.parts x.others) w.taken;
        }

    -- where no one is met any more, all is taken
    pub walked-all : left ≡ 0 → Takes allows state step (each all (made p h)) old new
    walked-all l = taken-all refl (taken-skip w.ahead (append-nil w.ahead) (idle w.ahead [] (append-nil w.ahead) (no_more h.per_n k w.ahead (sym w.is ∙ l))) w.taken)

  module _ {r : Listed × ℕ} (m : IsMet allows state step p h k all left old new r) where
    pub met-goes_on : NameAllowed (allows old) (each all (made p h)) → CanGoOn (allows new) p h [] (chosen_of r.0)
    met-goes_on a = record { split = m.split; chosen = m.chosen; allowed = allowed-same _ (choices-end p h m.split) (allowed-next refl a m.taken) }

    pub met-walked : {newer : W} → ((s : Split) → IsChosen p h [] (chosen_of r.0) s → Takes allows state step (choice_part p h s []) new newer) → HasWalked allows state step (made p h) h.per_n k all r.1 old newer
    met-walked {newer} t = record { ahead = m.after; is = m.next; taken = taken-more refl m.taken (takes-same (choices-end p h m.split) (t m.split m.chosen)) }

    pub met-shorter : r.1 < left
    met-shorter = omega (arith, m.next, m.at, first_with-within k (all_listed h.per_n m.after))
