-- The seats of a crew, before and behind its run; and all seats of a board, swept.
use Rattle.std.proofs.Common.{◌≡◌, ℕ, zero, suc, ◌+◌, ◌<◌, Bool, true, false, List, [], ◌∷◌, ◌++◌, length, map, get_or, Option, None, Some, refl, sym, ap, ap₂, ◌∙◌, subst, arith, true≢false, length-append, append-nil, append_assoc, ◌||◌, slice_index}
use Rattle.amp_plan.proofs.RowLemmas.{has-append, has-at}
use Rattle.std.proofs.Math.ListN.{get_or-append, get_or-map}
use Rattle.std.proofs.Math.Seq.{get_or-append_seam}
use Rattle.std.proofs.lemmas.List.{same_lists}
use Rattle.amp_plan.proofs.GraphLemmas.{keep-row}
use Rattle.amp_terms.specs.Outcomes.{outcomes}
use Rattle.amp_terms.specs.Tables.{full_table}
use Rattle.amp_terms.proofs.OutcomeLemmas.{length-all}
use Rattle.cell_words.specs.Starts.{can_start, starts}
use Rattle.cell_words.proofs.AloneLemmas.{same_numbers}
use Rattle.cell_words.specs.declared.countdown.Countdown.{Countdown}
use Rattle.cell_words.specs.declared.countdown.CountSeat.{CountSeat}
use Rattle.cell_words.proofs.Names.{length-map, get_or_default, dite, ℕ_discrete, Planning, tensors_of, has, Outcome, Over, cells, outcome_at, Known, view_of, AreAll, IsAfter, receipts_of}
use Rattle.fill_crew.specs.Crews.{IsIdle, IsBack, BeginsWith, HasWorked, AreSwept}
use Rattle.cell_words.specs.Claims.{Claims}
use Rattle.cell_words.specs.declared.claim.Claim.{Claim}
use Rattle.cell_words.specs.declared.claim.Claim.TheVariants.{Mine, Needs, Taken, Done}
use Rattle.cell_words.specs.declared.view.View.{View}

-- ---- what is true of what the items of lists have

pub unmap : {X Y : Type 0} (P : Y → Type 0) (f : X → Y) (xs : List X) (ys : List Y) → map f xs ≡ ys → ((k : ℕ) (d : Y) → k < length ys → P (get_or ys k d)) → (k : ℕ) (d : X) → k < length xs → P (f (get_or xs k d))
unmap {Y = Y} P f xs ys e h k d low = subst P (ap (λ l. get_or l k (f d)) (sym e) ∙ get_or-map f xs k d) (h k (f d) (subst (λ (l : List Y). k < length l) e (rw (length-map xs f) low)))

pub map-both : {X Y : Type 0} (P : Y → Y → Type 0) (f : X → Y) (xs ys : List X) → length ys ≡ length xs → ((k : ℕ) (d : X) → k < length xs → P (f (get_or xs k d)) (f (get_or ys k d))) → (k : ℕ) (d : Y) → k < length xs → P (get_or (map f xs) k d) (get_or (map f ys) k d)
map-both P f [] ys e h k d low = absurd (omega arith)
map-both P f (x ∷ xs) [] e h k d low = absurd (omega arith)
map-both P f (x ∷ xs) (y ∷ ys) e h zero d low = h 0 x low
map-both P f (x ∷ xs) (y ∷ ys) e h (suc k) d low = map-both P f xs ys (omega arith) (λ j c l. h (suc j) c (omega arith)) k d (omega arith)

-- a crew that didn't run is back
pub idle_back : (b : Countdown) (s : CountSeat) → IsIdle b s → IsBack b s s
idle_back b s h = record { seat = h.0; held = h.1; number = refl }

-- a seat with which no worker has run yet
pub worked_none : (b : Countdown) (s : CountSeat) → IsIdle b s → HasWorked b s s
worked_none b s h = record { back = idle_back b s h; keeps = λ r k. k; more = []; done = sym (append-nil s.done.items) }

-- a worker's next step
pub worked_more : (b : Countdown) (s t u : CountSeat) (xs : List ℕ) → HasWorked b s t → IsIdle b u → u.number ≡ t.number → u.done.items ≡ t.done.items ++ xs
    → ((r : ℕ) → Known (view_of t) r → Known (view_of u) r) → HasWorked b s u
worked_more b s t u xs h idle number done keeps = record {
  back = record { seat = idle.0; held = idle.1; number = number ∙ h.back.number };
  keeps = λ r k. keeps r (h.keeps r k);
  more = h.more ++ xs;
  done = done ∙ ap (λ l. l ++ xs) h.done ∙ append_assoc s.done.items h.more xs;
}

-- a rank that is ready at the start is a rank of the plan
pub start_low : (p : Planning) (carried : List ℕ) (k : ℕ) → k < length (starts p carried) → slice_index (starts p carried) k < cells p
unfolding starts
start_low p carried k l = (keep-row (can_start p carried) (cells p)).small (get_or (starts p carried) k 0) (has-at (starts p carried) k l)

-- ---- a sweep

same_receipts : (old new : List CountSeat) → length new ≡ length old → ((j : ℕ) (d : CountSeat) → j < length old → (get_or new j d).done ≡ (get_or old j d).done) → receipts_of new ≡ receipts_of old
same_receipts [] [] e h = refl
same_receipts [] (t ∷ ts) e h = absurd (omega arith)
same_receipts (s ∷ ss) [] e h = absurd (omega arith)
same_receipts (s ∷ ss) (t ∷ ts) e h = ap₂ ◌++◌ (ap (λ v. v.items) (h 0 s (omega arith))) (same_receipts ss ts (omega arith) (λ j d l. h (suc j) d (omega arith)))

-- the first seat has more receipts, and the others have theirs
more_receipts : (old new : List CountSeat) (xs : List ℕ) → length new ≡ length old → 0 < length old → ((d : CountSeat) → (get_or new 0 d).done.items ≡ (get_or old 0 d).done.items ++ xs)
    → ((j : ℕ) (d : CountSeat) → 0 < j → j < length old → (get_or new j d).done ≡ (get_or old j d).done)
    → (r : ℕ) → (has r (receipts_of old) ≡ true → has r (receipts_of new) ≡ true) × (has r xs ≡ true → has r (receipts_of new) ≡ true)
more_receipts [] new xs e some first others r = absurd (omega arith)
more_receipts (s ∷ ss) [] xs e some first others r = absurd (omega arith)
more_receipts (s ∷ ss) (t ∷ ts) xs e some first others r =
    let is : has r (receipts_of (t ∷ ts)) ≡ ((has r s.done.items || has r xs) || has r (receipts_of ss)) =
    ap (has r) (ap₂ ◌++◌ (first s) (same_receipts ss ts (omega arith) (λ j d l. others (suc j) d (omega arith) (omega arith)))) ∙ has-append r (s.done.items ++ xs) (receipts_of ss)
    ∙ ap (λ b. b || has r (receipts_of ss)) (has-append r s.done.items xs) in (
      λ h. is ∙ stays (has r s.done.items) (has r xs) (has r (receipts_of ss)) (sym (has-append r s.done.items (receipts_of ss)) ∙ h),
      λ h. is ∙ comes (has r s.done.items) (has r xs) (has r (receipts_of ss)) h,
    )
  where
    stays : (a b c : Bool) → (a || c) ≡ true → ((a || b) || c) ≡ true
    stays true b c h = refl
    stays false true c h = refl
    stays false false c h = h

    comes : (a b c : Bool) → b ≡ true → ((a || b) || c) ≡ true
    comes true b c h = refl
    comes false true c h = refl
    comes false false c h = absurd (true≢false (sym h))

-- what is put behind a list leaves its front
pub begins_more : (ranks xs ys zs : List ℕ) → BeginsWith ranks xs → ys ≡ xs ++ zs → BeginsWith ranks ys
begins_more ranks xs ys zs h e = (h.0 ++ zs, e ∙ ap (λ l. l ++ zs) h.1 ∙ append_assoc ranks h.0 zs)

-- what was swept stays so when the next rank is filled
pub swept_more : (b : Countdown) (n : ℕ) (old mid new : List CountSeat) → AreSwept b n old mid → AreAll b new → length new ≡ length mid
    → ((j : ℕ) (d : CountSeat) → j < length mid → IsAfter n (get_or mid j d) (get_or new j d))
    → ((d : CountSeat) → has n (receipts_of mid) ≡ false → (get_or new 0 d).done.items ≡ (get_or mid 0 d).done.items ++ n ∷ [])
    → ((d : CountSeat) → has n (receipts_of mid) ≡ true → (get_or new 0 d).done.items ≡ (get_or mid 0 d).done.items)
    → ((j : ℕ) (d : CountSeat) → 0 < j → j < length mid → (get_or new j d).done ≡ (get_or mid j d).done)
    → AreSwept b (n + 1) old new
swept_more b n old mid new h all len after fills stays others = record {
  all = all;
  len = len ∙ h.len;
  number = λ j d l. (after j d (omega (arith, l, h.len))).number ∙ h.number j d l;
  first = λ d. grows d (has n (receipts_of mid)) refl;
  others = λ j d p l. others j d p (omega (arith, l, h.len)) ∙ h.others j d p l;
  filled = λ r l. by (has n (receipts_of mid)) refl r l;
  knows = λ j d r l low. dite (ℕ_discrete r n)
      (λ e. subst (Known (view_of (get_or new j d))) (sym e) (after j d (omega (arith, l, h.len))).knows)
      (λ other. (after j d (omega (arith, l, h.len))).keeps r (h.knows j d r l (omega (arith, low, other))));
}
  where
    some : 0 < length mid
    some = omega (arith, len, all.seats.some)

    grows : (d : CountSeat) (t : Bool) → has n (receipts_of mid) ≡ t → BeginsWith (get_or old 0 d).done.items (get_or new 0 d).done.items
    grows d true e = begins_more (get_or old 0 d).done.items (get_or mid 0 d).done.items (get_or new 0 d).done.items [] (h.first d) (stays d e ∙ sym (append-nil (get_or mid 0 d).done.items))
    grows d false e = begins_more (get_or old 0 d).done.items (get_or mid 0 d).done.items (get_or new 0 d).done.items (n ∷ []) (h.first d) (fills d e)

    by : (t : Bool) → has n (receipts_of mid) ≡ t → (r : ℕ) → r < n + 1 → has r (receipts_of new) ≡ true
    by true e r l =
        let more = more_receipts mid new [] len some (λ d. stays d e ∙ sym (append-nil (get_or mid 0 d).done.items)) others in
        dite (ℕ_discrete r n) (λ is. (more r).0 (ap (λ k. has k (receipts_of mid)) is ∙ e)) (λ other. (more r).0 (h.filled r (omega (arith, l, other))))
    by false e r l =
        let more = more_receipts mid new (n ∷ []) len some (λ d. fills d e) others in
        dite (ℕ_discrete r n) (λ is. (more r).1 (ap (λ k. has k (n ∷ [])) is ∙ has-at (n ∷ []) 0 (omega arith))) (λ other. (more r).0 (h.filled r (omega (arith, l, other))))

-- before the first rank nothing was swept
pub swept_none : (b : Countdown) (ss : List CountSeat) → AreAll b ss → AreSwept b 0 ss ss
swept_none b ss all = record { all = all; len = refl; number = λ j d l. refl; first = λ d. ([], sym (append-nil (get_or ss 0 d).done.items)); others = λ j d p l. refl; filled = λ r l. absurd (omega arith); knows = λ j d r l low. absurd (omega arith) }

-- ---- all seats of a board

-- two lists, each with one item more
pub snoc-both : {X : Type 0} (P : X → X → Type 0) (xs ys : List X) (x y : X) → length ys ≡ length xs → ((k : ℕ) (d : X) → k < length xs → P (get_or xs k d) (get_or ys k d)) → P x y
    → (k : ℕ) (d : X) → k < length (xs ++ x ∷ []) → P (get_or (xs ++ x ∷ []) k d) (get_or (ys ++ y ∷ []) k d)
snoc-both P [] [] x y e h p zero d low = p
snoc-both P [] [] x y e h p (suc k) d low = absurd (omega arith)
snoc-both P [] (b ∷ ys) x y e h p k d low = absurd (omega arith)
snoc-both P (a ∷ xs) [] x y e h p k d low = absurd (omega arith)
snoc-both P (a ∷ xs) (b ∷ ys) x y e h p zero d low = h 0 a (omega arith)
snoc-both P (a ∷ xs) (b ∷ ys) x y e h p (suc k) d low = snoc-both P xs ys x y (omega arith) (λ j c l. h (suc j) c (omega arith)) p k d (omega arith)

-- all seats that come back are all seats
pub all_back : (b : Countdown) (old new : List CountSeat) → AreAll b old → length new ≡ length old → ((j : ℕ) (d : CountSeat) → j < length old → IsBack b (get_or old j d) (get_or new j d)) → AreAll b new
all_back b old new h len back = record {
  seats = record {
    some = omega (arith, len, h.seats.some);
    each = λ j d l. (back j d (omega (arith, l, len))).seat;
    free = λ j d l. (back j d (omega (arith, l, len))).held;
  };
  all = λ k l. subst (λ ns. has k ns ≡ true) (sym (same_numbers old new len (λ j d l. (back j d l).number))) (h.all k l);
}

-- ---- a board's seats, of which the last is kept apart

module _ (b : Countdown) (made rest : List CountSeat) (own : CountSeat) (all : AreAll b made) (is : made ≡ rest ++ own ∷ []) where
  pub rest_idle : (k : ℕ) (d : CountSeat) → k < length rest → IsIdle b (get_or rest k d)
  rest_idle k d l =
      let there : k < length made = omega (arith, l, ap length is, length-append rest (own ∷ [])) in
      let same : get_or made k d ≡ get_or rest k d = ap (λ ss. get_or ss k d) is ∙ get_or-append rest (own ∷ []) d k l in
      subst (IsIdle b) same (all.seats.each k d there, all.seats.free k d there)

  pub last_idle : IsIdle b own
  last_idle =
      let there : length rest < length made = omega (arith, ap length is, length-append rest (own ∷ [])) in
      let same : get_or made (length rest) own ≡ own = ap (λ ss. get_or ss (length rest) own) is ∙ get_or-append_seam rest own [] own in
      subst (IsIdle b) same (all.seats.each (length rest) own there, all.seats.free (length rest) own there)

  pub rejoined : (back : List CountSeat) (mine : CountSeat) → length back ≡ length rest → ((k : ℕ) (d : CountSeat) → k < length rest → IsBack b (get_or rest k d) (get_or back k d)) → IsBack b own mine → AreAll b (back ++ mine ∷ [])
  rejoined back mine len backs me =
      all_back b (rest ++ own ∷ []) (back ++ mine ∷ []) (subst (AreAll b) is all) (omega (arith, len, length-append rest (own ∷ []), length-append back (mine ∷ []))) (snoc-both (IsBack b) rest back own mine len backs me)

-- ---- a full table

pub full_is : (p : Planning) (t : List (Option Outcome)) → length t ≡ cells p → ((r : ℕ) → r < cells p → get_or t r None ≡ Some (outcome_at p r)) → t ≡ full_table (tensors_of p) p.bound
unfolding full_table outcome_at
full_is p t len each =
    let os = outcomes (tensors_of p) p.bound in
    let many : length (map (λ o. Some o) os) ≡ cells p = length-map os (λ o. Some o) ∙ length-all p in
    same_lists t (map (λ o. Some o) os) (omega (arith, len, many))
    (λ i d h. get_or_default t i d None h ∙ each i (omega (arith, h, len)) ∙ sym (get_or-map (λ o. Some o) os i Over) ∙ get_or_default (map (λ o. Some o) os) i (Some Over) d (omega (arith, h, len, many)))

-- ---- the last seat behind a sweep

module _ (b : Countdown) (n : ℕ) (old new rest : List CountSeat) (own : CountSeat) (h : AreSwept b n old new) (is : new ≡ rest ++ own ∷ []) where
  -- it knows every rank
  pub last_knows : (r : ℕ) → r < n → Known (view_of own) r
  last_knows r l =
      let there : length rest < length old = omega (arith, h.len, ap length is, length-append rest (own ∷ [])) in
      subst (λ s. Known (view_of s) r) (ap (λ ss. get_or ss (length rest) own) is ∙ get_or-append_seam rest own [] own) (h.knows (length rest) own r there l)

  -- and can be another that did the same
  pub last_again : (mine : CountSeat) → IsBack b own mine → mine.done.items ≡ own.done.items → AreAll b (rest ++ mine ∷ []) × ((r : ℕ) → r < n → has r (receipts_of (rest ++ mine ∷ [])) ≡ true)
  last_again mine back done = (
    rejoined b new rest own h.all is rest mine refl (λ k d l. idle_back b (get_or rest k d) (rest_idle b new rest own h.all is k d l)) back,
    λ r l. ap (has r) (same rest) ∙ sym (ap (λ ss. has r (receipts_of ss)) is) ∙ h.filled r l,
  )
    where
      same : (ss : List CountSeat) → receipts_of (ss ++ mine ∷ []) ≡ receipts_of (ss ++ own ∷ [])
      same [] = ap (λ l. l ++ []) done
      same (s ∷ ss) = ap (λ l. s.done.items ++ l) (same ss)

-- who doesn't claim a cell holds none
pub holds_none : (p : Planning) (r : ℕ) (old new : View) (held : Option ℕ) (x : Claim) → Claims p r old new held x → (x ≡ Mine → ⊥) → held ≡ None
holds_none p r old new held Mine c other = absurd (other refl)
holds_none p r old new held (Needs n) c other = c.0
holds_none p r old new held Taken c other = c.0
holds_none p r old new held Done c other = c.0
