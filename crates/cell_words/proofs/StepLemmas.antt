-- Each step keeps the rule.
use Rattle.std.proofs.Common.{◌≡◌, ◌≢◌, ◌⊎◌, ℕ, zero, suc, ◌+◌, ◌-◌, ◌*◌, ◌/◌, ◌%◌, ◌<◌, ◌≤◌, ◌^◌, List, [], ◌∷◌, ◌++◌, length, map, take, set, get_or, refl, sym, ap, ◌∙◌, subst, ⊎_elim, arith, inl, inr, Bool, true, false, true≢false, not, ◌&&◌, ◌||◌, cond, nat_eq, nat_lt, All, eqb, eq-eqb, ne_eqb, eqb-true, Option, Some, None, length-set, get_or-set_other, get_or-set_same, lt-ltb, le-ltb, ltb-true, mod-eq_of_lt, lt_of_not-le, slice_index}
use Rattle.std.proofs.Math.Nat.{mul-div_cancel_left, add-mod_right}
use Rattle.std.proofs.lemmas.List.Elements.{All-push, All-head, All-tail}
use prog.Atomic.{either}
use Rattle.atomic_table.specs.Table.{State, Me, Step, stepped, Valid, carried_after}
use Rattle.atomic_table.proofs.Lists.{at_set, set_again, exchanged}
use Rattle.cell_words.proofs.Names.{none-some, or-true, or_left, or_right, or_cases, cases_lt, set-get_or, dite, none, some, some-ne-none, ℕ_discrete, get_elem?, step, keeps, Allows, Planning, has, needs_at, dependents_at, AreDistinct, cells, code_of, outcome_at, IsSized, Act, Portion, CLAIMED, FILLED, acts_of, act_among, act_in, numbers_of, Book, signed_in, signs, unsigned, state_of, written_of, IsFilled, IsAct, IsActIn, Cell, acts_for, with_act, fresh_act, with_fresh, claimed, write_more, fill_up, sign_one, active, IsState, IsWhole, Holds, Known, by_sight, by_holding, by_need, View, when, unless, or-false, and_parts}
use Rattle.cell_words.specs.Countdown.{Fits, Lawful, Keeps, M, looked, Looked, Claimed, Wrote, Filled, Signed, Read}
use Rattle.amp_plan.proofs.RowLemmas.{has-append, has-one, has-at}
use Rattle.cell_words.proofs.BookLemmas.{put, put_here, put_else, put_owner, signs_same, cell_else, count_le, says_filled, says_free, all_signed, has_more, has_not_yet, count_fewer, changed, act_change, act_fresh, none_acts, acts_for_changed, acts_for_fresh, fewer_acts}
use Rattle.atomic_table.specs.Table as table

-- the view of the seat id becomes w, under a book that differs from the old one at no act of another seat
moves : (words new : List ℕ) (views : List View) (h : Lawful words views) (id : ℕ) (v w : View) (b : Book) (owner : ℕ → ℕ) → get_elem? views id ≡ some v
    → w.plan ≡ v.plan → w.seats ≡ v.seats → numbers_of w.portions ≡ numbers_of v.portions
    → ((r : ℕ) → act_in w r ≡ cond (nat_eq (owner r) id) (b r) None)
    → ((j r : ℕ) → j ≢ id → cond (nat_eq (owner r) j) (b r) None ≡ cond (nat_eq (h.owner r) j) (h.book r) None)
    → ((r : ℕ) → r < cells h.plan → Cell h.plan new b r) → length new ≡ length words → ((r : ℕ) → cells h.plan ≤ r → b r ≡ None)
    → ((r : ℕ) → IsFilled (h.book r) → IsFilled (b r)) → All (λ r. IsFilled (b r)) w.seen
    → ((r : ℕ) → acts_for r (acts_of w.portions) ≤ 1) → ((r : ℕ) (a : Act) → b r ≡ Some a → owner r < length views)
    → Lawful new (set views id w)
moves words new views h id v w b owner at plan seats numbers mine others cell long inside keep seen once whose = record {
  plan = h.plan;
  seats = h.seats;
  book = b;
  owner = owner;
  home = h.home;
  planned = h.planned;
  long = subst (λ n. 5 * cells h.plan ≤ n) (sym long) h.long;
  inside = inside;
  cell = cell;
  owned = λ r a e. subst (λ n. owner r < n) (sym (length-set views id w)) (whose r a e);
  housed = λ k l. subst (λ n. h.home k < n) (sym (length-set views id w)) (h.housed k l);
  each = λ j u e. ⊎_elim
      (λ (x : (j ≡ id) × (w ≡ u)). subst (λ (y : ℕ × View). Fits h.plan h.seats b owner h.home y.0 y.1) (λ i. (sym x.0 i, x.1 i)) fits)
      (λ (x : (j ≢ id) × (get_elem? views j ≡ some u)). let f = h.each j u x.1 in record {
        plan = f.plan;
        acts = λ r. f.acts r ∙ sym (others j r x.0);
        numbers = f.numbers;
        numbers_once = f.numbers_once;
        once = f.once;
        seen = λ k d l. keep _ (f.seen k d l);
      })
      (at_set views id j w u e);
}
  where
    was : Fits h.plan h.seats h.book h.owner h.home id v
    was = h.each id v at

    fits : Fits h.plan h.seats b owner h.home id w
    fits = record {
      plan = λ live. (plan ∙ (was.plan (subst (λ k. 0 < k) seats live)).0, seats ∙ (was.plan (subst (λ k. 0 < k) seats live)).1);
      acts = mine;
      numbers = λ k. ap (has k) numbers ∙ was.numbers k;
      numbers_once = subst AreDistinct (sym numbers) was.numbers_once;
      once = once;
      seen = seen;
    }

pub unsigned_low : (words : List ℕ) (views : List View) (h : Lawful words views) (r : ℕ) → unsigned h.plan h.book r < CLAIMED
unsigned_low words views h r = let few = h.planned.few_needs r in let all = h.planned.few in let le = count_le (λ q. not (signs h.plan h.book q r)) (needs_at h.plan r) in omega arith

-- the latest look, under the same book
looked_keeps : (words : List ℕ) (views : List View) (h : Lawful words views) (id : ℕ) (v : View) (r n : ℕ) → get_elem? views id ≡ some v → r < cells h.plan → n ≡ slice_index words (5 * r) → Lawful words (set views id (looked r n v))
looked_keeps words views h id v r n at low is =
    let c = h.cell r low in
    moves words words views h id v (looked r n v) h.book h.owner at refl refl refl (h.each id v at).acts (λ j k _. refl) h.cell refl h.inside (λ _ x. x)
    (seen_now (nat_eq n FILLED) (λ t. says_filled (unsigned h.plan h.book r) (h.book r) (unsigned_low words views h r) (sym c.state ∙ sym is ∙ eqb-true n FILLED t)))
    (h.each id v at).once h.owned
  where
    seen_now : (b : Bool) → (b ≡ true → IsFilled (h.book r)) → All (λ k. IsFilled (h.book k)) (cond b (v.seen ++ r ∷ []) v.seen)
    seen_now true fact = All-push (λ k. IsFilled (h.book k)) v.seen r (h.each id v at).seen (fact refl)
    seen_now false fact = (h.each id v at).seen

pub div_five : (r : ℕ) → 5 * r / 5 ≡ r
div_five r = mul-div_cancel_left r {n = 5} (omega arith)

-- the plan of a seat that is no spent one
pub plan_is : (words : List ℕ) (views : List View) (h : Lawful words views) (id : ℕ) (v : View) → get_elem? views id ≡ some v → 0 < v.seats → v.plan ≡ h.plan
plan_is words views h id v at live = ((h.each id v at).plan live).0

put_mine : (b : Book) (owner : ℕ → ℕ) (r : ℕ) (a : Act) (id k : ℕ) → cond (nat_eq k r) (Some a) (cond (nat_eq (owner k) id) (b k) None) ≡ cond (nat_eq (put_owner owner r id k) id) (put b r a k) None
put_mine b owner r a id k =
    elim (nat_eq k r) as (λ c. cond c (Some a) (cond (nat_eq (owner k) id) (b k) None) ≡ cond (nat_eq (cond c id (owner k)) id) (cond c (Some a) (b k)) None) [ true ↦ sym (when (nat_eq id id) (Some a) None (eq-eqb id id refl)) | false ↦ refl ]

put_foreign : (b : Book) (owner : ℕ → ℕ) (r : ℕ) (a : Act) (id j k : ℕ) → j ≢ id → cond (nat_eq (owner r) j) (b r) None ≡ None → cond (nat_eq (put_owner owner r id k) j) (put b r a k) None ≡ cond (nat_eq (owner k) j) (b k) None
put_foreign b owner r a id j k apart gone =
    (elim (nat_eq k r) as (λ c. nat_eq k r ≡ c → cond (nat_eq (cond c id (owner k)) j) (cond c (Some a) (b k)) None ≡ cond (nat_eq (owner k) j) (b k) None)
    [ true ↦ λ is. unless (nat_eq id j) (Some a) None (ne_eqb id j (λ e. apart (sym e))) ∙ sym gone ∙ ap (λ i. cond (nat_eq (owner i) j) (b i) None) (sym (eqb-true k r is)) | false ↦ λ _. refl ]) refl

pub none_both : (c : Bool) (o : Option Act) → o ≡ None → cond c o None ≡ None
none_both true o e = e
none_both false o e = refl

still_filled : (b : Book) (r : ℕ) (a : Act) → (IsFilled (b r) → a.filled ≡ true) → (k : ℕ) → IsFilled (b k) → IsFilled (put b r a k)
still_filled b r a more k f = dite (ℕ_discrete k r)
    (λ (e : k ≡ r). subst IsFilled (sym (ap (put b r a) e ∙ put_here b r a)) (more (subst (λ i. IsFilled (b i)) e f)))
    (λ n. subst IsFilled (sym (put_else b r a k n)) f)

-- the cells under a book that changes at r, where the words of other cells stay
cells_put : (p : Planning) (words new : List ℕ) (b : Book) (r : ℕ) (a : Act) → ((q t : ℕ) → signs p (put b r a) q t ≡ signs p b q t) → ((k : ℕ) → k < cells p → Cell p words b k)
    → ((k j : ℕ) → k ≢ r → j < 5 → slice_index new (5 * k + j) ≡ slice_index words (5 * k + j)) → Cell p new (put b r a) r → (k : ℕ) → k < cells p → Cell p new (put b r a) k
cells_put p words new b r a same cell kept here k low = dite (ℕ_discrete k r)
    (λ (e : k ≡ r). subst (Cell p new (put b r a)) (sym e) here)
    (λ n. cell_else p words new b (put b r a) k (λ q. same q k) (put_else b r a k n) (λ j l. kept k j n l) (cell k low))

-- the cell whose act is a
cell_put : (p : Planning) (new : List ℕ) (b : Book) (r : ℕ) (a : Act) → slice_index new (5 * r) ≡ cond a.filled FILLED CLAIMED → ((k : ℕ) → k < 4 → slice_index new (5 * r + suc k) ≡ cond (nat_lt k a.written) (code_of p r k) 0) → IsAct p (put b r a) r a → Cell p new (put b r a) r
cell_put p new b r a state values act = record {
  state = state ∙ ap (state_of (unsigned p (put b r a) r)) (sym (put_here b r a));
  values = λ k low. values k low ∙ ap (λ o. cond (nat_lt k (written_of o)) (code_of p r k) 0) (sym (put_here b r a));
  act = subst (IsActIn p (put b r a) r) (sym (put_here b r a)) act;
}

-- whose it is, where it is given to its owner alone
pub cond_owner : (n id : ℕ) (o : Option Act) (a : Act) → cond (nat_eq n id) o None ≡ Some a → (n ≡ id) × (o ≡ Some a)
cond_owner n id o a e =
    (elim (nat_eq n id) as (λ c. nat_eq n id ≡ c → cond c o None ≡ Some a → (n ≡ id) × (o ≡ Some a)) [ true ↦ λ is e. (eqb-true n id is, e) | false ↦ λ _ e. absurd (none-some a e) ]) refl e

numbers_fresh : (r : ℕ) (ps : List Portion) → numbers_of (with_fresh r ps) ≡ numbers_of ps
numbers_fresh r [] = refl
numbers_fresh r (p ∷ ps) = refl

pub short : {A : Type 0} (l : List A) (i : ℕ) (x : A) → get_elem? l i ≡ some x → i < length l
short [] i x e = absurd (some-ne-none x (sym e))
short (y ∷ l) zero x e = omega arith
short (y ∷ l) (suc i) x e = let r = short l i x e in omega arith

claim_keeps : (words : List ℕ) (views : List View) (h : Lawful words views) (id : ℕ) (v : View) (r : ℕ) → get_elem? views id ≡ some v → r < cells h.plan → 0 < length v.portions → slice_index words (5 * r) ≡ 0
    → Lawful (set words (5 * r) CLAIMED) (set views id (claimed r v))
claim_keeps words views h id v r at low some_portion zero_now =
    let c = h.cell r low in
    let said = says_free (unsigned h.plan h.book r) (h.book r) (sym c.state ∙ zero_now) in
    let free : h.book r ≡ None = said.0 in
    let a : Act = fresh_act r in
    let b : Book = put h.book r a in
    let new : List ℕ = set words (5 * r) CLAIMED in
    let same : (q t : ℕ) → signs h.plan b q t ≡ signs h.plan h.book q t = signs_same h.plan h.book r a (λ t. ap (λ o. signed_in h.plan o r t) (sym free)) in
    let mine : act_in v r ≡ None = (h.each id v at).acts r ∙ none_both (nat_eq (h.owner r) id) (h.book r) free in
    let more : (k : ℕ) → IsFilled (h.book k) → IsFilled (b k) = still_filled h.book r a (λ f. absurd (subst IsFilled free f)) in
    moves words new views h id v (claimed r v) b (put_owner h.owner r id) at refl refl (numbers_fresh r v.portions)
    (λ k. act_fresh r k v.portions some_portion mine ∙ ap (cond (nat_eq k r) (Some a)) ((h.each id v at).acts k) ∙ put_mine h.book h.owner r a id k)
    (λ j k apart. put_foreign h.book h.owner r a id j k apart (none_both (nat_eq (h.owner r) j) (h.book r) free))
    (cells_put h.plan words new h.book r a same h.cell (λ k j apart l. get_or-set_other words (5 * r) (5 * k + j) CLAIMED 0 (λ e. omega (arith, e)))
    (cell_put h.plan new h.book r a (get_or-set_same words (5 * r) CLAIMED 0 (omega (arith, h.long)))
    (λ k l. get_or-set_other words (5 * r) (5 * r + suc k) CLAIMED 0 (λ e. omega (arith, e)) ∙ c.values k l ∙ ap (λ o. cond (nat_lt k (written_of o)) (code_of h.plan r k) 0) free)
    record {
      rank = refl;
      needs = λ q n. same q r ∙ all_signed (λ x. signs h.plan h.book x r) (needs_at h.plan r) said.1 q n;
      written = omega arith;
      sized = λ l. absurd (omega (arith, l));
      unsigned_yet = λ _. refl;
      signed = omega arith;
      whole = λ f. absurd (true≢false (sym f));
    }))
    (length-set words (5 * r) CLAIMED)
    (λ k above. put_else h.book r a k (λ e. omega (arith, e)) ∙ h.inside k above)
    more
    (λ k d l. more _ ((h.each id v at).seen k d l))
    (λ k. acts_for_fresh r k v.portions mine ((h.each id v at).once k))
    (λ k y e. dite (ℕ_discrete k r)
    (λ (s : k ≡ r). subst (λ o. o < length views) (sym (when (nat_eq k r) id (h.owner k) (eq-eqb k r s))) (short views id v at))
    (λ n. subst (λ o. o < length views) (sym (unless (nat_eq k r) id (h.owner k) (ne_eqb k r n))) (h.owned k y (sym (put_else h.book r a k n) ∙ e))))

claim_free : (words : List ℕ) (views : List View) (h : Lawful words views) (id : ℕ) (v : View) (r : ℕ) → get_elem? views id ≡ some v → r < cells h.plan → slice_index words (5 * r) ≡ 0 → act_in v r ≡ None
claim_free words views h id v r at low zero_now = let c = h.cell r low in (h.each id v at).acts r ∙ none_both (nat_eq (h.owner r) id) (h.book r) (says_free (unsigned h.plan h.book r) (h.book r) (sym c.state ∙ zero_now)).0

state_in : (n : ℕ) (o : Option Act) → n < CLAIMED → IsState (state_of n o)
state_in n None l = inl l
state_in n (Some a) l = elim a.filled as (λ f. IsState (cond f FILLED CLAIMED)) [ true ↦ inr (inr refl) | false ↦ inr (inl refl) ]

-- a view that has no act of a rank has fewer acts than there are cells
few_acts : (words : List ℕ) (views : List View) (h : Lawful words views) (id : ℕ) (v : View) (r : ℕ) → get_elem? views id ≡ some v → r < cells h.plan → act_in v r ≡ None → length (acts_of v.portions) < cells h.plan
few_acts words views h id v r at low free =
    let f = h.each id v at in
    fewer_acts (cells h.plan) r (acts_of v.portions) low (none_acts r (acts_of v.portions) free) f.once
    (λ k above. none_acts k (acts_of v.portions) (f.acts k ∙ none_both (nat_eq (h.owner k) id) (h.book k) (h.inside k above)))

exists : {A : Type 0} (l : List A) (i : ℕ) → i < length l → (x : A) × (get_elem? l i ≡ some x)
exists [] i h = absurd (omega arith)
exists (y ∷ l) zero h = (y, refl)
exists (y ∷ l) (suc i) h = exists l i (omega arith)

-- an act stands in a portion, which has a number
a_number : (r : ℕ) (ps : List Portion) (a : Act) → act_among r (acts_of ps) ≡ Some a → (k : ℕ) × (has k (numbers_of ps) ≡ true)
unfolding has
a_number r [] a e = absurd (cc)
a_number r (q ∷ ps) a e = (q.number, ap (λ c. c || has q.number (numbers_of ps)) (eq-eqb q.number q.number refl))

-- a view with all portions has all acts
pub whole_book : (words : List ℕ) (views : List View) (h : Lawful words views) (id : ℕ) (v : View) → get_elem? views id ≡ some v → 0 < v.seats → IsWhole v → (r : ℕ) → act_in v r ≡ h.book r
whole_book words views h id v at live whole r = by (h.book r) refl
  where
    mine : (a : Act) → h.book r ≡ Some a → h.owner r ≡ id
    mine a is =
        let u = exists views (h.owner r) (h.owned r a is) in
        let f = h.each (h.owner r) u.0 u.1 in
        let there : act_in u.0 r ≡ Some a = f.acts r ∙ when (nat_eq (h.owner r) (h.owner r)) (h.book r) None (eq-eqb (h.owner r) (h.owner r) refl) ∙ is in
        let k = a_number r u.0.portions a there in
        let where_k = and_parts (nat_lt k.0 h.seats) (nat_eq (h.home k.0) (h.owner r)) (sym (f.numbers k.0) ∙ k.1) in
        let seats : v.seats ≡ h.seats = ((h.each id v at).plan live).1 in
        let here = and_parts (nat_lt k.0 h.seats) (nat_eq (h.home k.0) id) (sym ((h.each id v at).numbers k.0) ∙ whole k.0 (subst (λ n. k.0 < n) (sym seats) (ltb-true k.0 h.seats where_k.0))) in
        sym (eqb-true (h.home k.0) (h.owner r) where_k.1) ∙ eqb-true (h.home k.0) id here.1

    by : (o : Option Act) → h.book r ≡ o → act_in v r ≡ h.book r
    by None is = (h.each id v at).acts r ∙ none_both (nat_eq (h.owner r) id) (h.book r) is ∙ sym is
    by (Some a) is = (h.each id v at).acts r ∙ when (nat_eq (h.owner r) id) (h.book r) None (eq-eqb (h.owner r) id (mine a is))

-- so it knows what each state word is
pub whole_state : (words : List ℕ) (views : List View) (h : Lawful words views) (id : ℕ) (v : View) (r : ℕ) → get_elem? views id ≡ some v → 0 < v.seats → IsWhole v → r < cells h.plan → slice_index words (5 * r) ≡ state_of (unsigned v.plan (act_in v) r) (act_in v r)
whole_state words views h id v r at live whole low =
    let same : h.book ≡ act_in v = (λ i k. sym (whole_book words views h id v at live whole k) i) in
    (h.cell r low).state ∙ ap (λ (b : Book). state_of (unsigned h.plan b r) (b r)) same ∙ ap (λ (z : Planning). state_of (unsigned z (act_in v) r) (act_in v r)) (sym (plan_is words views h id v at live))

-- whose act it is
owned : (words : List ℕ) (views : List View) (h : Lawful words views) (id : ℕ) (v : View) (r : ℕ) (a : Act) → get_elem? views id ≡ some v → act_in v r ≡ Some a → (h.owner r ≡ id) × (h.book r ≡ Some a)
owned words views h id v r a at mine = cond_owner (h.owner r) id (h.book r) a (sym ((h.each id v at).acts r) ∙ mine)

-- the act of r becomes f of what it was
act_moves : (words new : List ℕ) (views : List View) (h : Lawful words views) (id : ℕ) (v w : View) (r : ℕ) (a : Act) (f : Act → Act) → get_elem? views id ≡ some v
    → w.plan ≡ v.plan → w.seats ≡ v.seats → numbers_of w.portions ≡ numbers_of v.portions → act_in v r ≡ Some a
    → ((k : ℕ) → act_in w k ≡ cond (nat_eq k r) (changed f (act_in v k)) (act_in v k))
    → ((k : ℕ) → k < cells h.plan → Cell h.plan new (put h.book r (f a)) k) → length new ≡ length words → (a.filled ≡ true → (f a).filled ≡ true) → All (λ k. IsFilled (put h.book r (f a) k)) w.seen → ((k : ℕ) → acts_for k (acts_of w.portions) ≡ acts_for k (acts_of v.portions))
    → Lawful new (set views id w)
act_moves words new views h id v w r a f at plan seats numbers mine acts cell long more seen many =
    let own = owned words views h id v r a at mine in
    let was : (k : ℕ) → act_in v k ≡ cond (nat_eq (h.owner k) id) (h.book k) None = (h.each id v at).acts in
    let b : Book = put h.book r (f a) in
    moves words new views h id v w b h.owner at plan seats numbers
    (λ k. acts k ∙ dite (ℕ_discrete k r)
    (λ (e : k ≡ r). when (nat_eq k r) (changed f (act_in v k)) (act_in v k) (eq-eqb k r e) ∙ ap (λ i. changed f (act_in v i)) e ∙ ap (changed f) mine
    ∙ sym (ap (λ i. cond (nat_eq (h.owner i) id) (b i) None) e ∙ when (nat_eq (h.owner r) id) (b r) None (eq-eqb (h.owner r) id own.0) ∙ put_here h.book r (f a)))
    (λ n. unless (nat_eq k r) (changed f (act_in v k)) (act_in v k) (ne_eqb k r n) ∙ was k ∙ ap (λ o. cond (nat_eq (h.owner k) id) o None) (sym (put_else h.book r (f a) k n))))
    (λ j k apart. dite (ℕ_discrete k r)
    (λ (e : k ≡ r). let away : nat_eq (h.owner k) j ≡ false = ne_eqb (h.owner k) j (λ c. apart (sym c ∙ ap h.owner e ∙ own.0)) in unless (nat_eq (h.owner k) j) (b k) None away ∙ sym (unless (nat_eq (h.owner k) j) (h.book k) None away))
    (λ n. ap (λ o. cond (nat_eq (h.owner k) j) o None) (put_else h.book r (f a) k n)))
    cell long
    (λ k above. dite (ℕ_discrete k r)
    (λ (e : k ≡ r). absurd (none-some a (sym (h.inside k above) ∙ ap h.book e ∙ own.1)))
    (λ n. put_else h.book r (f a) k n ∙ h.inside k above))
    (still_filled h.book r (f a) (λ x. more (subst IsFilled own.1 x)))
    seen
    (λ k. subst (λ n. n ≤ 1) (sym (many k)) ((h.each id v at).once k))
    (λ k y e. dite (ℕ_discrete k r) (λ (z : k ≡ r). subst (λ i. h.owner i < length views) (sym z) (h.owned r a own.1)) (λ n. h.owned k y (sym (put_else h.book r (f a) k n) ∙ e)))

pub act_of : (words : List ℕ) (views : List View) (h : Lawful words views) (r : ℕ) (a : Act) → h.book r ≡ Some a → (r < cells h.plan) × IsAct h.plan h.book r a
act_of words views h r a is = let low : r < cells h.plan = lt_of_not-le (λ above. none-some a (sym (h.inside r above) ∙ is)) in (low, subst (IsActIn h.plan h.book r) is (h.cell r low).act)

pub lt_more : (k w : ℕ) → k ≢ w → nat_lt k w ≡ nat_lt k (suc w)
lt_more k w n = ⊎_elim
    (λ (l : k < w). lt-ltb k w l ∙ sym (lt-ltb k (suc w) (omega arith)))
    (λ (l : w ≤ k). le-ltb k w l ∙ sym (le-ltb k (suc w) (omega arith)))
    (cases_lt k w)

numbers_same : (f : Portion → Portion) (ps : List Portion) → ((q : Portion) → (f q).number ≡ q.number) → numbers_of (map f ps) ≡ numbers_of ps
numbers_same f [] e = refl
numbers_same f (q ∷ ps) e = λ i. e q i ∷ numbers_same f ps e i

-- a value word
pub writes : (slots id : ℕ) (me : M) (r x : ℕ) (a : Act) → 0 < me.0.seats → active me.0 ≡ r → act_in me.0 r ≡ Some a → a.filled ≡ false → a.written < 4 → IsSized (outcome_at me.0.plan r) → x ≡ code_of me.0.plan r a.written
    → Allows Keeps slots id me (5 * r + suc a.written) (λ _. x) (λ _. Wrote (step slots (5 * r + suc a.written) x 0 none) me x)
writes slots id me r x a live now mine unfilled more fits is s h _ at small =
    let v = me.0 in let i : ℕ = 5 * r + suc a.written in
    let own = owned s.words s.views h id v r a at mine in
    let act = act_of s.words s.views h r a own.1 in
    let low : r < cells h.plan = act.0 in
    let c = h.cell r low in
    let p : v.plan ≡ h.plan = plan_is s.words s.views h id v at live in
    let b : Book = put h.book r (write_more a) in
    let same : (q t : ℕ) → signs h.plan b q t ≡ signs h.plan h.book q t = signs_same h.plan h.book r (write_more a) (λ t. ap (λ o. signed_in h.plan o r t) (sym own.1)) in
    let w : View = with_act r write_more v in (
      with_act (active v) write_more v,
      keeps,
      tt,
      subst (λ k. Lawful (set s.words i x) (set s.views id (with_act k write_more v))) (sym now)
          (act_moves s.words (set s.words i x) s.views h id v w r a write_more at refl refl (numbers_same _ v.portions (λ _. refl)) mine (act_change r write_more (λ _. refl) v)
          (cells_put h.plan s.words (set s.words i x) h.book r (write_more a) same h.cell (λ k j apart l. get_or-set_other s.words i (5 * k + j) x 0 (λ e. apart (omega (arith, e))))
          (cell_put h.plan (set s.words i x) h.book r (write_more a)
          (get_or-set_other s.words i (5 * r) x 0 (λ e. omega (arith, e)) ∙ c.state ∙ ap (state_of (unsigned h.plan h.book r)) own.1)
          (λ k l. dite (ℕ_discrete k a.written)
          (λ (e : k ≡ a.written). ap (λ j. get_or (set s.words i x) (5 * r + suc j) 0) e ∙ get_or-set_same s.words i x 0 (omega (arith, h.long)) ∙ is ∙ ap (λ (z : Planning). code_of z r a.written) p
          ∙ sym (when (nat_lt k (suc a.written)) (code_of h.plan r k) 0 (lt-ltb k (suc a.written) (omega (arith, e))) ∙ ap (code_of h.plan r) e))
          (λ n. get_or-set_other s.words i (5 * r + suc k) x 0 (λ e. n (omega (arith, e))) ∙ c.values k l ∙ ap (λ o. cond (nat_lt k (written_of o)) (code_of h.plan r k) 0) own.1 ∙ ap (λ z. cond z (code_of h.plan r k) 0) (lt_more k a.written n)))
          record {
            rank = act.1.rank;
            needs = λ q n. same q r ∙ act.1.needs q n;
            written = more;
            sized = λ _. subst (λ (z : Planning). IsSized (outcome_at z r)) p fits;
            unsigned_yet = act.1.unsigned_yet;
            signed = act.1.signed;
            whole = λ f. absurd (true≢false (sym f ∙ unfilled));
          }))
          (length-set s.words i x) (λ f. f)
          (λ k d l. still_filled h.book r (write_more a) (λ f. subst IsFilled own.1 f) _ ((h.each id v at).seen k d l))
          (λ k. acts_for_changed r write_more (λ _. refl) k v.portions)),
      refl,
    )

-- FILLED
pub fills : (slots id : ℕ) (me : M) (r : ℕ) (a : Act) → 0 < me.0.seats → active me.0 ≡ r → act_in me.0 r ≡ Some a → a.filled ≡ false → a.written ≡ 4
    → Allows Keeps slots id me (5 * r) (λ _. FILLED) (λ _. Filled (step slots (5 * r) FILLED 0 none) me FILLED)
unfolding has
fills slots id me r a live now mine unfilled all_written s h _ at small =
    let v = me.0 in let i : ℕ = 5 * r in
    let own = owned s.words s.views h id v r a at mine in
    let act = act_of s.words s.views h r a own.1 in
    let low : r < cells h.plan = act.0 in
    let c = h.cell r low in
    let b : Book = put h.book r (fill_up a) in
    let same : (q t : ℕ) → signs h.plan b q t ≡ signs h.plan h.book q t = signs_same h.plan h.book r (fill_up a) (λ t.
    ap (λ n. has t (take n (dependents_at h.plan r))) (act.1.unsigned_yet unfilled) ∙ sym (ap (λ o. signed_in h.plan o r t) own.1 ∙ ap (λ z. z && has t (take a.signed (dependents_at h.plan r))) unfilled)) in
    let seen : View = record { plan = v.plan; seats = v.seats; portions = v.portions; seen = v.seen ++ r ∷ []; looks = v.looks; latest = v.latest } in
    let w : View = with_act r fill_up seen in
    let Now : ℕ → View = λ k. with_act k fill_up (record { plan = v.plan; seats = v.seats; portions = v.portions; seen = v.seen ++ k ∷ []; looks = v.looks; latest = v.latest }) in (
      Now (active v),
      keeps,
      tt,
      subst (λ k. Lawful (set s.words i FILLED) (set s.views id (Now k))) (sym now)
          (act_moves s.words (set s.words i FILLED) s.views h id v w r a fill_up at refl refl (numbers_same _ v.portions (λ _. refl)) mine (act_change r fill_up (λ _. refl) v)
          (cells_put h.plan s.words (set s.words i FILLED) h.book r (fill_up a) same h.cell (λ k j apart l. get_or-set_other s.words i (5 * k + j) FILLED 0 (λ e. apart (omega (arith, e))))
          (cell_put h.plan (set s.words i FILLED) h.book r (fill_up a)
          (get_or-set_same s.words i FILLED 0 (omega (arith, h.long)))
          (λ k l. get_or-set_other s.words i (5 * r + suc k) FILLED 0 (λ e. omega (arith, e)) ∙ c.values k l ∙ ap (λ o. cond (nat_lt k (written_of o)) (code_of h.plan r k) 0) own.1)
          record {
            rank = act.1.rank;
            needs = λ q n. same q r ∙ act.1.needs q n;
            written = act.1.written;
            sized = act.1.sized;
            unsigned_yet = λ f. absurd (true≢false f);
            signed = act.1.signed;
            whole = λ _. all_written;
          }))
          (length-set s.words i FILLED) (λ _. refl)
          (All-push (λ k. IsFilled (b k)) v.seen r (λ k d l. still_filled h.book r (fill_up a) (λ f. refl) _ ((h.each id v at).seen k d l)) (subst IsFilled (sym (put_here h.book r (fill_up a))) refl))
          (λ k. acts_for_changed r fill_up (λ _. refl) k v.portions)),
      refl,
    )

wrapped : (n : ℕ) → 0 < n → n < 18446744073709551616 → (n + (2 ^ 64 - 1)) % 2 ^ 64 ≡ n - 1
wrapped n low high = ap (λ k. k % 2 ^ 64) split ∙ add-mod_right (n - 1) (2 ^ 64) ∙ mod-eq_of_lt (omega arith)
  where
    split : n + (2 ^ 64 - 1) ≡ n - 1 + 2 ^ 64
    split = omega arith

-- one signature
pub signs_one : (slots id : ℕ) (me : M) (r t : ℕ) (a : Act) → 0 < me.0.seats → active me.0 ≡ r → act_in me.0 r ≡ Some a → a.filled ≡ true → a.signed < length (dependents_at me.0.plan r) → t ≡ slice_index (dependents_at me.0.plan r) a.signed
    → Allows Keeps slots id me (5 * t) (λ n. (n + (2 ^ 64 - 1)) % 2 ^ 64) (Signed (step slots (5 * t) 1 0 none) me)
signs_one slots id me r t a live now mine full more next s h _ at small =
    let v = me.0 in let i : ℕ = 5 * t in let n : ℕ = slice_index s.words i in
    let own = owned s.words s.views h id v r a at mine in
    let act = act_of s.words s.views h r a own.1 in
    let low : r < cells h.plan = act.0 in
    let p : v.plan ≡ h.plan = plan_is s.words s.views h id v at live in
    let deps : List ℕ = dependents_at h.plan r in
    let more' : a.signed < length deps = subst (λ (z : Planning). a.signed < length (dependents_at z r)) p more in
    let next' : t ≡ get_or deps a.signed 0 = next ∙ ap (λ (z : Planning). slice_index (dependents_at z r) a.signed) p in
    let new_act : Act = sign_one t n a in
    let b : Book = put h.book r new_act in
    let depends : has t deps ≡ true = ap (λ k. has k deps) next' ∙ has-at deps a.signed more' in
    let below : t < cells h.plan = h.planned.dependents_low r t depends in
    let needed : has r (needs_at h.plan t) ≡ true = h.planned.converse r t low below ∙ depends in
    let order : r < t = h.planned.lower r t below needed in
    let not_yet : signs h.plan h.book r t ≡ false = ap (λ o. signed_in h.plan o r t) own.1 ∙ ap (λ z. z && has t (take a.signed deps)) full ∙ ap (λ k. has k (take a.signed deps)) next' ∙ has_not_yet deps a.signed more' (h.planned.dependents_once r) in
    let now_signed : signs h.plan b r t ≡ true = ap (λ o. signed_in h.plan o r t) (put_here h.book r new_act) ∙ ap (λ z. z && has t (take (suc a.signed) deps)) full ∙ has_more t deps a.signed more' ∙ ap (λ z. has t (take a.signed deps) || z) (eq-eqb t (get_or deps a.signed 0) next') ∙ or-true (has t (take a.signed deps)) in
    let else_same : (q u : ℕ) → (q ≢ r) ⊎ (u ≢ t) → signs h.plan b q u ≡ signs h.plan h.book q u = λ q u apart. dite (ℕ_discrete q r)
    (λ (e : q ≡ r). ⊎_elim (λ (ne : q ≢ r). absurd (ne e))
    (λ (ne : u ≢ t). let F : ℕ → Type 0 = λ k. signs h.plan b k u ≡ signs h.plan h.book k u in subst F (sym e)
    (ap (λ o. signed_in h.plan o r u) (put_here h.book r new_act) ∙ ap (λ z. a.filled && z) (has_more u deps a.signed more' ∙ ap (λ z. has u (take a.signed deps) || z) (ne_eqb u (get_or deps a.signed 0) (λ c. ne (c ∙ sym next'))) ∙ or-false (has u (take a.signed deps)))
    ∙ ap (λ o. signed_in h.plan o r u) (sym own.1)))
    apart)
    (λ n'. ap (λ o. signed_in h.plan o q u) (put_else h.book r new_act q n')) in
    let free : h.book t ≡ None = no_act (h.book t) (h.cell t below).act needed not_yet in
    let ct = h.cell t below in
    let counted : n ≡ unsigned h.plan h.book t = ct.state ∙ ap (state_of (unsigned h.plan h.book t)) free in
    let fewer : unsigned h.plan h.book t ≡ suc (unsigned h.plan b t) = count_fewer (λ q. not (signs h.plan h.book q t)) (λ q. not (signs h.plan b q t)) r (needs_at h.plan t) (h.planned.needs_once t) needed (ap not not_yet) (ap not now_signed) (λ q apart. ap not (sym (else_same q t (inl apart)))) in
    let few : n < CLAIMED = (let u = unsigned_low s.words s.views h t in omega arith) in
    let w : View = with_act r (sign_one t n) v in
    let new : List ℕ = set s.words i ((n + (2 ^ 64 - 1)) % 2 ^ 64) in
    let word : (n + (2 ^ 64 - 1)) % 2 ^ 64 ≡ unsigned h.plan b t = wrapped n (omega arith) small ∙ omega arith in (
      with_act (active v) (sign_one (5 * t / 5) n) v,
      keeps,
      tt,
      subst (λ k. Lawful new (set s.views id (with_act k (sign_one (5 * t / 5) n) v))) (sym now) (subst (λ k. Lawful new (set s.views id (with_act r (sign_one k n) v))) (sym (div_five t))
          (act_moves s.words new s.views h id v w r a (sign_one t n) at refl refl (numbers_same _ v.portions (λ _. refl)) mine (act_change r (sign_one t n) (λ _. refl) v)
          (λ k inside. dite (ℕ_discrete k t)
          (λ (e : k ≡ t). subst (Cell h.plan new b) (sym e) record {
            state = get_or-set_same s.words i _ 0 (omega (arith, h.long)) ∙ word ∙ ap (state_of (unsigned h.plan b t)) (sym (put_else h.book r new_act t (λ c. omega arith) ∙ free));
            values = λ j l. get_or-set_other s.words i (5 * t + suc j) _ 0 (λ c. omega (arith, c)) ∙ ct.values j l ∙ ap (λ o. cond (nat_lt j (written_of o)) (code_of h.plan t j) 0) (sym (put_else h.book r new_act t (λ c. omega arith)));
            act = subst (IsActIn h.plan b t) (sym (put_else h.book r new_act t (λ c. omega arith) ∙ free)) tt;
          })
          (λ not_t. let kept : (j : ℕ) → j < 5 → slice_index new (5 * k + j) ≡ slice_index s.words (5 * k + j) = (λ j l. get_or-set_other s.words i (5 * k + j) _ 0 (λ c. not_t (omega (arith, c)))) in dite (ℕ_discrete k r)
          (λ (e : k ≡ r). subst (Cell h.plan new b) (sym e)
          (let cr = h.cell r low in cell_put h.plan new h.book r new_act
          (get_or-set_other s.words i (5 * r) _ 0 (λ c. omega (arith, c)) ∙ cr.state ∙ ap (state_of (unsigned h.plan h.book r)) own.1)
          (λ j l. get_or-set_other s.words i (5 * r + suc j) _ 0 (λ c. omega (arith, c)) ∙ cr.values j l ∙ ap (λ o. cond (nat_lt j (written_of o)) (code_of h.plan r j) 0) own.1)
          record {
            rank = act.1.rank;
            needs = λ q x. else_same q r (inr (λ c. omega arith)) ∙ act.1.needs q x;
            written = act.1.written;
            sized = act.1.sized;
            unsigned_yet = λ f. absurd (true≢false (sym full ∙ f));
            signed = more';
            whole = act.1.whole;
          }))
          (λ not_r. cell_else h.plan s.words new h.book b k (λ q. else_same q k (inr not_t)) (put_else h.book r new_act k not_r) kept (h.cell k inside))))
          (length-set s.words i _) (λ f. f)
          (λ k d l. still_filled h.book r new_act (λ f. subst IsFilled own.1 f) _ ((h.each id v at).seen k d l))
          (λ k. acts_for_changed r (sign_one t n) (λ _. refl) k v.portions))),
      (refl, omega arith, few),
    )
  where
    no_act : (o : Option Act) → IsActIn h.plan h.book t o → has r (needs_at h.plan t) ≡ true → signs h.plan h.book r t ≡ false → o ≡ None
    no_act None x needed not_yet = refl
    no_act (Some y) x needed not_yet = absurd (true≢false (sym (x.needs r needed) ∙ not_yet))

all_at : (P : ℕ → Type 0) (xs : List ℕ) (r : ℕ) → has r xs ≡ true → All P xs → P r
unfolding has
all_at P [] r e h = absurd (true≢false (sym e))
all_at P (x ∷ xs) r e h = ⊎_elim
    (λ (s : nat_eq r x ≡ true). subst P (sym (eqb-true r x s)) (All-head P x xs h))
    (λ s. all_at P xs r s (All-tail P x xs h))
    (or_cases (nat_eq r x) (has r xs) e)

signed_filled : (p : Planning) (o : Option Act) (q r : ℕ) → signed_in p o q r ≡ true → IsFilled o
signed_filled p None q r e = absurd (true≢false (sym e))
signed_filled p (Some a) q r e = (and_parts a.filled (has r (take a.signed (dependents_at p q))) e).0

need_filled : (words : List ℕ) (views : List View) (h : Lawful words views) (r q : ℕ) (a : Act) → h.book r ≡ Some a → has q (needs_at h.plan r) ≡ true → IsFilled (h.book q)
need_filled words views h r q a is e = signed_filled h.plan (h.book q) q r ((act_of words views h r a is).1.needs q e)

pub some_act : (o : Option Act) → IsFilled o → (a : Act) × (o ≡ Some a) × (a.filled ≡ true)
some_act None f = absurd f
some_act (Some a) f = (a, refl, f)

-- what a seat knows is filled
pub known_filled : (words : List ℕ) (views : List View) (h : Lawful words views) (id : ℕ) (v : View) → get_elem? views id ≡ some v → 0 < v.seats → (r : ℕ) → Known v r → IsFilled (h.book r)
known_filled words views h id v at live _ (by_sight r e) = all_at (λ k. IsFilled (h.book k)) v.seen r e (h.each id v at).seen
known_filled words views h id v at live _ (by_holding r q holds e) = need_filled words views h r q holds.0 (owned words views h id v r holds.0 at holds.1).1 (subst (λ (p : Planning). has q (needs_at p r) ≡ true) (plan_is words views h id v at live) e)
known_filled words views h id v at live _ (by_need r q k e) =
    let a = some_act (h.book r) (known_filled words views h id v at live r k) in
    need_filled words views h r q a.0 a.1 (subst (λ (p : Planning). has q (needs_at p r) ≡ true) (plan_is words views h id v at live) e)

-- a fresh act, or a look; no act of the view is unfilled
pub claims : (slots id : ℕ) (me : M) (r : ℕ) → 0 < me.0.seats → 0 < length me.0.portions → r < cells me.0.plan → ((k : ℕ) → Holds me.0 k → ⊥) → Allows Keeps slots id me (5 * r) (λ n. either (eqb n 0) CLAIMED n) (Claimed (step slots (5 * r) 0 CLAIMED none) me)
claims slots id me r live some_portion low nothing_held s h _ at small =
    let v = me.0 in
    let n : ℕ = slice_index s.words (5 * r) in
    let p : v.plan ≡ h.plan = plan_is s.words s.views h id v at live in
    let there : r < cells h.plan = subst (λ (p : Planning). r < cells p) p low in
    let state : IsState n = subst IsState (sym (h.cell r there).state) (state_in (unsigned h.plan h.book r) (h.book r) (unsigned_low s.words s.views h r)) in
    let whole : IsWhole v → n ≡ state_of (unsigned v.plan (act_in v) (5 * r / 5)) (act_in v (5 * r / 5)) = (λ h'. whole_state s.words s.views h id v r at live h' there ∙ ap (λ k. state_of (unsigned v.plan (act_in v) k) (act_in v k)) (sym (div_five r))) in
    let filled : IsWhole v → (q : ℕ) → Known v q → IsFilled (act_in v q) = (λ h' q k. subst IsFilled (sym (whole_book s.words s.views h id v at live h' q)) (known_filled s.words s.views h id v at live q k)) in
    let Goes : ℕ → Type 0 = λ x. (w : View) × (a : table.Act (Unit {0})) × Valid s.homes me.1 a × Keeps (stepped s (5 * r) x id me.1 w a) × Claimed (step slots (5 * r) 0 CLAIMED none) me n (w, carried_after me.1 a) in
    exchanged n 0 CLAIMED Goes
    (λ (e : n ≡ 0). let free : act_in v r ≡ None = claim_free s.words s.views h id v r at there e in (
      claimed r v,
      keeps,
      tt,
      claim_keeps s.words s.views h id v r at there some_portion e,
      (
        ap (λ u. (u, me.1)) (ap (λ k. claimed k v) (sym (div_five r)) ∙ sym (when (nat_eq n 0) (claimed (5 * r / 5) v) (looked (5 * r / 5) n v) (eq-eqb n 0 e))),
        state,
        λ _. (ap (act_in v) (div_five r) ∙ free, subst (λ (p : Planning). length (acts_of v.portions) < cells p) (sym p) (few_acts s.words s.views h id v r at there free)),
        whole,
        filled,
      ),
    ))
    (λ (ne : n ≢ 0). (
      looked r n v,
      keeps,
      tt,
      subst (λ ws. Lawful ws (set s.views id (looked r n v))) (sym (set-get_or s.words (5 * r) 0)) (looked_keeps s.words s.views h id v r n at there refl),
      (ap (λ u. (u, me.1)) (ap (λ k. looked k n v) (sym (div_five r)) ∙ sym (unless (nat_eq n 0) (claimed (5 * r / 5) v) (looked (5 * r / 5) n v) (ne_eqb n 0 ne))), state, λ z. absurd (ne z), whole, filled),
    ))

pub looks : (slots id : ℕ) (me : M) (r : ℕ) → 0 < me.0.seats → r < cells me.0.plan → Allows Keeps slots id me (5 * r) (λ n. n) (Looked (step slots (5 * r) 0 0 none) me)
looks slots id me r live low s h _ at small =
    let v = me.0 in let n : ℕ = slice_index s.words (5 * r) in
    let there : r < cells h.plan = subst (λ (p : Planning). r < cells p) (plan_is s.words s.views h id v at live) low in (
      looked r n v,
      keeps,
      tt,
      subst (λ ws. Lawful ws (set s.views id (looked r n v))) (sym (set-get_or s.words (5 * r) 0)) (looked_keeps s.words s.views h id v r n at there refl),
      (
        ap (λ k. (looked k n v, me.1)) (sym (div_five r)),
        λ knows. let a = some_act (h.book r) (known_filled s.words s.views h id v at live r (subst (Known v) (div_five r) knows)) in
            (h.cell r there).state ∙ ap (state_of (unsigned h.plan h.book r)) a.1 ∙ when a.0.filled FILLED CLAIMED a.2,
      ),
    )

five : (r k i j : ℕ) → k < 4 → j < 4 → 5 * r + suc k ≡ 5 * i + suc j → (r ≡ i) × (k ≡ j)
five r k i j a b e = (omega arith, omega arith)

-- what a value word of a known rank is
pub known_value : (words : List ℕ) (views : List View) (h : Lawful words views) (id : ℕ) (v : View) (r k : ℕ) → get_elem? views id ≡ some v → 0 < v.seats → Known v r → k < 4 → slice_index words (5 * r + suc k) ≡ code_of v.plan r k
known_value words views h id v r k at live knows low =
    let a = some_act (h.book r) (known_filled words views h id v at live r knows) in
    let act = act_of words views h r a.0 a.1 in
    (h.cell r act.0).values k low ∙ ap (λ o. cond (nat_lt k (written_of o)) (code_of h.plan r k) 0) a.1 ∙ when (nat_lt k a.0.written) (code_of h.plan r k) 0 (lt-ltb k a.0.written (let w = act.1.whole a.2 in omega arith)) ∙ ap (λ (z : Planning). code_of z r k) (sym (plan_is words views h id v at live))

pub known_sized : (words : List ℕ) (views : List View) (h : Lawful words views) (id : ℕ) (v : View) (r : ℕ) → get_elem? views id ≡ some v → 0 < v.seats → Known v r → IsSized (outcome_at v.plan r)
known_sized words views h id v r at live knows =
    let a = some_act (h.book r) (known_filled words views h id v at live r knows) in
    let act = act_of words views h r a.0 a.1 in
    subst (λ (z : Planning). IsSized (outcome_at z r)) (sym (plan_is words views h id v at live)) (act.1.sized (let w = act.1.whole a.2 in omega arith))

-- a value word of a rank that the seat knows
pub reads : (slots id : ℕ) (me : M) (r k : ℕ) → 0 < me.0.seats → Known me.0 r → k < 4 → Allows Keeps slots id me (5 * r + suc k) (λ n. n) (Read (step slots (5 * r + suc k) 0 0 none) me)
reads slots id me r k live knows low s h _ at small =
    let v = me.0 in let i : ℕ = 5 * r + suc k in
    let value : slice_index s.words i ≡ code_of v.plan r k = known_value s.words s.views h id v r k at live knows low in
    let fits = known_sized s.words s.views h id v r at live knows in (
      v,
      keeps,
      tt,
      subst (λ l. Lawful (set s.words i (slice_index s.words i)) l) (sym (set_again s.views id v at)) (subst (λ ws. Lawful ws s.views) (sym (set-get_or s.words i 0)) h),
      (refl, λ r' k' e l. let g = five r k r' k' low l e in (value ∙ ap (λ (z : ℕ). code_of v.plan z k) g.0 ∙ ap (code_of v.plan r') g.1, subst (λ (z : ℕ). IsSized (outcome_at v.plan z)) g.0 fits)),
    )

pub has_append : (r : ℕ) (xs ys : List ℕ) → has r xs ≡ true → has r (xs ++ ys) ≡ true
has_append r xs ys e = has-append r xs ys ∙ or_left (has r xs) (has r ys) e

pub has_push : (r : ℕ) (xs : List ℕ) → has r (xs ++ r ∷ []) ≡ true
has_push r xs = has-append r xs (r ∷ []) ∙ or_right (has r xs) (has r (r ∷ [])) (has-one r r ∙ eq-eqb r r refl)

seen_more : (b : Bool) (xs : List ℕ) (r k : ℕ) → has k xs ≡ true → has k (cond b (xs ++ r ∷ []) xs) ≡ true
seen_more true xs r k e = has_append k xs (r ∷ []) e
seen_more false xs r k e = e

-- a look loses nothing that was known
pub known_looked : (v : View) (r n k : ℕ) → Known v k → Known (looked r n v) k
known_looked v r n _ (by_sight k e) = by_sight k (seen_more (nat_eq n FILLED) v.seen r k e)
known_looked v r n _ (by_holding q k holds e) = by_holding q k holds e
known_looked v r n _ (by_need q k knows e) = by_need q k (known_looked v r n q knows) e

-- and what it found filled is known
pub known_now : (v : View) (r n : ℕ) → n ≡ FILLED → Known (looked r n v) r
known_now v r n e = by_sight r (ap (λ b. has r (cond b (v.seen ++ r ∷ []) v.seen)) (eq-eqb n FILLED e) ∙ has_push r v.seen)
