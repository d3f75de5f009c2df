-- Views are cut in two, and put together.
use Rattle.std.proofs.Common.{is_some, ◌≡◌, ◌≢◌, ◌⊎◌, ℕ, zero, suc, ◌+◌, ◌<◌, ◌≤◌, List, [], ◌∷◌, ◌++◌, length, set, refl, sym, ap, ◌∙◌, subst, ⊎_elim, arith, inl, inr, Bool, true, false, true≢false, ◌&&◌, ◌||◌, cond, nat_eq, nat_lt, eq-eqb, ne_eqb, eqb-true, Option, Some, None, length-set, length-append, ltb-true, append_assoc}
use Rattle.std.proofs.lemmas.List.Elements.{All-append}
use Rattle.atomic_table.proofs.Lists.{at_set}
use Rattle.cell_words.proofs.Names.{none-some, cases_Bool, and_parts, or_right, or-true, or-false, and-false, false_from_ne_true, map-append, some, some-ne-none, some-injective, get_elem?, Splits, Joins, has, AreDistinct, Act, Portion, acts_of, act_among, act_in, acts_for, numbers_of, IsFilled, left_part, right_part, head_of, tail_of, View, when, unless}
use Rattle.cell_words.specs.Countdown.{Fits, Keeps, joined, spent}
use Rattle.std.proofs.lemmas.Bool.{and_right, and_from}
use Rattle.std.proofs.Math.Bool.{and-or_distrib_left}
use Rattle.amp_plan.proofs.RowLemmas.{has-append}
use Rattle.cell_words.proofs.BookLemmas.{has_none, has_some, first_some, among_append, acts_for_append, acts_for_none, none_acts}
use Rattle.cell_words.proofs.StepLemmas.{short, none_both, cond_owner}

at_end : {A : Type 0} (l : List A) (a b : A) (j : ℕ) → get_elem? (l ++ a ∷ []) j ≡ some b → (get_elem? l j ≡ some b) ⊎ ((j ≡ length l) × (a ≡ b))
at_end [] a b zero e = inr (refl, some-injective a b e)
at_end [] a b (suc j) e = absurd (some-ne-none b (sym e))
at_end (x ∷ xs) a b zero e = inl e
at_end (x ∷ xs) a b (suc j) e = ⊎_elim (λ t. inl t) (λ (t : (j ≡ length xs) × (a ≡ b)). inr (ap suc t.0, t.1)) (at_end xs a b j e)

pub acts_append : (ps qs : List Portion) → acts_of (ps ++ qs) ≡ acts_of ps ++ acts_of qs
acts_append [] qs = refl
acts_append (p ∷ ps) qs = ap (λ l. p.acts ++ l) (acts_append ps qs) ∙ sym (append_assoc p.acts (acts_of ps) (acts_of qs))

-- numbers that two lists have apart
distinct_append : (xs ys : List ℕ) → AreDistinct xs → AreDistinct ys → ((k : ℕ) → has k xs ≡ true → has k ys ≡ true → ⊥) → AreDistinct (xs ++ ys)
unfolding AreDistinct has
distinct_append [] ys d e apart = e
distinct_append (x ∷ xs) ys d e apart = (
  has-append x xs ys ∙ ap (λ c. c || has x ys) d.0 ∙ false_from_ne_true (has x ys) (apart x (ap (λ c. c || has x xs) (eq-eqb x x refl))),
  distinct_append xs ys d.1 e (λ k h l. apart k (ap (λ c. nat_eq k x || c) h ∙ or-true (nat_eq k x)) l),
)

nothing_twice : AreDistinct []
unfolding AreDistinct
nothing_twice = tt

tail_distinct : (ps : List Portion) → AreDistinct (numbers_of ps) → AreDistinct (numbers_of (tail_of ps))
unfolding AreDistinct
tail_distinct [] d = d
tail_distinct (p ∷ ps) d = d.1

head_distinct : (ps : List Portion) → AreDistinct (numbers_of (head_of ps))
unfolding AreDistinct has
head_distinct [] = tt
head_distinct (p ∷ ps) = (refl, tt)

head_apart : (ps : List Portion) → AreDistinct (numbers_of ps) → (k : ℕ) → has k (numbers_of (head_of ps)) ≡ true → has k (numbers_of (tail_of ps)) ≡ true → ⊥
unfolding AreDistinct has
head_apart [] d k h t = true≢false (sym h)
head_apart (p ∷ ps) d k h t = by (nat_eq k p.number) refl h
  where
    by : (c : Bool) → nat_eq k p.number ≡ c → c || false ≡ true → ⊥
    by true is h = true≢false (sym t ∙ ap (λ j. has j (numbers_of ps)) (eqb-true k p.number is) ∙ d.0)
    by false is h = true≢false (sym h)

-- one part has the act of a rank, where the whole has one at most
one_part : (k : ℕ) (xs ys : List Act) → acts_for k (xs ++ ys) ≤ 1 → (a : Act) → act_among k xs ≡ Some a → act_among k ys ≡ None
one_part k xs ys once a is = acts_for_none k ys (zero_times (acts_for k xs) refl)
  where
    zero_times : (n : ℕ) → acts_for k xs ≡ n → acts_for k ys ≡ 0
    zero_times zero e = absurd (none-some a (sym (acts_for_none k xs e) ∙ is))
    zero_times (suc n) e = let s = acts_for_append k xs ys in omega arith

-- the owner of what goes to the view n, and of the rest
given : (ℕ → ℕ) → (ℕ → Bool) → ℕ → ℕ → ℕ
given o goes n k = cond (goes k) n (o k)

there_now : {A : Type 0} (o : ℕ → ℕ) (goes : ℕ → Bool) (n k : ℕ) (x y : A) → goes k ≡ true → cond (nat_eq (given o goes n k) n) x y ≡ x
unfolding given
there_now o goes n k x y e = when (nat_eq (given o goes n k) n) x y (ap (λ m. nat_eq m n) (when (goes k) n (o k) e) ∙ eq-eqb n n refl)

kept_now : {A : Type 0} (o : ℕ → ℕ) (goes : ℕ → Bool) (n j k : ℕ) (x y : A) → goes k ≡ false → cond (nat_eq (given o goes n k) j) x y ≡ cond (nat_eq (o k) j) x y
unfolding given
kept_now o goes n j k x y e = ap (λ m. cond (nat_eq m j) x y) (unless (goes k) n (o k) e)

away_now : {A : Type 0} (o : ℕ → ℕ) (goes : ℕ → Bool) (n j k : ℕ) (x y : A) → goes k ≡ true → j ≢ n → cond (nat_eq (given o goes n k) j) x y ≡ y
unfolding given
away_now o goes n j k x y e apart = unless (nat_eq (given o goes n k) j) x y (ap (λ m. nat_eq m j) (when (goes k) n (o k) e) ∙ ne_eqb n j (λ c. apart (sym c)))

below_now : (o : ℕ → ℕ) (goes : ℕ → Bool) (n m k : ℕ) → o k < m → n < m → given o goes n k < m
unfolding given
below_now o goes n m k low high = elim (goes k) as (λ c. cond c n (o k) < m) [ true ↦ high | false ↦ low ]

as_cond : (c : Bool) → c ≡ cond c true false
as_cond true = refl
as_cond false = refl

-- joined views: who owns what the other had
abbrev taken_over : (ℕ → ℕ) → ℕ → ℕ → ℕ → ℕ
taken_over o other id = given o (λ k. nat_eq (o k) other) id

module _ {A : Type 0} (o : ℕ → ℕ) (other id k : ℕ) (x y : A) (apart : other ≢ id) where
  mine_now : cond (nat_eq (taken_over o other id k) id) x y ≡ cond (nat_eq (o k) id || nat_eq (o k) other) x y
  mine_now = ⊎_elim
      (λ (e : nat_eq (o k) other ≡ true). there_now o (λ i. nat_eq (o i) other) id k x y e ∙ sym (when (nat_eq (o k) id || nat_eq (o k) other) x y (or_right (nat_eq (o k) id) (nat_eq (o k) other) e)))
      (λ (e : nat_eq (o k) other ≡ false). kept_now o (λ i. nat_eq (o i) other) id id k x y e ∙ ap (λ c. cond c x y) (sym (ap (λ c. nat_eq (o k) id || c) e ∙ or-false (nat_eq (o k) id))))
      (cases_Bool (nat_eq (o k) other))

  others_now : (j : ℕ) → j ≢ other → j ≢ id → cond (nat_eq (taken_over o other id k) j) x y ≡ cond (nat_eq (o k) j) x y
  others_now j a b = ⊎_elim
      (λ (e : nat_eq (o k) other ≡ true). away_now o (λ i. nat_eq (o i) other) id j k x y e b ∙ sym (unless (nat_eq (o k) j) x y (ne_eqb (o k) j (λ c. a (sym c ∙ eqb-true (o k) other e)))))
      (kept_now o (λ i. nat_eq (o i) other) id j k x y)
      (cases_Bool (nat_eq (o k) other))

  spent_now : cond (nat_eq (taken_over o other id k) other) x y ≡ y
  spent_now = ⊎_elim
      (λ (e : nat_eq (o k) other ≡ true). away_now o (λ i. nat_eq (o i) other) id other k x y e apart)
      (λ (e : nat_eq (o k) other ≡ false). kept_now o (λ i. nat_eq (o i) other) id other k x y e ∙ unless (nat_eq (o k) other) x y e)
      (cases_Bool (nat_eq (o k) other))

pub joins : (id : ℕ) (v : View) (other : ℕ) (u : View) → 0 < u.seats → 0 < v.seats → Joins Keeps id v other u (joined v u) spent
unfolding has
joins id v other u live' live s h at apart there =
    let was : get_elem? s.views other ≡ some u = ⊎_elim (λ (x : (other ≡ id) × (joined v u ≡ u)). absurd (apart x.0)) (λ (x : (other ≢ id) × (get_elem? s.views other ≡ some u)). x.1) (at_set s.views id other (joined v u) u there) in
    let f = h.each id v at in let g = h.each other u was in
    let owner : ℕ → ℕ = taken_over h.owner other id in
    let home : ℕ → ℕ = taken_over h.home other id in
    let count : length (set (set s.views id (joined v u)) other spent) ≡ length s.views = length-set (set s.views id (joined v u)) other spent ∙ length-set s.views id (joined v u) in
    let here : id < length s.views = short s.views id v at in
    let both : Fits h.plan h.seats h.book owner home id (joined v u) = record {
      plan = f.plan;
      acts = λ k. ap (act_among k) (acts_append v.portions u.portions) ∙ among_append k (acts_of v.portions) (acts_of u.portions) ∙ ap (λ o. first_some o (act_in u k)) (f.acts k) ∙ ap (first_some (cond (nat_eq (h.owner k) id) (h.book k) None)) (g.acts k)
          ∙ two (nat_eq (h.owner k) id) (nat_eq (h.owner k) other) (h.book k) (λ a b. apart (sym (eqb-true (h.owner k) other b) ∙ eqb-true (h.owner k) id a)) ∙ sym (mine_now h.owner other id k (h.book k) None apart);
      numbers = λ k. ap (has k) (map-append (λ (p : Portion). p.number) v.portions u.portions) ∙ has-append k (numbers_of v.portions) (numbers_of u.portions) ∙ ap (λ c. c || has k (numbers_of u.portions)) (f.numbers k) ∙ ap (λ c. nat_lt k h.seats && nat_eq (h.home k) id || c) (g.numbers k)
          ∙ sym (and-or_distrib_left (nat_lt k h.seats) (nat_eq (h.home k) id) (nat_eq (h.home k) other)) ∙ ap (λ c. nat_lt k h.seats && c) (as_cond (nat_eq (h.home k) id || nat_eq (h.home k) other) ∙ sym (mine_now h.home other id k true false apart) ∙ sym (as_cond (nat_eq (home k) id)));
      numbers_once = subst AreDistinct (sym (map-append (λ (p : Portion). p.number) v.portions u.portions)) (distinct_append (numbers_of v.portions) (numbers_of u.portions) f.numbers_once g.numbers_once
          (λ k a b. apart (sym (home_of k other u g b) ∙ home_of k id v f a)));
      once = λ k. subst (λ (l : List Act). acts_for k l ≤ 1) (sym (acts_append v.portions u.portions)) (subst (λ n. n ≤ 1) (sym (acts_for_append k (acts_of v.portions) (acts_of u.portions)))
          (once_both (acts_for k (acts_of v.portions)) (acts_for k (acts_of u.portions)) (f.once k) (g.once k)
          (λ a b. apart (sym (owner_of k other u g b) ∙ owner_of k id v f a))));
      seen = All-append (λ r. IsFilled (h.book r)) v.seen u.seen f.seen g.seen;
    } in
    let gone : Fits h.plan h.seats h.book owner home other spent = record {
      plan = λ live. absurd (omega (arith, live));
      acts = λ k. sym (spent_now h.owner other id k (h.book k) None apart);
      numbers = λ k. sym (ap (λ c. nat_lt k h.seats && c) (as_cond (nat_eq (home k) other) ∙ spent_now h.home other id k true false apart) ∙ and-false (nat_lt k h.seats));
      numbers_once = tail_distinct [] nothing_twice;
      once = λ k. omega arith;
      seen = λ k d l. absurd (omega (arith, l));
    } in record {
      plan = h.plan;
      seats = h.seats;
      book = h.book;
      owner = owner;
      home = home;
      planned = h.planned;
      long = h.long;
      inside = h.inside;
      cell = h.cell;
      owned = λ k a e. subst (λ n. owner k < n) (sym count) (below_now h.owner (λ i. nat_eq (h.owner i) other) id (length s.views) k (h.owned k a e) here);
      housed = λ k l. subst (λ n. home k < n) (sym count) (below_now h.home (λ i. nat_eq (h.home i) other) id (length s.views) k (h.housed k l) here);
      each = λ j w e. ⊎_elim
          (λ (x : (j ≡ other) × (spent ≡ w)). subst (λ (y : ℕ × View). Fits h.plan h.seats h.book owner home y.0 y.1) (λ i. (sym x.0 i, x.1 i)) gone)
          (λ (x : (j ≢ other) × (get_elem? (set s.views id (joined v u)) j ≡ some w)). ⊎_elim
          (λ (y : (j ≡ id) × (joined v u ≡ w)). subst (λ (z : ℕ × View). Fits h.plan h.seats h.book owner home z.0 z.1) (λ i. (sym y.0 i, y.1 i)) both)
          (λ (y : (j ≢ id) × (get_elem? s.views j ≡ some w)). let o = h.each j w y.1 in record {
            plan = o.plan;
            acts = λ k. o.acts k ∙ sym (others_now h.owner other id k (h.book k) None apart j x.0 y.0);
            numbers = λ k. o.numbers k ∙ ap (λ c. nat_lt k h.seats && c) (as_cond (nat_eq (h.home k) j) ∙ sym (others_now h.home other id k true false apart j x.0 y.0) ∙ sym (as_cond (nat_eq (home k) j)));
            numbers_once = o.numbers_once;
            once = o.once;
            seen = o.seen;
          })
          (at_set s.views id j (joined v u) w x.1))
          (at_set (set s.views id (joined v u)) other j spent w e);
    }
  where
    two : (a b : Bool) (o : Option Act) → (a ≡ true → b ≡ true → ⊥) → first_some (cond a o None) (cond b o None) ≡ cond (a || b) o None
    two true true o clash = absurd (clash refl refl)
    two true false None clash = refl
    two true false (Some a) clash = refl
    two false true o clash = refl
    two false false o clash = refl

    owner_of : (k j : ℕ) (w : View) → Fits h.plan h.seats h.book h.owner h.home j w → 0 < acts_for k (acts_of w.portions) → h.owner k ≡ j
    owner_of k j w fit some_act = ⊎_elim
        (λ (is : nat_eq (h.owner k) j ≡ true). eqb-true (h.owner k) j is)
        (λ (is : nat_eq (h.owner k) j ≡ false). absurd (let z = none_acts k (acts_of w.portions) (fit.acts k ∙ unless (nat_eq (h.owner k) j) (h.book k) None is) in omega arith))
        (cases_Bool (nat_eq (h.owner k) j))

    home_of : (k j : ℕ) (w : View) → Fits h.plan h.seats h.book h.owner h.home j w → has k (numbers_of w.portions) ≡ true → h.home k ≡ j
    home_of k j w fit is = eqb-true (h.home k) j (and_parts (nat_lt k h.seats) (nat_eq (h.home k) j) (sym (fit.numbers k) ∙ is)).1

    once_both : (m n : ℕ) → m ≤ 1 → n ≤ 1 → (0 < m → 0 < n → ⊥) → m + n ≤ 1
    once_both zero n a b clash = omega arith
    once_both (suc m) zero a b clash = omega arith
    once_both (suc m) (suc n) a b clash = absurd (clash (omega arith) (omega arith))

heads_and_tails : (ps : List Portion) → head_of ps ++ tail_of ps ≡ ps
heads_and_tails [] = refl
heads_and_tails (p ∷ ps) = refl

-- the first portion goes to a new seat
pub splits : (id : ℕ) (v : View) → 2 ≤ length v.portions → Splits Keeps id v (left_part v) (right_part v)
splits id v two_portions s h at =
    let f = h.each id v at in
    let apart = head_apart v.portions f.numbers_once in
    let n : ℕ = length s.views in
    let front : List Act = acts_of (head_of v.portions) in
    let back : List Act = acts_of (tail_of v.portions) in
    let whole : acts_of v.portions ≡ front ++ back = ap acts_of (sym (heads_and_tails v.portions)) ∙ acts_append (head_of v.portions) (tail_of v.portions) in
    let once : (k : ℕ) → acts_for k (front ++ back) ≤ 1 = (λ k. subst (λ (l : List Act). acts_for k l ≤ 1) whole (f.once k)) in
    let acts : (k : ℕ) → first_some (act_among k front) (act_among k back) ≡ cond (nat_eq (h.owner k) id) (h.book k) None = (λ k. sym (among_append k front back) ∙ ap (act_among k) (sym whole) ∙ f.acts k) in
    let goes : ℕ → Bool = λ k. is_some (act_among k front) in
    let houses : ℕ → Bool = λ k. has k (numbers_of (head_of v.portions)) in
    let owner : ℕ → ℕ = given h.owner goes n in
    let home : ℕ → ℕ = given h.home houses n in
    let here : id < n = short s.views id v at in
    let old : id ≢ n = λ e. omega arith in
    let numbers : (k : ℕ) → has k (numbers_of (head_of v.portions)) || has k (numbers_of (tail_of v.portions)) ≡ nat_lt k h.seats && nat_eq (h.home k) id
    = (λ k. sym (has-append k (numbers_of (head_of v.portions)) (numbers_of (tail_of v.portions))) ∙ ap (has k) (sym (map-append (λ (p : Portion). p.number) (head_of v.portions) (tail_of v.portions)) ∙ ap numbers_of (heads_and_tails v.portions)) ∙ f.numbers k) in
    let count : length (set s.views id (left_part v) ++ right_part v ∷ []) ≡ suc n = length-append (set s.views id (left_part v)) (right_part v ∷ []) ∙ (let l = length-set s.views id (left_part v) in omega arith) in
    let left : Fits h.plan h.seats h.book owner home id (left_part v) = record {
      plan = f.plan;
      acts = λ k. ⊎_elim
          (λ (g : goes k ≡ true). let a = has_some (act_among k front) g in one_part k front back (once k) a.0 a.1 ∙ sym (away_now h.owner goes n id k (h.book k) None g old))
          (λ (g : goes k ≡ false). ap (λ o. first_some o (act_among k back)) (sym (has_none (act_among k front) g)) ∙ acts k ∙ sym (kept_now h.owner goes n id k (h.book k) None g))
          (cases_Bool (goes k));
      numbers = λ k. ⊎_elim
          (λ (g : houses k ≡ true). false_from_ne_true (has k (numbers_of (tail_of v.portions))) (apart k g) ∙ sym (and_right (nat_lt k h.seats) (nat_eq (home k) id) (as_cond (nat_eq (home k) id) ∙ away_now h.home houses n id k true false g old)))
          (λ (g : houses k ≡ false). ap (λ c. c || has k (numbers_of (tail_of v.portions))) (sym g) ∙ numbers k ∙ ap (λ c. nat_lt k h.seats && c) (as_cond (nat_eq (h.home k) id) ∙ sym (kept_now h.home houses n id k true false g) ∙ sym (as_cond (nat_eq (home k) id))))
          (cases_Bool (houses k));
      numbers_once = tail_distinct v.portions f.numbers_once;
      once = λ k. (let t = acts_for_append k front back in let o = once k in omega arith);
      seen = f.seen;
    } in
    let right : Fits h.plan h.seats h.book owner home n (right_part v) = record {
      plan = f.plan;
      acts = λ k. ⊎_elim
          (λ (g : goes k ≡ true). let a = has_some (act_among k front) g in a.1 ∙ sym ((cond_owner (h.owner k) id (h.book k) a.0 (sym (acts k) ∙ ap (λ o. first_some o (act_among k back)) a.1)).1) ∙ sym (there_now h.owner goes n k (h.book k) None g))
          (λ (g : goes k ≡ false). has_none (act_among k front) g ∙ sym (kept_now h.owner goes n n k (h.book k) None g ∙ unowned k (h.book k) refl))
          (cases_Bool (goes k));
      numbers = λ k. ⊎_elim
          (λ (g : houses k ≡ true). g ∙ sym (and_from (nat_lt k h.seats) (nat_eq (home k) n) (in_seats k g) (as_cond (nat_eq (home k) n) ∙ there_now h.home houses n k true false g)))
          (λ (g : houses k ≡ false). g ∙ sym (unhoused k (cases_Bool (nat_lt k h.seats)) g))
          (cases_Bool (houses k));
      numbers_once = head_distinct v.portions;
      once = λ k. (let t = acts_for_append k front back in let o = once k in omega arith);
      seen = f.seen;
    } in record {
      plan = h.plan;
      seats = h.seats;
      book = h.book;
      owner = owner;
      home = home;
      planned = h.planned;
      long = h.long;
      inside = h.inside;
      cell = h.cell;
      owned = λ k a e. subst (λ m. owner k < m) (sym count) (below_now h.owner goes n (suc n) k (let l = h.owned k a e in omega arith) (omega arith));
      housed = λ k l. subst (λ m. home k < m) (sym count) (below_now h.home houses n (suc n) k (let z = h.housed k l in omega arith) (omega arith));
      each = λ j w e. ⊎_elim
          (λ (x : get_elem? (set s.views id (left_part v)) j ≡ some w). ⊎_elim
          (λ (y : (j ≡ id) × (left_part v ≡ w)). subst (λ (z : ℕ × View). Fits h.plan h.seats h.book owner home z.0 z.1) (λ i. (sym y.0 i, y.1 i)) left)
          (λ (y : (j ≢ id) × (get_elem? s.views j ≡ some w)). let o = h.each j w y.1 in let below : j ≢ n = (λ c. (let z = short s.views j w y.1 in omega arith)) in record {
            plan = o.plan;
            acts = λ k. o.acts k ∙ ⊎_elim
                (λ (g : goes k ≡ true). let a = has_some (act_among k front) g in unless (nat_eq (h.owner k) j) (h.book k) None (ne_eqb (h.owner k) j (λ c. y.0 (sym c ∙ (cond_owner (h.owner k) id (h.book k) a.0 (sym (acts k) ∙ ap (λ z. first_some z (act_among k back)) a.1)).0))) ∙ sym (away_now h.owner goes n j k (h.book k) None g below))
                (λ (g : goes k ≡ false). sym (kept_now h.owner goes n j k (h.book k) None g))
                (cases_Bool (goes k));
            numbers = λ k. o.numbers k ∙ ap (λ c. nat_lt k h.seats && c) (as_cond (nat_eq (h.home k) j) ∙ ⊎_elim
                (λ (g : houses k ≡ true). unless (nat_eq (h.home k) j) true false (ne_eqb (h.home k) j (λ c. y.0 (sym c ∙ stays k g))) ∙ sym (away_now h.home houses n j k true false g below))
                (λ (g : houses k ≡ false). sym (kept_now h.home houses n j k true false g))
                (cases_Bool (houses k)) ∙ sym (as_cond (nat_eq (home k) j)));
            numbers_once = o.numbers_once;
            once = o.once;
            seen = o.seen;
          })
          (at_set s.views id j (left_part v) w x))
          (λ (x : (j ≡ length (set s.views id (left_part v))) × (right_part v ≡ w)). subst (λ (z : ℕ × View). Fits h.plan h.seats h.book owner home z.0 z.1) (λ i. (sym (x.0 ∙ length-set s.views id (left_part v)) i, x.1 i)) right)
          (at_end (set s.views id (left_part v)) (right_part v) w j e);
    }
  where
    both : (k : ℕ) → has k (numbers_of (head_of v.portions)) ≡ true → nat_lt k h.seats && nat_eq (h.home k) id ≡ true
    both k g = sym ((h.each id v at).numbers k) ∙ ap (has k) (ap numbers_of (sym (heads_and_tails v.portions)) ∙ map-append (λ (p : Portion). p.number) (head_of v.portions) (tail_of v.portions)) ∙ has-append k (numbers_of (head_of v.portions)) (numbers_of (tail_of v.portions)) ∙ ap (λ c. c || has k (numbers_of (tail_of v.portions))) g

    in_seats : (k : ℕ) → has k (numbers_of (head_of v.portions)) ≡ true → nat_lt k h.seats ≡ true
    in_seats k g = (and_parts (nat_lt k h.seats) (nat_eq (h.home k) id) (both k g)).0

    stays : (k : ℕ) → has k (numbers_of (head_of v.portions)) ≡ true → h.home k ≡ id
    stays k g = eqb-true (h.home k) id (and_parts (nat_lt k h.seats) (nat_eq (h.home k) id) (both k g)).1

    unowned : (k : ℕ) (o : Option Act) → h.book k ≡ o → cond (nat_eq (h.owner k) (length s.views)) o None ≡ None
    unowned k None e = none_both (nat_eq (h.owner k) (length s.views)) None refl
    unowned k (Some a) e = unless (nat_eq (h.owner k) (length s.views)) (Some a) None (ne_eqb (h.owner k) (length s.views) (λ c. (let l = h.owned k a e in omega arith)))

    unhoused : (k : ℕ) → (nat_lt k h.seats ≡ true) ⊎ (nat_lt k h.seats ≡ false) → has k (numbers_of (head_of v.portions)) ≡ false → nat_lt k h.seats && nat_eq (given h.home (λ i. has i (numbers_of (head_of v.portions))) (length s.views) k) (length s.views) ≡ false
    unhoused k (inl e) g = and_right (nat_lt k h.seats) _ (as_cond _ ∙ kept_now h.home (λ i. has i (numbers_of (head_of v.portions))) (length s.views) (length s.views) k true false g ∙ unless (nat_eq (h.home k) (length s.views)) true false (ne_eqb (h.home k) (length s.views) (λ c. (let l = h.housed k (ltb-true k h.seats e) in omega arith))))
    unhoused k (inr e) g = ap (λ c. c && nat_eq (given h.home (λ i. has i (numbers_of (head_of v.portions))) (length s.views) k) (length s.views)) e
