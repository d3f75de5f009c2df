-- Books of acts, and the cells under a book that changes at one rank.
use Rattle.std.proofs.Common.{is_some, ◌≡◌, ◌≢◌, ℕ, zero, suc, ◌+◌, ◌*◌, ◌<◌, ◌≤◌, ◌^◌, List, [], ◌∷◌, ◌++◌, length, map, take, get_or, refl, sym, ap, ap₂, ◌∙◌, subst, ⊎_elim, arith, Bool, true, false, true≢false, not, ◌||◌, cond, nat_eq, nat_lt, eq-eqb, ne_eqb, eqb-true, Option, Some, None, append_assoc, lt_of_not-le, slice_index}
use Rattle.cell_words.proofs.Names.{when, unless, none-some, or_cases, or-true, or-false, or_assoc, map-append, dite, ℕ_discrete, dec_le, Planning, has, needs_at, AreDistinct, code_of, Act, Portion, CLAIMED, FILLED, acts_of, act_among, act_in, acts_for, Book, signed_in, signs, count_of, unsigned, state_of, written_of, IsFilled, IsActIn, Cell, change, with_act, fresh_act, with_fresh, View}
use Rattle.amp_plan.proofs.RowLemmas.{has-at}

abbrev pub put : Book → ℕ → Act → Book
put b r a k = cond (nat_eq k r) (Some a) (b k)

pub put_here : (b : Book) (r : ℕ) (a : Act) → put b r a r ≡ Some a
put_here b r a = when (nat_eq r r) (Some a) (b r) (eq-eqb r r refl)

pub put_else : (b : Book) (r : ℕ) (a : Act) (k : ℕ) → k ≢ r → put b r a k ≡ b k
put_else b r a k n = unless (nat_eq k r) (Some a) (b k) (ne_eqb k r n)

abbrev pub put_owner : (ℕ → ℕ) → ℕ → ℕ → ℕ → ℕ
put_owner o r id k = cond (nat_eq k r) id (o k)

-- signatures stay where the new act signs as the old one did
pub signs_same : (p : Planning) (b : Book) (r : ℕ) (a : Act) → ((t : ℕ) → signed_in p (Some a) r t ≡ signed_in p (b r) r t) → (q t : ℕ) → signs p (put b r a) q t ≡ signs p b q t
signs_same p b r a same q t = dite (ℕ_discrete q r)
    (λ (e : q ≡ r). let F : ℕ → Type 0 = λ k. signs p (put b r a) k t ≡ signs p b k t in subst F (sym e) (ap (λ o. signed_in p o r t) (put_here b r a) ∙ same t))
    (λ n. ap (λ o. signed_in p o q t) (put_else b r a q n))

pub count_same : (f g : ℕ → Bool) (xs : List ℕ) → ((x : ℕ) → f x ≡ g x) → count_of f xs ≡ count_of g xs
count_same f g [] e = refl
count_same f g (x ∷ xs) e = λ i. cond (e x i) (suc (count_same f g xs e i)) (count_same f g xs e i)

pub unsigned_same : (p : Planning) (b c : Book) (r : ℕ) → ((q : ℕ) → signs p c q r ≡ signs p b q r) → unsigned p c r ≡ unsigned p b r
unsigned_same p b c r e = count_same (λ q. not (signs p c q r)) (λ q. not (signs p b q r)) (needs_at p r) (λ q. ap not (e q))

pub act_same : (p : Planning) (b c : Book) (r : ℕ) (o : Option Act) → ((q : ℕ) → signs p c q r ≡ signs p b q r) → IsActIn p b r o → IsActIn p c r o
act_same p b c r None e h = tt
act_same p b c r (Some a) e h = record { rank = h.rank; needs = λ q n. e q ∙ h.needs q n; written = h.written; sized = h.sized; unsigned_yet = h.unsigned_yet; signed = h.signed; whole = h.whole }

-- a cell that isn't touched
pub cell_else : (p : Planning) (words new : List ℕ) (b c : Book) (r : ℕ) → ((q : ℕ) → signs p c q r ≡ signs p b q r) → c r ≡ b r → ((k : ℕ) → k < 5 → slice_index new (5 * r + k) ≡ slice_index words (5 * r + k)) → Cell p words b r → Cell p new c r
cell_else p words new b c r e same kept h = record {
  state = ap (slice_index new) zero_more ∙ kept 0 (omega arith) ∙ ap (slice_index words) (sym zero_more) ∙ h.state ∙ ap (λ n. state_of n (b r)) (sym (unsigned_same p b c r e)) ∙ ap (state_of (unsigned p c r)) (sym same);
  values = λ k low. kept (suc k) (omega arith) ∙ h.values k low ∙ ap (λ o. cond (nat_lt k (written_of o)) (code_of p r k) 0) (sym same);
  act = subst (IsActIn p c r) (sym same) (act_same p b c r (b r) e h.act);
}
  where
    zero_more : 5 * r ≡ 5 * r + 0
    zero_more = omega arith

pub count_le : (f : ℕ → Bool) (xs : List ℕ) → count_of f xs ≤ length xs
count_le f [] = omega arith
count_le f (x ∷ xs) = let h = count_le f xs in elim (f x) as (λ b. cond b (suc (count_of f xs)) (count_of f xs) ≤ suc (length xs)) [ true ↦ omega arith | false ↦ omega arith ]

-- what a state word says
pub says_filled : (n : ℕ) (o : Option Act) → n < 2 ^ 63 → state_of n o ≡ FILLED → IsFilled o
says_filled n None low e = absurd (omega arith)
says_filled n (Some a) low e = (elim a.filled as (λ f. cond f FILLED CLAIMED ≡ FILLED → f ≡ true) [ true ↦ λ _. refl | false ↦ λ e. absurd (omega (arith, e)) ]) e

pub says_free : (n : ℕ) (o : Option Act) → state_of n o ≡ 0 → (o ≡ None) × (n ≡ 0)
says_free n None e = (refl, e)
says_free n (Some a) e = absurd ((elim a.filled as (λ f. cond f FILLED CLAIMED ≡ 0 → ⊥) [ true ↦ λ e. omega (arith, e) | false ↦ λ e. omega (arith, e) ]) e)

-- where none is left to sign, each has signed
pub all_signed : (f : ℕ → Bool) (xs : List ℕ) → count_of (λ q. not (f q)) xs ≡ 0 → (q : ℕ) → has q xs ≡ true → f q ≡ true
unfolding has
all_signed f [] e q h = absurd (true≢false (sym h))
all_signed f (x ∷ xs) e q h = ⊎_elim
    (λ (s : nat_eq q x ≡ true). let is : q ≡ x = eqb-true q x s in subst (λ k. f k ≡ true) (sym is) (head (f x) e).0)
    (λ (s : has q xs ≡ true). all_signed f xs (head (f x) e).1 q s)
    (or_cases (nat_eq q x) (has q xs) h)
  where
    head : (b : Bool) → cond (not b) (suc (count_of (λ q. not (f q)) xs)) (count_of (λ q. not (f q)) xs) ≡ 0 → (b ≡ true) × (count_of (λ q. not (f q)) xs ≡ 0)
    head true e = (refl, e)
    head false e = absurd (omega (arith, e))

pub has_none : (o : Option Act) → is_some o ≡ false → o ≡ None
has_none None e = refl
has_none (Some a) e = absurd (true≢false e)

pub has_some : (o : Option Act) → is_some o ≡ true → (a : Act) × (o ≡ Some a)
has_some None e = absurd (true≢false (sym e))
has_some (Some a) e = (a, refl)

abbrev pub first_some : Option Act → Option Act → Option Act
first_some None o = o
first_some (Some a) o = Some a

pub among_append : (k : ℕ) (xs ys : List Act) → act_among k (xs ++ ys) ≡ first_some (act_among k xs) (act_among k ys)
among_append k [] ys = refl
among_append k (a ∷ xs) ys = elim (nat_eq k a.rank) as (λ b. cond b (Some a) (act_among k (xs ++ ys)) ≡ first_some (cond b (Some a) (act_among k xs)) (act_among k ys)) [ true ↦ refl | false ↦ among_append k xs ys ]

none_left : (o w : Option Act) → first_some o w ≡ None → (o ≡ None) × (w ≡ None)
none_left None w e = (refl, e)
none_left (Some a) w e = absurd (cc)

-- where a list has no act of r, neither part has
pub none_parts : (r : ℕ) (xs ys : List Act) → act_among r (xs ++ ys) ≡ None → (act_among r xs ≡ None) × (act_among r ys ≡ None)
none_parts r xs ys e = none_left (act_among r xs) (act_among r ys) (sym (among_append r xs ys) ∙ e)

pub change_acts : (r : ℕ) (f : Act → Act) (ps : List Portion) → acts_of (map (λ p. record { number = p.number; acts = change r f p.acts }) ps) ≡ change r f (acts_of ps)
change_acts r f [] = refl
change_acts r f (p ∷ ps) = ap (λ l. change r f p.acts ++ l) (change_acts r f ps) ∙ sym (map-append (λ a. cond (nat_eq r a.rank) (f a) a) p.acts (acts_of ps))

abbrev pub changed : (Act → Act) → Option Act → Option Act
changed f None = None
changed f (Some a) = Some (f a)

-- an act that may have been changed keeps its rank
rank_same : (f : Act → Act) → ((a : Act) → (f a).rank ≡ a.rank) → (a : Act) (b : Bool) → (cond b (f a) a).rank ≡ a.rank
rank_same f keep a true = keep a
rank_same f keep a false = refl

-- the act of r is changed, and no other
pub among_change : (r : ℕ) (f : Act → Act) → ((a : Act) → (f a).rank ≡ a.rank) → (k : ℕ) (xs : List Act) → act_among k (change r f xs) ≡ cond (nat_eq k r) (changed f (act_among k xs)) (act_among k xs)
among_change r f keep k [] = elim (nat_eq k r) as (λ b. None ≡ cond b (changed f None) None) [ true ↦ refl | false ↦ refl ]
among_change r f keep k (a ∷ xs) = dite (ℕ_discrete k a.rank)
    (λ (e : k ≡ a.rank). let m : nat_eq k a.rank ≡ true = eq-eqb k a.rank e in
    when (nat_eq k (now (nat_eq r a.rank)).rank) (Some (now (nat_eq r a.rank))) _ (ap (nat_eq k) (rank_same f keep a (nat_eq r a.rank)) ∙ m) ∙ mine e (nat_eq r a.rank) refl ∙ ap (λ o. cond (nat_eq k r) (changed f o) o) (sym (when (nat_eq k a.rank) (Some a) (act_among k xs) m)))
    (λ (n : k ≢ a.rank). let m : nat_eq k a.rank ≡ false = ne_eqb k a.rank n in
    unless (nat_eq k (now (nat_eq r a.rank)).rank) (Some (now (nat_eq r a.rank))) _ (ap (nat_eq k) (rank_same f keep a (nat_eq r a.rank)) ∙ m) ∙ among_change r f keep k xs ∙ ap (λ o. cond (nat_eq k r) (changed f o) o) (sym (unless (nat_eq k a.rank) (Some a) (act_among k xs) m)))
  where
    now : Bool → Act
    now b = cond b (f a) a

    mine : k ≡ a.rank → (b : Bool) → nat_eq r a.rank ≡ b → Some (cond b (f a) a) ≡ cond (nat_eq k r) (Some (f a)) (Some a)
    mine e true is = sym (when (nat_eq k r) (Some (f a)) (Some a) (eq-eqb k r (e ∙ sym (eqb-true r a.rank is))))
    mine e false is = sym (unless (nat_eq k r) (Some (f a)) (Some a) (ne_eqb k r (λ c. true≢false (sym (eq-eqb r a.rank (sym c ∙ e)) ∙ is))))

pub act_change : (r : ℕ) (f : Act → Act) → ((a : Act) → (f a).rank ≡ a.rank) → (v : View) (k : ℕ) → act_in (with_act r f v) k ≡ cond (nat_eq k r) (changed f (act_in v k)) (act_in v k)
act_change r f keep v k = ap (act_among k) (change_acts r f v.portions) ∙ among_change r f keep k (acts_of v.portions)

-- a fresh act joins the first portion
pub act_fresh : (r k : ℕ) (ps : List Portion) → 0 < length ps → act_among r (acts_of ps) ≡ None → act_among k (acts_of (with_fresh r ps)) ≡ cond (nat_eq k r) (Some (fresh_act r)) (act_among k (acts_of ps))
act_fresh r k [] some_portion free = absurd (omega arith)
act_fresh r k (p ∷ ps) some_portion free = ap (act_among k) (append_assoc p.acts (fresh_act r ∷ []) (acts_of ps)) ∙ among_append k p.acts (fresh_act r ∷ acts_of ps) ∙ split (nat_eq k r) refl ∙ ap (cond (nat_eq k r) (Some (fresh_act r))) (sym (among_append k p.acts (acts_of ps)))
  where
    split : (b : Bool) → nat_eq k r ≡ b → first_some (act_among k p.acts) (cond b (Some (fresh_act r)) (act_among k (acts_of ps))) ≡ cond b (Some (fresh_act r)) (first_some (act_among k p.acts) (act_among k (acts_of ps)))
    split true is = ap (λ o. first_some o (Some (fresh_act r))) (ap (λ j. act_among j p.acts) (eqb-true k r is) ∙ (none_parts r p.acts (acts_of ps) free).0)
    split false is = refl

pub has_more : (u : ℕ) (xs : List ℕ) (s : ℕ) → s < length xs → has u (take (suc s) xs) ≡ has u (take s xs) || nat_eq u (get_or xs s 0)
unfolding has
has_more u [] s low = absurd (omega arith)
has_more u (y ∷ ys) zero low = or-false (nat_eq u y)
has_more u (y ∷ ys) (suc s) low = ap (λ c. nat_eq u y || c) (has_more u ys s (omega arith)) ∙ sym (or_assoc (nat_eq u y) (has u (take s ys)) (nat_eq u (get_or ys s 0)))

-- the next one hasn't come before
pub has_not_yet : (xs : List ℕ) (s : ℕ) → s < length xs → AreDistinct xs → has (get_or xs s 0) (take s xs) ≡ false
unfolding has AreDistinct
has_not_yet [] s low d = absurd (omega arith)
has_not_yet (y ∷ ys) zero low d = refl
has_not_yet (y ∷ ys) (suc s) low d = dite (ℕ_discrete (get_or ys s 0) y)
    (λ (e : get_or ys s 0 ≡ y). absurd (true≢false (sym (ap (λ k. has k ys) (sym e) ∙ has-at ys s (omega arith)) ∙ d.0)))
    (λ n. ap (λ c. c || has (get_or ys s 0) (take s ys)) (ne_eqb (get_or ys s 0) y n) ∙ has_not_yet ys s (omega arith) d.1)

-- one fewer counts
pub count_none : (f g : ℕ → Bool) (r : ℕ) (xs : List ℕ) → has r xs ≡ false → ((x : ℕ) → x ≢ r → f x ≡ g x) → count_of f xs ≡ count_of g xs
unfolding has
count_none f g r [] away e = refl
count_none f g r (x ∷ xs) away e = dite (ℕ_discrete r x)
    (λ (s : r ≡ x). absurd (true≢false (sym (ap (λ c. c || has r xs) (eq-eqb r x s)) ∙ away)))
    (λ n. let t : has r xs ≡ false = sym (ap (λ c. c || has r xs) (ne_eqb r x n)) ∙ away in λ i. cond (e x (λ c. n (sym c)) i) (suc (count_none f g r xs t e i)) (count_none f g r xs t e i))

pub count_fewer : (f g : ℕ → Bool) (r : ℕ) (xs : List ℕ) → AreDistinct xs → has r xs ≡ true → f r ≡ true → g r ≡ false → ((x : ℕ) → x ≢ r → f x ≡ g x) → count_of f xs ≡ suc (count_of g xs)
unfolding has AreDistinct
count_fewer f g r [] d at yes_ no_ e = absurd (true≢false (sym at))
count_fewer f g r (x ∷ xs) d at yes_ no_ e = dite (ℕ_discrete r x)
    (λ (s : r ≡ x). let away : has r xs ≡ false = ap (λ k. has k xs) s ∙ d.0 in
    when (f x) (suc (count_of f xs)) (count_of f xs) (ap f (sym s) ∙ yes_) ∙ ap suc (count_none f g r xs away e) ∙ ap suc (sym (unless (g x) (suc (count_of g xs)) (count_of g xs) (ap g (sym s) ∙ no_))))
    (λ n. let t : has r xs ≡ true = sym (ap (λ c. c || has r xs) (ne_eqb r x n)) ∙ at in
    let h = count_fewer f g r xs d.1 t yes_ no_ e in let m : ℕ = count_of f xs in let k : ℕ = count_of g xs in
    ap (λ c. cond c (suc m) m) (e x (λ c. n (sym c))) ∙ (elim (g x) as (λ c. cond c (suc m) m ≡ suc (cond c (suc k) k)) [ true ↦ ap suc h | false ↦ h ]))

-- how many acts of a rank
pub acts_for_append : (k : ℕ) (xs ys : List Act) → acts_for k (xs ++ ys) ≡ acts_for k xs + acts_for k ys
acts_for_append k [] ys = omega arith
acts_for_append k (a ∷ xs) ys =
    let e = acts_for_append k xs ys in
    elim (nat_eq k a.rank) as (λ b. cond b (suc (acts_for k (xs ++ ys))) (acts_for k (xs ++ ys)) ≡ cond b (suc (acts_for k xs)) (acts_for k xs) + acts_for k ys) [ true ↦ omega arith | false ↦ e ]

-- no act of the rank counts where none is found, and none is found where none counts
pub acts_for_none : (k : ℕ) (xs : List Act) → acts_for k xs ≡ 0 → act_among k xs ≡ None
acts_for_none k [] e = refl
acts_for_none k (a ∷ xs) e =
    (elim (nat_eq k a.rank) as (λ b. cond b (suc (acts_for k xs)) (acts_for k xs) ≡ 0 → cond b (Some a) (act_among k xs) ≡ None) [ true ↦ λ e. absurd (omega (arith, e)) | false ↦ acts_for_none k xs ]) e

pub none_acts : (k : ℕ) (xs : List Act) → act_among k xs ≡ None → acts_for k xs ≡ 0
none_acts k [] e = refl
none_acts k (a ∷ xs) e =
    (elim (nat_eq k a.rank) as (λ b. cond b (Some a) (act_among k xs) ≡ None → cond b (suc (acts_for k xs)) (acts_for k xs) ≡ 0) [ true ↦ λ e. absurd (none-some a (sym e)) | false ↦ none_acts k xs ]) e

pub acts_for_change : (r : ℕ) (f : Act → Act) → ((a : Act) → (f a).rank ≡ a.rank) → (k : ℕ) (xs : List Act) → acts_for k (change r f xs) ≡ acts_for k xs
acts_for_change r f keep k [] = refl
acts_for_change r f keep k (a ∷ xs) = λ i. cond (nat_eq k (rank_same f keep a (nat_eq r a.rank) i)) (suc (acts_for_change r f keep k xs i)) (acts_for_change r f keep k xs i)

pub acts_for_changed : (r : ℕ) (f : Act → Act) → ((a : Act) → (f a).rank ≡ a.rank) → (k : ℕ) (ps : List Portion) → acts_for k (acts_of (map (λ p. record { number = p.number; acts = change r f p.acts }) ps)) ≡ acts_for k (acts_of ps)
acts_for_changed r f keep k ps = ap (acts_for k) (change_acts r f ps) ∙ acts_for_change r f keep k (acts_of ps)

pub acts_for_fresh : (r k : ℕ) (ps : List Portion) → act_among r (acts_of ps) ≡ None → acts_for k (acts_of ps) ≤ 1 → acts_for k (acts_of (with_fresh r ps)) ≤ 1
acts_for_fresh r k [] free low = low
acts_for_fresh r k (p ∷ ps) free low =
    let a = acts_for_append k (p.acts ++ fresh_act r ∷ []) (acts_of ps) in let b = acts_for_append k p.acts (fresh_act r ∷ []) in let c = acts_for_append k p.acts (acts_of ps) in
    dite (ℕ_discrete k r)
    (λ (e : k ≡ r). let z : acts_for k (p.acts ++ acts_of ps) ≡ 0 = ap (λ j. acts_for j (p.acts ++ acts_of ps)) e ∙ none_acts r (p.acts ++ acts_of ps) free in let o : acts_for k (fresh_act r ∷ []) ≡ 1 = when (nat_eq k r) 1 0 (eq-eqb k r e) in omega arith)
    (λ n. let o : acts_for k (fresh_act r ∷ []) ≡ 0 = unless (nat_eq k r) 1 0 (ne_eqb k r n) in omega arith)

-- how many acts are of ranks below n
below_n : ℕ → List Act → ℕ
below_n zero xs = 0
below_n (suc n) xs = below_n n xs + acts_for n xs

none_below : (n : ℕ) → below_n n [] ≡ 0
unfolding below_n
none_below zero = refl
none_below (suc n) = let e = none_below n in omega arith

one_not : (n : ℕ) (a : Act) (xs : List Act) → n ≤ a.rank → below_n n (a ∷ xs) ≡ below_n n xs
unfolding below_n
one_not zero a xs l = refl
one_not (suc n) a xs l = ap₂ (λ x y. x + y) (one_not n a xs (omega arith)) (unless (nat_eq n a.rank) (suc (acts_for n xs)) (acts_for n xs) (ne_eqb n a.rank (λ e. omega arith)))

one_more : (n : ℕ) (a : Act) (xs : List Act) → a.rank < n → below_n n (a ∷ xs) ≡ suc (below_n n xs)
unfolding below_n
one_more zero a xs l = absurd (omega arith)
one_more (suc n) a xs l = dite (ℕ_discrete n a.rank)
    (λ (e : n ≡ a.rank). let x = one_not n a xs (omega arith) in let y = when (nat_eq n a.rank) (suc (acts_for n xs)) (acts_for n xs) (eq-eqb n a.rank e) in omega arith)
    (λ (d : n ≢ a.rank). let x = one_more n a xs (grind arith) in let y = unless (nat_eq n a.rank) (suc (acts_for n xs)) (acts_for n xs) (ne_eqb n a.rank d) in omega arith)

all_below : (n : ℕ) (xs : List Act) → ((k : ℕ) → n ≤ k → acts_for k xs ≡ 0) → length xs ≤ below_n n xs
all_below n [] none = omega arith
all_below n (a ∷ xs) none = dite (dec_le n a.rank)
    (λ (l : n ≤ a.rank). absurd (let e = none a.rank l in let y = when (nat_eq a.rank a.rank) (suc (acts_for a.rank xs)) (acts_for a.rank xs) (eq-eqb a.rank a.rank refl) in omega arith))
    (λ no_l. let m = one_more n a xs (lt_of_not-le no_l) in let r = all_below n xs (λ k l. (elim (nat_eq k a.rank) as (λ b. cond b (suc (acts_for k xs)) (acts_for k xs) ≡ 0 → acts_for k xs ≡ 0) [ true ↦ λ e. absurd (omega (arith, e)) | false ↦ λ e. e ]) (none k l)) in omega arith)

most_below : (n : ℕ) (xs : List Act) → ((k : ℕ) → acts_for k xs ≤ 1) → below_n n xs ≤ n
unfolding below_n
most_below zero xs once = omega arith
most_below (suc n) xs once = let r = most_below n xs once in let o = once n in omega arith

less_below : (n r : ℕ) (xs : List Act) → r < n → acts_for r xs ≡ 0 → ((k : ℕ) → acts_for k xs ≤ 1) → below_n n xs < n
unfolding below_n
less_below zero r xs l none once = absurd (omega arith)
less_below (suc n) r xs l none once = dite (ℕ_discrete r n)
    (λ (e : r ≡ n). let m = most_below n xs once in let z : acts_for n xs ≡ 0 = ap (λ k. acts_for k xs) (sym e) ∙ none in omega arith)
    (λ (d : r ≢ n). let m = less_below n r xs (grind arith) none once in let o = once n in omega arith)

-- one act at most of each rank below n, none of the rank r and none of the others: fewer than n
pub fewer_acts : (n r : ℕ) (xs : List Act) → r < n → acts_for r xs ≡ 0 → ((k : ℕ) → acts_for k xs ≤ 1) → ((k : ℕ) → n ≤ k → acts_for k xs ≡ 0) → length xs < n
fewer_acts n r xs l none once above = let a = all_below n xs above in let b = less_below n r xs l none once in omega arith
