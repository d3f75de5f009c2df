-- The board at the start.
use Rattle.std.proofs.Common.{take_all, ◌≡◌, ◌≢◌, ◌⊎◌, ℕ, zero, suc, ◌+◌, ◌<◌, ◌≤◌, List, [], ◌∷◌, ◌++◌, length, map, refl, sym, ap, ap₂, ◌∙◌, subst, arith, inl, inr, Bool, true, false, true≢false, not, ◌||◌, cond, nat_eq, nat_lt, All, eq-eqb, ne_eqb, eqb-true, lt-ltb, le-ltb, Some, None, get_or, append-nil, lt_of_not-le}
use Rattle.cell_words.proofs.Names.{or-true, and-true, dite, some, some-ne-none, some-injective, ℕ_discrete, dec_le, get_elem?, Planning, has, needs_at, dependents_at, AreDistinct, cells, code_of, IsPlanned, Portion, acts_of, act_among, acts_for, numbers_of, Book, signs, signed_in, count_of, unsigned, state_of, written_of, IsFilled, IsActIn, Cell, AreCarried, IsOpening, carried_act, first_portions, View, when, unless, cases_Bool}
use Rattle.cell_words.specs.Countdown.{Fits, Lawful, empty_from, first_view}

-- ---- numbers

outside_from : (k j n : ℕ) → (k < j) ⊎ (j + n ≤ k) → has k (numbers_of (empty_from j n)) ≡ false
unfolding has
outside_from k j zero o = refl
outside_from k j (suc n) (inl l) = ap (λ c. c || has k (numbers_of (empty_from (suc j) n))) (ne_eqb k j (λ e. omega arith)) ∙ outside_from k (suc j) n (inl (omega arith))
outside_from k j (suc n) (inr l) = ap (λ c. c || has k (numbers_of (empty_from (suc j) n))) (ne_eqb k j (λ e. omega arith)) ∙ outside_from k (suc j) n (inr (omega arith))

inside_from : (k j n : ℕ) → j ≤ k → k < j + n → has k (numbers_of (empty_from j n)) ≡ true
unfolding has
inside_from k j zero l h = absurd (omega arith)
inside_from k j (suc n) l h = dite (ℕ_discrete k j)
    (λ (e : k ≡ j). ap (λ c. c || has k (numbers_of (empty_from (suc j) n))) (eq-eqb k j e))
    (λ (d : k ≢ j). ap (λ c. c || has k (numbers_of (empty_from (suc j) n))) (ne_eqb k j d) ∙ inside_from k (suc j) n (grind arith) (omega arith))

distinct_from : (j n : ℕ) → AreDistinct (numbers_of (empty_from j n))
unfolding AreDistinct
distinct_from j zero = tt
distinct_from j (suc n) = (outside_from j (suc j) n (inl (omega arith)), distinct_from (suc j) n)

first_numbers : (p : Planning) (n : ℕ) (carried : List ℕ) → numbers_of (first_portions p n carried) ≡ numbers_of (empty_from 0 n)
first_numbers p zero carried = refl
first_numbers p (suc n) carried = refl

numbered : (k n : ℕ) → has k (numbers_of (empty_from 0 n)) ≡ nat_lt k n
numbered k n = dite (dec_le n k)
    (λ (l : n ≤ k). outside_from k 0 n (inr (omega arith)) ∙ sym (le-ltb k n l))
    (λ l. inside_from k 0 n (omega arith) (let h = lt_of_not-le l in omega arith) ∙ sym (lt-ltb k n (lt_of_not-le l)))

-- ---- acts

no_acts : (j n : ℕ) → acts_of (empty_from j n) ≡ []
no_acts j zero = refl
no_acts j (suc n) = no_acts (suc j) n

first_acts : (p : Planning) (n : ℕ) (carried : List ℕ) → 0 < n → acts_of (first_portions p n carried) ≡ map (carried_act p) carried
first_acts p zero carried l = absurd (omega arith)
first_acts p (suc n) carried l = ap (λ as'. map (carried_act p) carried ++ as') (no_acts 1 n) ∙ append-nil (map (carried_act p) carried)

abbrev carried_book : Planning → List ℕ → Book
carried_book p carried r = cond (has r carried) (Some (carried_act p r)) None

among_carried : (p : Planning) (r : ℕ) (carried : List ℕ) → act_among r (map (carried_act p) carried) ≡ carried_book p carried r
unfolding has
among_carried p r [] = refl
among_carried p r (x ∷ xs) =
    (elim (nat_eq r x) as (λ c. nat_eq r x ≡ c → cond c (Some (carried_act p x)) (act_among r (map (carried_act p) xs)) ≡ cond (c || has r xs) (Some (carried_act p r)) None)
    [ true ↦ λ e. ap (λ k. Some (carried_act p k)) (sym (eqb-true r x e)) | false ↦ λ _. among_carried p r xs ]) refl

none_carried : (p : Planning) (r : ℕ) (xs : List ℕ) → has r xs ≡ false → acts_for r (map (carried_act p) xs) ≡ 0
unfolding has
none_carried p r [] e = refl
none_carried p r (x ∷ xs) e =
    let n : ℕ = acts_for r (map (carried_act p) xs) in
    (elim (nat_eq r x) as (λ c. c || has r xs ≡ false → cond c (suc n) n ≡ 0) [ true ↦ λ e. absurd (true≢false e) | false ↦ none_carried p r xs ]) e

once_carried : (p : Planning) (r : ℕ) (xs : List ℕ) → AreDistinct xs → acts_for r (map (carried_act p) xs) ≤ 1
unfolding AreDistinct
once_carried p r [] d = omega arith
once_carried p r (x ∷ xs) d =
    let n : ℕ = acts_for r (map (carried_act p) xs) in
    (elim (nat_eq r x) as (λ c. nat_eq r x ≡ c → cond c (suc n) n ≤ 1)
    [ true ↦ λ e. (let z = none_carried p r xs (ap (λ k. has k xs) (eqb-true r x e) ∙ d.0) in omega (arith, z)) | false ↦ λ _. once_carried p r xs d.1 ]) refl

-- ---- signatures

-- of the needs of a rank the carried ones have signed it
carried_signs : (p : Planning) (carried : List ℕ) (r q : ℕ) → IsPlanned p → r < cells p → has q (needs_at p r) ≡ true → signs p (carried_book p carried) q r ≡ has q carried
carried_signs p carried r q planned low need = elim (has q carried) as (λ c. signed_in p (cond c (Some (carried_act p q)) None) q r ≡ c)
    [ true ↦ ap (has r) (take_all (length (dependents_at p q)) (dependents_at p q) (omega arith)) ∙ sym (planned.converse q r (planned.needs_low q r need) low) ∙ need | false ↦ refl ]

pub count_in : (f g : ℕ → Bool) (xs : List ℕ) → ((q : ℕ) → has q xs ≡ true → f q ≡ g q) → count_of f xs ≡ count_of g xs
unfolding has
count_in f g [] e = refl
count_in f g (x ∷ xs) e = ap₂ (λ c n. cond c (suc n) n) (e x (ap (λ c. c || has x xs) (eq-eqb x x refl))) (count_in f g xs (λ q h. e q (ap (λ c. nat_eq q x || c) h ∙ or-true (nat_eq q x))))

-- ---- the rule

all_has : (P : ℕ → Type 0) (xs : List ℕ) → ((r : ℕ) → has r xs ≡ true → P r) → All P xs
unfolding has
all_has P [] h k d l = absurd (omega (arith, l))
all_has P (x ∷ xs) h zero d l = h x (ap (λ c. c || has x xs) (eq-eqb x x refl))
all_has P (x ∷ xs) h (suc k) d l = all_has P xs (λ r e. h r (ap (λ c. nat_eq r x || c) e ∙ or-true (nat_eq r x))) k d (omega arith)

module _ (p : Planning) (n : ℕ) (carried words : List ℕ) (planned : IsPlanned p) (some_seat : 0 < n) (from : AreCarried p carried) (opened : IsOpening p carried words) where
  book_of : (r : ℕ) → has r carried ≡ true → carried_book p carried r ≡ Some (carried_act p r)
  book_of r e = when (has r carried) (Some (carried_act p r)) None e

  opening_cell : (r : ℕ) → r < cells p → Cell p words (carried_book p carried) r
  opening_cell r low = by (cases_Bool (has r carried))
    where
      by : (has r carried ≡ true) ⊎ (has r carried ≡ false) → Cell p words (carried_book p carried) r
      by (inl e) = record {
        state = opened.filled r low e ∙ ap (state_of (unsigned p (carried_book p carried) r)) (sym (book_of r e));
        values = λ k l. opened.values r k low l ∙ when (has r carried) (code_of p r k) 0 e ∙ sym (ap (λ o. cond (nat_lt k (written_of o)) (code_of p r k) 0) (book_of r e) ∙ when (nat_lt k 4) (code_of p r k) 0 (lt-ltb k 4 l));
        act = subst (IsActIn p (carried_book p carried) r) (sym (book_of r e)) record {
          rank = refl;
          needs = λ q h. carried_signs p carried r q planned low h ∙ from.needs r q e h;
          written = omega arith;
          sized = λ _. from.sized r e;
          unsigned_yet = λ f. absurd (true≢false f);
          signed = omega arith;
          whole = λ _. refl;
        };
      }
      by (inr e) =
          let free : carried_book p carried r ≡ None = unless (has r carried) (Some (carried_act p r)) None e in
          let counted : unsigned p (carried_book p carried) r ≡ count_of (λ q. not (has q carried)) (needs_at p r) = count_in _ _ (needs_at p r) (λ q h. ap not (carried_signs p carried r q planned low h)) in record {
            state = opened.states r low e ∙ sym (ap (state_of (unsigned p (carried_book p carried) r)) free ∙ counted);
            values = λ k l. opened.values r k low l ∙ unless (has r carried) (code_of p r k) 0 e ∙ sym (ap (λ o. cond (nat_lt k (written_of o)) (code_of p r k) 0) free ∙ unless (nat_lt k 0) (code_of p r k) 0 (le-ltb k 0 (omega arith)));
            act = subst (IsActIn p (carried_book p carried) r) (sym free) tt;
          }

  opening_fits : (j : ℕ) (u : View) → get_elem? (first_view p n carried ∷ []) j ≡ some u → Fits p n (carried_book p carried) (λ _. 0) (λ _. 0) j u
  opening_fits zero u e = subst (Fits p n (carried_book p carried) (λ _. 0) (λ _. 0) 0) (some-injective _ _ e) record {
    plan = λ _. (refl, refl);
    acts = λ r. ap (act_among r) (first_acts p n carried some_seat) ∙ among_carried p r carried;
    numbers = λ k. ap (has k) (first_numbers p n carried) ∙ numbered k n ∙ sym (and-true (nat_lt k n));
    numbers_once = subst AreDistinct (sym (first_numbers p n carried)) (distinct_from 0 n);
    once = λ r. subst (λ as'. acts_for r as' ≤ 1) (sym (first_acts p n carried some_seat)) (once_carried p r carried from.distinct);
    seen = all_has (λ r. IsFilled (carried_book p carried r)) carried (λ r e. subst IsFilled (sym (book_of r e)) refl);
  }
  opening_fits (suc j) u e = absurd (some-ne-none u (sym e))

  pub begins : Lawful words (first_view p n carried ∷ [])
  begins = record {
    plan = p;
    seats = n;
    book = carried_book p carried;
    owner = λ _. 0;
    home = λ _. 0;
    planned = planned;
    long = opened.long;
    inside = λ r above. by r (cases_Bool (has r carried)) above;
    cell = opening_cell;
    owned = λ r a e. omega arith;
    housed = λ k l. omega arith;
    each = opening_fits;
  }
    where
      by : (r : ℕ) → (has r carried ≡ true) ⊎ (has r carried ≡ false) → cells p ≤ r → carried_book p carried r ≡ None
      by r (inl e) above = absurd (let l = from.low r e in omega arith)
      by r (inr e) above = unless (has r carried) (Some (carried_act p r)) None e

-- ---- portions without acts

pub length-empty : (k n : ℕ) → length (empty_from k n) ≡ n
length-empty k zero = refl
length-empty k (suc n) = ap suc (length-empty (suc k) n)

pub empty_at : (k n j : ℕ) (q : Portion) → j < n → get_or (empty_from k n) j q ≡ record { number = k + j; acts = [] }
empty_at k zero j q l = absurd (omega arith)
empty_at k (suc n) zero q l = let e : k ≡ k + 0 = omega arith in ap (λ i. record { number = i; acts = [] }) e
empty_at k (suc n) (suc j) q l = empty_at (suc k) n j q (omega arith) ∙ (let e : suc k + j ≡ k + suc j = omega arith in ap (λ i. record { number = i; acts = [] }) e)
