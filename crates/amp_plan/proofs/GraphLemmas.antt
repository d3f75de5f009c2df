-- Needs and dependents gathered rank by rank.
use Rattle.std.proofs.Common.{◌≡◌, ℕ, zero, suc, ◌+◌, ◌-◌, ◌<◌, ◌≤◌, Bool, true, false, ◌||◌, List, [], ◌∷◌, length, map, get_or, refl, sym, ◌∙◌, ap, subst, arith, Option, Some, None, option_map, eqb, ltb, ◌⊎◌, inl, inr, eq-eqb, ne_eqb, lt-ltb, le-ltb}
use Rattle.amp_plan.proofs.Words.{cases_eq, cases_lt, keep, count_from, total, Tensors, planned, Planning, tensors_of, keys_of, has, needs_rank, needed, resting, need_counts, first_past, needs_at, limit_of, PassesNeeds, AreDistinct, IsRow, AreTurned, standing, Marks, AreNamed, IsGraph}
use Rattle.airy_math.specs.Sums.{below}
use Rattle.airy_math.specs.Ranks.{key_at}
use Rattle.amp_plan.specs.Needs.{edges_of, dependents_at}
use Rattle.amp_plan.specs.Kept.{AreDependents, AreCollected, IsNamedNext}
use Rattle.amp_plan.proofs.LimitLemmas.{limit-within, limit-needs}
use Rattle.airy_math.proofs.SameNumbers.{clash}

-- ---- numbers that pass a test

-- none of them is outside
has-outside : (p : ℕ → Bool) (k n q : ℕ) → (q < k) ⊎ (k + n ≤ q) → has q (keep p (count_from k n)) ≡ false
unfolding has keep count_from
has-outside p k zero q h = refl
has-outside p k (suc n) q h = by (p k) (has-outside p (suc k) n q (further h))
  where
    further : (q < k) ⊎ (k + suc n ≤ q) → (q < suc k) ⊎ (suc k + n ≤ q)
    further (inl h) = inl (omega arith)
    further (inr h) = inr (omega arith)

    apart : (q < k) ⊎ (k + suc n ≤ q) → q ≡ k → ⊥
    apart (inl h) e = omega arith
    apart (inr h) e = omega arith

    by : (t : Bool) → has q (keep p (count_from (suc k) n)) ≡ false → has q (elim t [ true ↦ k ∷ keep p (count_from (suc k) n) | false ↦ keep p (count_from (suc k) n) ]) ≡ false
    by true r = ap (λ b. b || has q (keep p (count_from (suc k) n))) (ne_eqb q k (apart h)) ∙ r
    by false r = r

has-kept : (p : ℕ → Bool) (k n q : ℕ) → k ≤ q → q < k + n → has q (keep p (count_from k n)) ≡ p q
unfolding has keep count_from
has-kept p k zero q h l = absurd (omega arith)
has-kept p k (suc n) q h l = by (cases_eq q k) (p k) refl (has-kept p (suc k) n q)
  where
    by : (q ≡ k) ⊎ (q ≡ k → ⊥) → (t : Bool) → p k ≡ t → (suc k ≤ q → q < suc k + n → has q (keep p (count_from (suc k) n)) ≡ p q) → has q (elim t [ true ↦ k ∷ keep p (count_from (suc k) n) | false ↦ keep p (count_from (suc k) n) ]) ≡ p q
    by (inl e) true f r = ap (λ b. b || has q (keep p (count_from (suc k) n))) (eq-eqb q k e) ∙ sym (ap p e ∙ f)
    by (inl e) false f r = has-outside p (suc k) n q (inl (omega arith)) ∙ sym (ap p e ∙ f)
    by (inr d) true f r = ap (λ b. b || has q (keep p (count_from (suc k) n))) (ne_eqb q k d) ∙ r (omega arith) (omega arith)
    by (inr d) false f r = r (omega arith) (omega arith)

pub has-below : (p : ℕ → Bool) (n q : ℕ) → q < n → has q (keep p (below n)) ≡ p q
unfolding below
has-below p n q h = has-kept p 0 n q (omega arith) (omega arith)

pub has-beyond : (p : ℕ → Bool) (n q : ℕ) → n ≤ q → has q (keep p (below n)) ≡ false
unfolding below
has-beyond p n q h = has-outside p 0 n q (inr (omega arith))

distinct-kept : (p : ℕ → Bool) (k n : ℕ) → AreDistinct (keep p (count_from k n))
unfolding AreDistinct keep count_from
distinct-kept p k zero = tt
distinct-kept p k (suc n) = by (p k) (distinct-kept p (suc k) n)
  where
    by : (t : Bool) → AreDistinct (keep p (count_from (suc k) n)) → AreDistinct (elim t [ true ↦ k ∷ keep p (count_from (suc k) n) | false ↦ keep p (count_from (suc k) n) ])
    by true d = (has-outside p (suc k) n k (inl (omega arith)), d)
    by false d = d

pub keep-row : (p : ℕ → Bool) (n : ℕ) → IsRow n (keep p (below n))
unfolding below
keep-row p n = record { distinct = distinct-kept p 0 n; small = λ q t. small q t (cases_lt q n) }
  where
    small : (q : ℕ) → has q (keep p (count_from 0 n)) ≡ true → (q < n) ⊎ (n ≤ q) → q < n
    small q t (inl h) = h
    small q t (inr h) = absurd (clash (has q (keep p (count_from 0 n))) t (has-outside p 0 n q (inr (omega arith))))

-- only what the test says of the numbers themselves counts
keep-same_from : (p q : ℕ → Bool) (k n : ℕ) → ((i : ℕ) → k ≤ i → i < k + n → p i ≡ q i) → keep p (count_from k n) ≡ keep q (count_from k n)
unfolding keep count_from
keep-same_from p q k zero h = refl
keep-same_from p q k (suc n) h = by (p k) (q k) (h k (omega arith) (omega arith)) (keep-same_from p q (suc k) n (λ i a b. h i (omega arith) (omega arith)))
  where
    by : (t u : Bool) → t ≡ u → keep p (count_from (suc k) n) ≡ keep q (count_from (suc k) n)
        → ◌≡◌ {A = List ℕ} (elim t [ true ↦ k ∷ keep p (count_from (suc k) n) | false ↦ keep p (count_from (suc k) n) ]) (elim u [ true ↦ k ∷ keep q (count_from (suc k) n) | false ↦ keep q (count_from (suc k) n) ])
    by true true e r = ap (λ l. k ∷ l) r
    by false false e r = r
    by true false e r = cc
    by false true e r = cc

pub keep-same : (p q : ℕ → Bool) (n : ℕ) → ((i : ℕ) → i < n → p i ≡ q i) → keep p (below n) ≡ keep q (below n)
unfolding below
keep-same p q n h = keep-same_from p q 0 n (λ i a b. h i (omega arith))

-- one number more passes
length-one_more : (p : ℕ → Bool) (x k n : ℕ) → k ≤ x → x < k + n → p x ≡ false → length (keep (λ q. eqb q x || p q) (count_from k n)) ≡ suc (length (keep p (count_from k n)))
unfolding keep count_from
length-one_more p x k zero h l e = absurd (omega arith)
length-one_more p x k (suc n) h l e = by (cases_eq k x) (length-one_more p x (suc k) n)
  where
    others : (i : ℕ) → suc k ≤ i → i < suc k + n → k ≡ x → (eqb i x || p i) ≡ p i
    others i a b u = ap (λ b. b || p i) (ne_eqb i x (λ v. omega (arith, u, v)))

    at : (t : Bool) → length (keep (λ q. eqb q x || p q) (count_from (suc k) n)) ≡ suc (length (keep p (count_from (suc k) n)))
        → length {A = ℕ} (elim t [ true ↦ k ∷ keep (λ q. eqb q x || p q) (count_from (suc k) n) | false ↦ keep (λ q. eqb q x || p q) (count_from (suc k) n) ]) ≡ suc (length {A = ℕ} (elim t [ true ↦ k ∷ keep p (count_from (suc k) n) | false ↦ keep p (count_from (suc k) n) ]))
    at true r = ap suc r
    at false r = r

    by : (k ≡ x) ⊎ (k ≡ x → ⊥) → (suc k ≤ x → x < suc k + n → p x ≡ false → length (keep (λ q. eqb q x || p q) (count_from (suc k) n)) ≡ suc (length (keep p (count_from (suc k) n))))
        → length {A = ℕ} (elim (eqb k x || p k) [ true ↦ k ∷ keep (λ q. eqb q x || p q) (count_from (suc k) n) | false ↦ keep (λ q. eqb q x || p q) (count_from (suc k) n) ]) ≡ suc (length {A = ℕ} (elim (p k) [ true ↦ k ∷ keep p (count_from (suc k) n) | false ↦ keep p (count_from (suc k) n) ]))
    by (inl u) r = let here : eqb k x ≡ true = eq-eqb k x u in let none : p k ≡ false = ap p u ∙ e in
        rw (here, none) (ap suc (ap length (keep-same_from (λ q. eqb q x || p q) p (suc k) n (λ i a b. others i a b u))))
    by (inr d) r = let there : eqb k x ≡ false = ne_eqb k x d in
        rw there (at (p k) (r (omega arith) (omega arith) e))

none-kept : (k n : ℕ) → length (keep (λ q. false) (count_from k n)) ≡ 0
unfolding keep count_from
none-kept k zero = refl
none-kept k (suc n) = none-kept (suc k) n

-- a row has as many numbers as there are numbers that it has
pub length-row : (n : ℕ) (row : List ℕ) → IsRow n row → length (keep (λ q. has q row) (below n)) ≡ length row
unfolding below has AreDistinct
length-row n [] w = none-kept 0 n
length-row n (x ∷ row) w =
    let small : x < n = w.small x (ap (λ b. b || has x row) (eq-eqb x x refl)) in
    length-one_more (λ q. has q row) x 0 n (omega arith) (omega arith) w.distinct.0
    ∙ ap suc (length-row n row (record { distinct = w.distinct.1; small = λ q t. w.small q (behind (eqb q x) (has q row) t) }))
  where
    behind : (b c : Bool) → c ≡ true → (b || c) ≡ true
    behind true c e = refl
    behind false c e = e

-- ---- the numbers of needs, from a rank on

pub counts_from : Tensors → ℕ → ℕ → List ℕ
counts_from T X r = map (λ i. length (needed T X i)) (count_from r (length (planned T X) - r))

counts-all : (T : Tensors) (X : ℕ) → counts_from T X 0 ≡ need_counts T X
unfolding counts_from need_counts below
counts-all T X = let e : length (planned T X) - 0 ≡ length (planned T X) = omega arith in ap (λ n. map (λ i. length (needed T X i)) (count_from 0 n)) e

counts-next : (T : Tensors) (X r : ℕ) → r < length (planned T X) → counts_from T X r ≡ length (needed T X r) ∷ counts_from T X (r + 1)
unfolding counts_from count_from
counts-next T X r h = let e : length (planned T X) - r ≡ suc (length (planned T X) - (r + 1)) = omega arith in let s : suc r ≡ r + 1 = omega arith in rw (e, s) refl

counts-end : (T : Tensors) (X r : ℕ) → length (planned T X) ≤ r → counts_from T X r ≡ []
unfolding counts_from count_from
counts-end T X r h = let e : length (planned T X) - r ≡ 0 = omega arith in rw e refl

-- ---- the loop over the ranks

pub record IsGathered (p : Planning) (r : ℕ) (rows : List (List ℕ)) (marks : Marks) (count : ℕ) : Type 0 where
  pub len : length rows ≡ r
  pub named : (i : ℕ) → i < r → AreNamed (tensors_of p) p.bound i (get_or rows i [])
  pub size : marks.size ≡ length (keys_of p)
  pub stamp : marks.stamp ≤ r + 1
  pub edges : count + total (counts_from (tensors_of p) p.bound r) ≡ edges_of p
  pub few : count ≤ 4000000
  pub past : first_past 4000000 (need_counts (tensors_of p) p.bound) ≡ option_map (λ i. i + r) (first_past (4000000 - count) (counts_from (tensors_of p) p.bound r))

-- the number of needs is the length of the row
pub length-needed : (T : Tensors) (X r : ℕ) (row : List ℕ) → AreNamed T X r row → length (needed T X r) ≡ length row
unfolding needed
length-needed T X r row a = ap length (keep-same (λ q. needs_rank T X r q) (λ q. has q row) (length (planned T X)) (λ q h. sym (a.named q))) ∙ length-row (length (planned T X)) row a.row

shift : (o : Option ℕ) (r : ℕ) → option_map (λ i. i + r) (option_map (λ i. suc i) o) ≡ option_map (λ i. i + (r + 1)) o
shift None r = refl
shift (Some i) r = ap Some (omega arith)

past-next : (m c r : ℕ) (cs : List ℕ) → c ≤ m → option_map (λ i. i + r) (first_past m (c ∷ cs)) ≡ option_map (λ i. i + (r + 1)) (first_past (m - c) cs)
unfolding first_past
past-next m c r cs h = let e : ltb m c ≡ false = le-ltb m c h in rw e (shift (first_past (m - c) cs) r)

past-here : (m c r : ℕ) (cs : List ℕ) → m < c → option_map (λ i. i + r) (first_past m (c ∷ cs)) ≡ Some r
unfolding first_past
past-here m c r cs h = let e : ltb m c ≡ true = lt-ltb m c h in rw e (ap Some (omega arith))

pub gathered-none : (p : Planning) (rows : List (List ℕ)) (marks : Marks) → rows ≡ [] → marks.size ≡ length (keys_of p) → marks.stamp ≡ 1 → IsGathered p 0 rows marks 0
unfolding edges_of
gathered-none p rows marks e s t = record {
  len = ap length e;
  named = λ i h. absurd (omega arith);
  size = s;
  stamp = omega arith;
  edges = omega (arith, ap total (counts-all (tensors_of p) p.bound));
  few = omega arith;
  past = same (first_past 4000000 (need_counts (tensors_of p) p.bound)) ∙ ap (λ l. option_map (λ i. i + 0) (first_past (4000000 - 0) l)) (sym (counts-all (tensors_of p) p.bound));
}
  where
    same : (o : Option ℕ) → o ≡ option_map (λ i. i + 0) o
    same None = refl
    same (Some i) = ap Some (omega arith)

-- the needs that were put behind the others
pub named-next : (p : Planning) (r : ℕ) (rows next : List (List ℕ)) → length rows ≡ r → IsNamedNext p r rows next → AreNamed (tensors_of p) p.bound r (get_or next r [])
named-next p r rows next l n = subst (AreNamed (tensors_of p) p.bound r) (sym (ap (λ i. get_or next i []) (sym l) ∙ n.longer.last)) n.named

pub gathered-more : (p : Planning) (r : ℕ) (rows next : List (List ℕ)) (marks marks' : Marks) (count : ℕ) → IsGathered p r rows marks count → r < length (keys_of p) → IsNamedNext p r rows next
    → marks'.size ≡ marks.size → marks'.stamp ≤ r + 2 → count + length (get_or next r []) ≤ 4000000 → IsGathered p (r + 1) next marks' (count + length (get_or next r []))
unfolding keys_of total
gathered-more p r rows next marks marks' count g h a s t few =
    let T = tensors_of p in
    let X = p.bound in
    let n : length (needed T X r) ≡ length (get_or next r []) = length-needed T X r (get_or next r []) (named-next p r rows next g.len a) in
    let cs : counts_from T X r ≡ length (needed T X r) ∷ counts_from T X (r + 1) = counts-next T X r h in
    record {
      len = a.longer.len ∙ ap (λ n. n + 1) g.len;
      named = λ i l. named i l (cases_eq i r);
      size = s ∙ g.size;
      stamp = omega arith;
      edges = omega (arith, g.edges, ap total cs, n);
      few = few;
      past = g.past ∙ ap (λ l. option_map (λ i. i + r) (first_past (4000000 - count) l)) cs
          ∙ past-next (4000000 - count) (length (needed T X r)) r (counts_from T X (r + 1)) (omega (arith, n))
          ∙ ap (λ m. option_map (λ i. i + (r + 1)) (first_past m (counts_from T X (r + 1)))) (omega (arith, n));
    }
  where
    named : (i : ℕ) → i < r + 1 → (i ≡ r) ⊎ (i ≡ r → ⊥) → AreNamed (tensors_of p) p.bound i (get_or next i [])
    named i l (inl e) = subst (λ j. AreNamed (tensors_of p) p.bound j (get_or next j [])) (sym e) (named-next p r rows next g.len a)
    named i l (inr d) = subst (AreNamed (tensors_of p) p.bound i) (sym (a.longer.before i (omega (arith, g.len)))) (g.named i (omega arith))

pub gathered-past : (p : Planning) (r : ℕ) (rows next : List (List ℕ)) (marks : Marks) (count : ℕ) → 0 < p.bound → p.bound ≤ 24 → length (keys_of p) ≤ 200000
    → IsGathered p r rows marks count → r < length (keys_of p) → IsNamedNext p r rows next → 4000000 < count + length (get_or next r []) → limit_of p ≡ PassesNeeds (key_at (keys_of p) r)
unfolding keys_of
gathered-past p r rows next marks count some most small g h a many =
    let T = tensors_of p in
    let X = p.bound in
    let n : length (needed T X r) ≡ length (get_or next r []) = length-needed T X r (get_or next r []) (named-next p r rows next g.len a) in
    limit-needs p r some most small
    (g.past ∙ ap (λ l. option_map (λ i. i + r) (first_past (4000000 - count) l)) (counts-next T X r h) ∙ past-here (4000000 - count) (length (needed T X r)) r (counts_from T X (r + 1)) (omega (arith, n)))

pub gathered-all : (p : Planning) (r : ℕ) (rows : List (List ℕ)) (marks : Marks) (count : ℕ) → 0 < p.bound → p.bound ≤ 24 → length (keys_of p) ≤ 200000 → IsGathered p r rows marks count → r ≡ length (keys_of p) → AreCollected p rows count
unfolding keys_of total first_past
gathered-all p r rows marks count some most small g e =
    let T = tensors_of p in
    let X = p.bound in
    let none : counts_from T X r ≡ [] = counts-end T X r (omega arith) in
    record {
      len = g.len ∙ e;
      named = λ i h. g.named i (omega arith);
      edges = omega (arith, g.edges, ap total none);
      within = limit-within p some most small (g.past ∙ ap (λ l. option_map (λ i. i + r) (first_past (4000000 - count) l)) none);
    }

-- ---- the dependents from what was collected, and the needs from the dependents

pub collected-rows : (p : Planning) (rows : List (List ℕ)) (count r : ℕ) → AreCollected p rows count → r < length (keys_of p) → IsRow (length (keys_of p)) (get_or rows r [])
unfolding keys_of
collected-rows p rows count r a h = (a.named r h).row

pub dependents_from : (p : Planning) (rows turns : List (List ℕ)) (count : ℕ) → AreCollected p rows count → AreTurned (length (keys_of p)) rows turns → AreDependents p turns count
unfolding dependents_at resting keys_of standing
dependents_from p rows turns count a t = record {
  len = t.len;
  row = λ q h. t.row q h ∙ ap (λ n. keep (λ r. has q (get_or rows r [])) (below n)) a.len
      ∙ keep-same (λ r. has q (get_or rows r [])) (λ r. needs_rank (tensors_of p) p.bound r q) (length (keys_of p)) (λ r l. (a.named r l).named q);
  edges = a.edges;
  within = a.within;
}

pub dependents-rows : (p : Planning) (rows : List (List ℕ)) (count r : ℕ) → AreDependents p rows count → r < length (keys_of p) → IsRow (length (keys_of p)) (get_or rows r [])
unfolding dependents_at resting keys_of
dependents-rows p rows count r d h = subst (IsRow (length (keys_of p))) (sym (d.row r h)) (keep-row (λ i. needs_rank (tensors_of p) p.bound i r) (length (keys_of p)))

pub graph_from : (p : Planning) (rows turns : List (List ℕ)) (count : ℕ) → AreDependents p rows count → AreTurned (length (keys_of p)) rows turns → IsGraph p turns rows count
unfolding dependents_at resting keys_of needs_at needed standing
graph_from p rows turns count d t = record {
  down_len = t.len;
  needs = λ r h. t.row r h ∙ ap (λ n. keep (λ q. has r (get_or rows q [])) (below n)) d.len
      ∙ keep-same (λ q. has r (get_or rows q [])) (λ q. needs_rank T X r q) (length (keys_of p)) (λ q l. ap (has r) (d.row q l) ∙ has-below (λ i. needs_rank T X i q) (length (keys_of p)) r h);
  up_len = d.len;
  dependents = d.row;
  edges = d.edges;
  within = d.within;
}
  where
    T : Tensors
    T = tensors_of p

    X : ℕ
    X = p.bound
