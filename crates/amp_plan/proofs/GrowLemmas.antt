-- A greater bound keeps ranks, their keys and their needs.
use Rattle.std.proofs.Common.{◌≡◌, ℕ, zero, suc, ◌+◌, ◌-◌, ◌<◌, ◌≤◌, Bool, true, false, List, [], ◌∷◌, ◌++◌, length, map, get_or, refl, sym, ◌∙◌, ap, ap₂, subst, arith, length-append, cond, ◌⊎◌, inl, inr}
use Rattle.amp_plan.proofs.Words.{cases_lt, keep, count_from, each, Key, NeedsComeFirst, Tensors, needs, StandsIn, planned, place_of, no_key, ListsPlanned, PlanLaw, Planning, tensors_of, keys_of, IsGraph, level_keys, AreNamed, has, named_ranks, needs_rank, needed, needs_at}
use Rattle.airy_math.specs.Sums.{below}
use Rattle.airy_math.specs.Levels.{LevelsLaw}
use Rattle.airy_math.specs.NeedsFirst.{NeedsLaw}
use Rattle.airy_math.specs.Ranks.{key_at, RanksLaw}
use Rattle.airy_math.proofs.EachLemmas.{each-count_append}
use Rattle.airy_math.proofs.KeyLemmas.{append-nil}
use Rattle.amp_plan.specs.Plans as plans
use Rattle.amp_plan.specs.Kept.{AreKnown}
use Rattle.amp_plan.specs.Needs.{KeepsRanks}
use Rattle.index_lists.proofs.LevelLemmas.{planned-levels}
use Rattle.amp_plan.proofs.RowLemmas.{keep-below_more}
use Rattle.amp_plan.proofs.NeedLemmas.{named_small}
use Rattle.amp_plan.proofs.GraphLemmas.{keep-row, has-below, has-beyond}

-- the levels above X come behind
pub planned-split : (T : Tensors) (X Y : ℕ) → X ≤ Y → planned T Y ≡ planned T X ++ each (count_from (X + 1) (Y - X)) (level_keys T)
planned-split T X Y h =
    let e : Y ≡ X + (Y - X) = omega arith in
    let s : 1 + X ≡ X + 1 = omega arith in
    ap (planned T) e ∙ planned-levels T (X + (Y - X)) ∙ each-count_append (level_keys T) 1 X (Y - X)
    ∙ ap₂ ◌++◌ (sym (planned-levels T X)) (ap (λ k. each (count_from k (Y - X)) (level_keys T)) s)

planned-longer : (T : Tensors) (X Y : ℕ) → X ≤ Y → length (planned T X) ≤ length (planned T Y)
planned-longer T X Y h = omega (arith, ap length (planned-split T X Y h), length-append (planned T X) (each (count_from (X + 1) (Y - X)) (level_keys T)))

map-stands : (f h : Key → ℕ) (ks : List Key) → ((k : Key) → StandsIn k ks → f k ≡ h k) → map f ks ≡ map h ks
unfolding StandsIn
map-stands f h [] e = refl
map-stands f h (k ∷ ks) e = ap₂ ◌∷◌ (e k (inl refl)) (map-stands f h ks (λ l s. e l (inr s)))

-- no number from m on passes
keep-cut : (p : ℕ → Bool) (m k : ℕ) → ((q : ℕ) → m ≤ q → p q ≡ false) → keep p (below (m + k)) ≡ keep p (below m)
keep-cut p m zero h = let e : m + 0 ≡ m = omega arith in ap (λ n. keep p (below n)) e
keep-cut p m (suc k) h =
    let e : m + suc k ≡ m + k + 1 = omega arith in
    ap (λ n. keep p (below n)) e ∙ keep-below_more p (m + k) ∙ ap (λ b. keep p (below (m + k)) ++ cond b ((m + k) ∷ []) []) (h (m + k) (omega arith))
    ∙ append-nil (keep p (below (m + k))) ∙ keep-cut p m k h

-- a rank that isn't one of the plan's isn't named
unnamed : (T : Tensors) (X r q : ℕ) → ListsPlanned T X → NeedsComeFirst T X (key_at (planned T X) r) → length (planned T X) ≤ q → needs_rank T X r q ≡ false
unnamed T X r q l f h = by (needs_rank T X r q) refl
  where
    by : (b : Bool) → needs_rank T X r q ≡ b → b ≡ false
    by true e = let small : q < length (planned T X) = named_small T X r q l f e in absurd (omega arith)
    by false e = refl

named-needed : (T : Tensors) (X r : ℕ) → ListsPlanned T X → NeedsComeFirst T X (key_at (planned T X) r) → AreNamed T X r (needed T X r)
unfolding needed
named-needed T X r l f = record { row = keep-row (needs_rank T X r) (length (planned T X)); named = λ q. by q (cases_lt q (length (planned T X))) }
  where
    by : (q : ℕ) → (q < length (planned T X)) ⊎ (length (planned T X) ≤ q) → has q (keep (needs_rank T X r) (below (length (planned T X)))) ≡ needs_rank T X r q
    by q (inl h) = has-below (needs_rank T X r) (length (planned T X)) q h
    by q (inr h) = has-beyond (needs_rank T X r) (length (planned T X)) q h ∙ sym (unnamed T X r q l f h)

module _ (plan : PlanLaw) (levels : LevelsLaw) (first : NeedsLaw) (ranks : RanksLaw) (T : Tensors) (X Y r : ℕ) (h : X ≤ Y) (l : r < length (planned T X)) where
  named-kept : named_ranks T Y r ≡ named_ranks T X r
  unfolding named_ranks key_at
  named-kept =
      ap (λ k. map (λ key. place_of key (planned T Y)) (needs T k)) ((levels T X).kept Y h no_key r l)
      ∙ map-stands (λ key. place_of key (planned T Y)) (λ key. place_of key (planned T X)) (needs T (key_at (planned T X) r))
      (λ k s. (ranks T X).kept Y h k ((first T X (key_at (planned T X) r) ((plan T X).only r l)).needs k s).planned)

  pub needed-kept : needed T Y r ≡ needed T X r
  unfolding needed needs_rank
  needed-kept =
      let m = length (planned T X) in
      let e : length (planned T Y) ≡ m + (length (planned T Y) - m) = omega (arith, planned-longer T X Y h) in
      ap (λ l. keep (λ q. has q l) (below (length (planned T Y)))) named-kept
      ∙ ap (λ n. keep (λ q. has q (named_ranks T X r)) (below n)) e
      ∙ keep-cut (λ q. has q (named_ranks T X r)) m (length (planned T Y) - m) (λ q p. unnamed T X r q (plan T X) (first T X (key_at (planned T X) r) ((plan T X).only r l)) p)

  pub named-still : AreNamed T Y r (needed T X r)
  named-still = subst (AreNamed T Y r) needed-kept (named-needed T Y r (plan T Y) (first T Y (key_at (planned T Y) r) ((plan T Y).only r (omega (arith, l, planned-longer T X Y h)))))

pub keeps_ranks : PlanLaw → LevelsLaw → NeedsLaw → RanksLaw → (p : Planning) (Y : ℕ) → p.bound ≤ Y → KeepsRanks p (record { tensors = p.tensors; bound = Y })
unfolding keys_of plans.key_at key_at needs_at tensors_of
keeps_ranks plan levels first ranks p Y h = record {
  fewer = planned-longer (tensors_of p) p.bound Y h;
  keys = λ r l. (levels (tensors_of p) p.bound).kept Y h no_key r l;
  needs = λ r l. needed-kept plan levels first ranks (tensors_of p) p.bound Y r h l;
}

-- the needs of a plan are known to that with a greater bound
pub known_from : (p q : Planning) (Y : ℕ) (down up : List (List ℕ)) (count : ℕ) → IsGraph p down up count → ((r : ℕ) → r < length (keys_of p) → AreNamed (tensors_of p) Y r (needs_at p r)) → q ≡ record { tensors = p.tensors; bound = Y } → AreKnown q down
unfolding tensors_of
known_from p q Y down up count g n e = subst (λ q. AreKnown q down) (sym e) (record { named = λ r h. named r (subst (λ n. r < n) g.down_len h) })
  where
    named : (r : ℕ) → r < length (keys_of p) → AreNamed (tensors_of p) Y r (get_or down r [])
    named r h = subst (AreNamed (tensors_of p) Y r) (sym (g.needs r h)) (n r h)
