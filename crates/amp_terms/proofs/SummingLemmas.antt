-- A pivot sum that is made term by term is the defined one.
use Rattle.std.proofs.Common.{◌≡◌, ℕ, Bool, true, false, List, [], ◌∷◌, ◌++◌, map, Option, Some, None, refl, sym, ap, ap₂, subst, ◌∙◌, arith}
use Rattle.std.specs.Prelude.{cond, min, IfSome}
use Rattle.airy_math.specs.Rational.{ℚ}
use Rattle.airy_math.specs.RationalLaws.{0ℚ}
use Rattle.amp_terms.specs.declared.Outcome.{Outcome}
use Rattle.airy_math.specs.Sums.{each}
use Rattle.airy_math.specs.Keys.{Key, remove}
use Rattle.airy_math.specs.Terms as math
use Rattle.airy_math.specs.Terms.{Term, named, terms, obtained_term, obtained_pivot_sum}
use Rattle.airy_math.specs.Ranks.{place_of}
use Rattle.amp_plan.specs.Plans.{Planning, keys_of, rank_at, tensors_of}
use Rattle.amp_terms.specs.Outcomes.{ranks_named, smaller, has_value, outcome_from, value_or_zero, Value}
use Rattle.airy_math.specs.Obtained.{obtained_from, both_obtained, obtained_sum, ◌⊛◌}
use Rattle.amp_plan.specs.Ranked.{RankedTerm, Once, Joined, Twice, ranked, all_ranked, ranks_of, obtained_at, after_terms, AreAllowed, NameAllowed}
use Rattle.amp_terms.specs.Pivots.{Summing, IsTerm, with_term, all_noted, noted, number_at, least_without, pivot_outcome}
use Rattle.amp_terms.proofs.OutcomeLemmas.{allowed-both}

pub same_summing : {B : Type 0} (a b : Summing B) → a.reader ≡ b.reader → a.base ≡ b.base → a.shown ≡ b.shown → a.blocked ≡ b.blocked → a.sum ≡ b.sum → a ≡ b
same_summing a b p q r s t = λ i. record { reader = p i; base = q i; shown = r i; blocked = s i; sum = t i }

if-some : {A : Type 0} {P Q : A → Type 0} (o : Option A) → ((x : A) → P x → Q x) → IfSome o P → IfSome o Q
if-some None f h = tt
if-some (Some x) f h = f x h

-- ---- terms whose ranks all have Values

shown-value : (shown : ℕ → Outcome) (r : ℕ) (w : ℚ) → shown r ≡ Value w → Some (number_at shown r) ≡ Some w
unfolding number_at value_or_zero
shown-value shown r w e = ap (λ o. Some (value_or_zero o)) e

shown-noted : (shown : ℕ → Outcome) (r : ℕ) (w : ℚ) → shown r ≡ Value w → (b : Option ℕ) → noted b r (shown r) ≡ b
unfolding noted has_value
shown-noted shown r w e b = ap (noted b r) e

pub once_term : (shown : ℕ → Outcome) (m v : ℚ) (r : ℕ) (x : ℚ) (t : Option (Option ℚ)) → shown r ≡ Value x → IfSome t (λ y. y ≡ Some m ⊛ Some v ⊛ Some x) → IfSome t (IsTerm shown (Once m v r))
unfolding obtained_at ranks_of all_noted
once_term shown m v r x t e h = if-some t (λ y p. record { obtained = p ∙ ap (λ z. Some m ⊛ Some v ⊛ z) (sym (shown-value shown r x e)); none_blocks = shown-noted shown r x e }) h

pub joined_term : (shown : ℕ → Outcome) (w : Option ℚ) (r : ℕ) (x : ℚ) (t : Option (Option ℚ)) → shown r ≡ Value x → IfSome t (λ y. y ≡ w ⊛ Some x) → IfSome t (IsTerm shown (Joined w r))
unfolding obtained_at ranks_of all_noted
joined_term shown w r x t e h = if-some t (λ y p. record { obtained = p ∙ ap (λ z. w ⊛ z) (sym (shown-value shown r x e)); none_blocks = shown-noted shown r x e }) h

pub twice_term : (shown : ℕ → Outcome) (w : Option ℚ) (q : ℚ) (l r : ℕ) (x y : ℚ) (t : Option (Option ℚ)) → shown l ≡ Value x → shown r ≡ Value y → IfSome t (λ z. z ≡ w ⊛ Some q ⊛ Some x ⊛ Some y) → IfSome t (IsTerm shown (Twice w q l r))
unfolding obtained_at ranks_of all_noted
twice_term shown w q l r x y t e f h = if-some t
    (λ z p. record { obtained = p ∙ ap₂ (λ a b. w ⊛ Some q ⊛ a ⊛ b) (sym (shown-value shown l x e)) (sym (shown-value shown r y f)); none_blocks = λ b. shown-noted shown r y f (noted b l (shown l)) ∙ shown-noted shown l x e b })
    h

-- such a term is added
pub with_found : {B : Type 0} (old new : Summing B) (t : RankedTerm) (x : Option ℚ) → IsTerm old.shown t x → new.reader ≡ old.reader → new.base ≡ old.base → new.shown ≡ old.shown → new.blocked ≡ old.blocked → new.sum ≡ both_obtained obtained_sum old.sum x → new ≡ with_term old t
unfolding with_term
with_found old new t x h p q r s e = same_summing new (with_term old t) p q r (s ∙ sym (h.none_blocks old.blocked)) (e ∙ ap (both_obtained obtained_sum old.sum) h.obtained)

-- ---- what stays, and what is found

pub after-reader : {B : Type 0} (s : Summing B) (ts : List RankedTerm) → (after_terms with_term s ts).reader ≡ s.reader
unfolding after_terms with_term
after-reader s [] = refl
after-reader s (t ∷ ts) = after-reader (with_term s t) ts

pub after-base : {B : Type 0} (s : Summing B) (ts : List RankedTerm) → (after_terms with_term s ts).base ≡ s.base
unfolding after_terms with_term
after-base s [] = refl
after-base s (t ∷ ts) = after-base (with_term s t) ts

pub after-shown : {B : Type 0} (s : Summing B) (ts : List RankedTerm) → (after_terms with_term s ts).shown ≡ s.shown
unfolding after_terms with_term
after-shown s [] = refl
after-shown s (t ∷ ts) = after-shown (with_term s t) ts

-- the ranks that all terms name
pub all_ranks : List RankedTerm → List ℕ
all_ranks ts = each ts ranks_of

all_noted-append : (shown : ℕ → Outcome) (b : Option ℕ) (rs qs : List ℕ) → all_noted shown b (rs ++ qs) ≡ all_noted shown (all_noted shown b rs) qs
unfolding all_noted
all_noted-append shown b [] qs = refl
all_noted-append shown b (r ∷ rs) qs = all_noted-append shown (noted b r (shown r)) rs qs

pub after-blocked : {B : Type 0} (s : Summing B) (ts : List RankedTerm) → (after_terms with_term s ts).blocked ≡ all_noted s.shown s.blocked (all_ranks ts)
unfolding after_terms with_term all_ranks each all_noted
after-blocked s [] = refl
after-blocked s (t ∷ ts) = after-blocked (with_term s t) ts ∙ sym (all_noted-append s.shown s.blocked (ranks_of t) (each ts ranks_of))

pub after-sum : {B : Type 0} (s : Summing B) (ts : List RankedTerm) → (after_terms with_term s ts).sum ≡ obtained_from s.sum (map (obtained_at (number_at s.shown)) ts)
unfolding after_terms with_term obtained_from
after-sum s [] = refl
after-sum s (t ∷ ts) = after-sum (with_term s t) ts

-- ---- the ranks that are named

ranks-ranked : (plan : List Key) (t : Term) → ranks_of (ranked (λ k. place_of k plan) t) ≡ map (λ k. place_of k plan) (named t)
unfolding ranks_of ranked named
ranks-ranked plan (math.Alone v) = refl
ranks-ranked plan (math.Once m v key) = refl
ranks-ranked plan (math.Joined h v key) = refl
ranks-ranked plan (math.Twice h v q left right) = refl

pub ranks-named : (plan : List Key) (ts : List Term) → all_ranks (all_ranked (λ k. place_of k plan) ts) ≡ ranks_named plan ts
unfolding all_ranks all_ranked ranks_named each
ranks-named plan [] = refl
ranks-named plan (t ∷ ts) = ap₂ ◌++◌ (ranks-ranked plan t) (ranks-named plan ts)

name_allowed : (P : ℕ → Type 0) (ts : List RankedTerm) → AreAllowed P (all_ranks ts) → NameAllowed P ts
unfolding NameAllowed all_ranks each
name_allowed P [] h = tt
name_allowed P (t ∷ ts) h = let k = allowed-both P (ranks_of t) (each ts ranks_of) h in (k.0, name_allowed P ts k.1)

-- what has all ranks named allows all terms
pub allowed-named : (P : ℕ → Type 0) (p : Planning) (ts : List Term) → AreAllowed P (ranks_named (keys_of p) ts) → NameAllowed P (all_ranked (rank_at p) ts)
unfolding rank_at
allowed-named P p ts h = name_allowed P (all_ranked (λ k. place_of k (keys_of p)) ts) (subst (AreAllowed P) (sym (ranks-named (keys_of p) ts)) h)

-- ---- the least rank without a Value

-- the less of two ranks that may be missing
merged : Option ℕ → Option ℕ → Option ℕ
merged None o = o
merged (Some r) o = smaller r o

smaller-merged : (r : ℕ) (b o : Option ℕ) → merged (smaller r b) o ≡ merged b (smaller r o)
unfolding smaller merged
smaller-merged r None o = refl
smaller-merged r (Some s) None = let e : min r s ≡ min s r = omega arith in ap Some e
smaller-merged r (Some s) (Some q) = let e : min (min r s) q ≡ min s (min r q) = omega arith in ap Some e

pub noted-value : (b : Option ℕ) (r : ℕ) (o : Outcome) → has_value o ≡ true → noted b r o ≡ b
unfolding noted
noted-value b r o e = rw e refl

pub noted-none : (b : Option ℕ) (r : ℕ) (o : Outcome) → has_value o ≡ false → noted b r o ≡ smaller r b
unfolding noted
noted-none b r o e = rw e refl

noted-merged : (shown : ℕ → Outcome) (b : Option ℕ) (rs : List ℕ) → all_noted shown b rs ≡ merged b (least_without shown rs)
unfolding all_noted least_without merged smaller
noted-merged shown None [] = refl
noted-merged shown (Some r) [] = refl
noted-merged shown b (r ∷ rs) = noted-merged shown (noted b r (shown r)) rs ∙ by (has_value (shown r)) refl
  where
    by : (t : Bool) → has_value (shown r) ≡ t → merged (noted b r (shown r)) (least_without shown rs) ≡ merged b (cond t (least_without shown rs) (smaller r (least_without shown rs)))
    by true e = ap (λ n. merged n (least_without shown rs)) (noted-value b r (shown r) e)
    by false e = ap (λ n. merged n (least_without shown rs)) (noted-none b r (shown r) e) ∙ smaller-merged r b (least_without shown rs)

pub noted-least : (shown : ℕ → Outcome) (rs : List ℕ) → all_noted shown None rs ≡ least_without shown rs
unfolding merged
noted-least shown rs = noted-merged shown None rs

-- ---- what is obtained

obtained-ranked : (F : ℕ → ℚ) (rank : Key → ℕ) (t : Term) → obtained_at F (ranked rank t) ≡ obtained_term (λ k. F (rank k)) t
unfolding obtained_at ranked obtained_term
obtained-ranked F rank (math.Alone v) = refl
obtained-ranked F rank (math.Once m v key) = refl
obtained-ranked F rank (math.Joined h v key) = refl
obtained-ranked F rank (math.Twice h v q left right) = refl

pub obtained-all : (F : ℕ → ℚ) (rank : Key → ℕ) (ts : List Term) → map (obtained_at F) (all_ranked rank ts) ≡ map (obtained_term (λ k. F (rank k))) ts
unfolding all_ranked
obtained-all F rank [] = refl
obtained-all F rank (t ∷ ts) = ap₂ ◌∷◌ (obtained-ranked F rank t) (obtained-all F rank ts)

-- A sum that took all terms, from nothing, has the outcome of the pivot sum.
pub summed : {B : Type 0} (p : Planning) (key : Key) (i : ℕ) (s : Summing B) → s.blocked ≡ None → s.sum ≡ Some 0ℚ
    → let e = after_terms with_term s (all_ranked (rank_at p) (terms (tensors_of p) i key.g (remove i key.idx))) in
    outcome_from e.blocked e.sum ≡ pivot_outcome (tensors_of p) (keys_of p) s.shown key i
unfolding pivot_outcome obtained_pivot_sum rank_at
summed p key i s b z =
    let ts = terms (tensors_of p) i key.g (remove i key.idx) in
    let rank = λ (k : Key). place_of k (keys_of p) in
    let rs = all_ranked rank ts in
    ap₂ outcome_from
    (after-blocked s rs ∙ ap₂ (all_noted s.shown) b (ranks-named (keys_of p) ts) ∙ noted-least s.shown (ranks_named (keys_of p) ts))
    (after-sum s rs ∙ ap₂ obtained_from z (obtained-all (number_at s.shown) rank ts))
