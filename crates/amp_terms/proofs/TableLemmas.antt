-- The least rank without a Value, found from left to right.
use Rattle.std.proofs.Common.{◌≡◌, ℕ, suc, zero, ◌+◌, ◌<◌, ◌≤◌, List, [], ◌∷◌, true, false, length, drop, get_or, refl, sym, ap, ◌∙◌, arith, Option, Some, None, IfSome, map, replicate}
use Rattle.std.proofs.lemmas.List.{at_drop_more, at_drop_all}
use Rattle.airy_math.specs.Rational.{ℚ}
use Rattle.amp_terms.specs.declared.Outcome.{Outcome}
use Rattle.amp_terms.specs.declared.Outcome.TheVariants.{Value, Over, Blocked}
use Rattle.std.specs.Option.{unwrap_or}
use Rattle.airy_math.specs.RationalLaws.{0ℚ}
use Rattle.amp_terms.specs.Outcomes.{has_value, value_or_zero}
use Rattle.amp_terms.specs.Tables.{first_without, next_rank, holds_value, value_of, value_of_cell}

-- a rank that was found behind the first i
unfoldable pub found_behind : ℕ → Option ℕ → Option ℕ
found_behind i None = None
found_behind i (Some r) = Some (i + r)

behind-next : (i : ℕ) (o : Option ℕ) → found_behind i (next_rank o) ≡ found_behind (i + 1) o
unfolding found_behind next_rank
behind-next i None = refl
behind-next i (Some r) = let e : i + suc r ≡ i + 1 + r = omega arith in ap Some e

pub found-at_start : (o : Option ℕ) → found_behind 0 o ≡ o
unfolding found_behind
found-at_start None = refl
found-at_start (Some r) = let e : 0 + r ≡ r = omega arith in ap Some e

passed : (c : Option Outcome) (cells : List (Option Outcome)) → holds_value c ≡ true → first_without (c ∷ cells) ≡ next_rank (first_without cells)
unfolding first_without
passed None cells h = cc
passed (Some (Value v)) cells h = refl
passed (Some Over) cells h = cc
passed (Some (Blocked r)) cells h = cc

stopped : (c : Option Outcome) (cells : List (Option Outcome)) → holds_value c ≡ false → first_without (c ∷ cells) ≡ Some 0
unfolding first_without
stopped None cells h = refl
stopped (Some (Value v)) cells h = cc
stopped (Some Over) cells h = refl
stopped (Some (Blocked r)) cells h = refl

at_cell : (cells : List (Option Outcome)) (i : ℕ) → i < length cells → first_without (drop i cells) ≡ first_without (get_or cells i None ∷ drop (i + 1) cells)
at_cell cells i h = at_drop_more first_without cells i None h

pub first-passed : (cells : List (Option Outcome)) (i : ℕ) → i < length cells → holds_value (get_or cells i None) ≡ true → found_behind i (first_without (drop i cells)) ≡ found_behind (i + 1) (first_without (drop (i + 1) cells))
first-passed cells i h t =
    ap (found_behind i) (at_cell cells i h ∙ passed (get_or cells i None) (drop (i + 1) cells) t) ∙ behind-next i (first_without (drop (i + 1) cells))

pub first-here : (cells : List (Option Outcome)) (i : ℕ) → i < length cells → holds_value (get_or cells i None) ≡ false → found_behind i (first_without (drop i cells)) ≡ Some i
unfolding found_behind
first-here cells i h t =
    ap (found_behind i) (at_cell cells i h ∙ stopped (get_or cells i None) (drop (i + 1) cells) t) ∙ (let s : i + 0 ≡ i = omega arith in ap Some s)

pub first-end : (cells : List (Option Outcome)) (i : ℕ) → length cells ≤ i → found_behind i (first_without (drop i cells)) ≡ None
unfolding first_without found_behind
first-end cells i h = ap (found_behind i) (at_drop_all first_without cells i h)

-- ---- what a cell is shown with

pub shown-value : (c : Option Outcome) → value_of (unwrap_or c Over) ≡ value_of_cell c
unfolding value_of value_of_cell
shown-value None = refl
shown-value (Some o) = refl

pub shown-whether : (c : Option Outcome) → has_value (unwrap_or c Over) ≡ holds_value c
unfolding has_value
shown-whether None = refl
shown-whether (Some (Value v)) = refl
shown-whether (Some Over) = refl
shown-whether (Some (Blocked r)) = refl

pub shown-word : (c : Option Outcome) (o : Option ℚ) → IfSome o (λ w. c ≡ Some (Value w)) → IfSome o (λ w. unwrap_or c Over ≡ Value w)
shown-word c None h = tt
shown-word c (Some w) h = ap (λ d. unwrap_or d Over) h

-- the number of a Value, and 0 of any other outcome
pub of_value : (o : Outcome) → has_value o ≡ true → value_of o ≡ Some (value_or_zero o)
unfolding value_of has_value value_or_zero
of_value (Value v) h = refl
of_value Over h = cc
of_value (Blocked r) h = cc

pub of_none : (o : Outcome) → has_value o ≡ false → value_or_zero o ≡ 0ℚ
unfolding has_value value_or_zero
of_none (Value v) h = cc
of_none Over h = refl
of_none (Blocked r) h = refl

pub has_some : (o : Outcome) (v : ℚ) → o ≡ Value v → true ≡ has_value o
unfolding has_value
has_some o v e = ap has_value (sym e)

pub none_has : (o : Outcome) → ((v : ℚ) → o ≡ Value v → ⊥) → false ≡ has_value o
unfolding has_value
none_has (Value v) d = absurd (d v refl)
none_has Over d = refl
none_has (Blocked r) d = refl

-- ---- cells

pub map-replicate : {A B : Type 0} (f : A → B) (n : ℕ) (x : A) → map f (replicate n x) ≡ replicate n (f x)
map-replicate f zero x = refl
map-replicate f (suc n) x = ap (λ t. f x ∷ t) (map-replicate f n x)

-- where no rank is the first without a Value, each has one
pub values_there : (os : List Outcome) → first_without (map Some os) ≡ None → (r : ℕ) → r < length os → (w : ℚ) × (get_or os r Over ≡ Value w)
unfolding first_without next_rank
values_there [] e r h = absurd (omega arith)
values_there (Value w ∷ os) e zero h = (w, refl)
values_there (Value w ∷ os) e (suc r) h = values_there os (behind (first_without (map Some os)) e) r (omega arith)
  where
    behind : (o : Option ℕ) → next_rank o ≡ None → o ≡ None
    behind None e = refl
    behind (Some r) e = cc
values_there (Over ∷ os) e r h = cc
values_there (Blocked q ∷ os) e r h = cc
