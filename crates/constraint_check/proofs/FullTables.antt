-- Tables in which every rank is filled, and their Values.
use Rattle.std.proofs.Common.{◌≡◌, ℕ, zero, suc, ◌<◌, true, false, List, [], ◌∷◌, map, length, get_or, Option, Some, None, refl, sym, ap, subst, ◌∙◌, arith}
use Rattle.amp_plan.specs.Plans.{Planning, rank_at}
use Rattle.amp_terms.specs.declared.Outcome.{Outcome}
use Rattle.amp_terms.specs.declared.Outcome.TheVariants.{Value, Over, Blocked}
use Rattle.amp_terms.specs.Outcomes.{has_value, value_or_zero, value_in}
use Rattle.amp_terms.specs.Pivots.{number_at}
use Rattle.amp_terms.specs.Tables.{first_without, next_rank, full_table, shown_in}
use Rattle.series_law.specs.First.{HaveValues}
use Rattle.series_law.proofs.TableRanks.{all_values}
use Rattle.constraint_check.specs.Ends.{outcomes_of, values_of}
use Rattle.constraint_check.specs.Pivots.{HoldsValues, ShowsValues, numbers_shown}

pub length-map_some : (os : List Outcome) → length (map Some os) ≡ length os
length-map_some [] = refl
length-map_some (o ∷ os) = ap suc (length-map_some os)

-- what a full table shows at a rank
shown_in-full : (os : List Outcome) (r : ℕ) → shown_in (map Some os) r ≡ get_or os r Over
unfolding shown_in
shown_in-full [] r = refl
shown_in-full (o ∷ os) zero = refl
shown_in-full (o ∷ os) (suc r) = shown_in-full os r

pub filled_at : (os : List Outcome) (r : ℕ) → r < length os → get_or (map Some os) r None ≡ Some (get_or os r Over)
filled_at [] r h = absurd (omega arith)
filled_at (o ∷ os) zero h = refl
filled_at (o ∷ os) (suc r) h = filled_at os r (omega arith)

pub have_values : (p : Planning) (table : List (Option Outcome)) → HoldsValues p table → HaveValues (outcomes_of p) (length (outcomes_of p))
unfolding full_table outcomes_of HaveValues
have_values p table t = all_values (outcomes_of p) (sym (ap first_without t.outcomes) ∙ t.values)

-- A table of Values shows each rank's, and they are those of the plan's keys.
pub record ShowsPlan (p : Planning) (table : List (Option Outcome)) : Type 0 where
  pub shows : ShowsValues p (λ r. r < length table) (shown_in table)
  pub numbers : numbers_shown p (shown_in table) ≡ values_of p

pub shows_plan : (p : Planning) (table : List (Option Outcome)) → HoldsValues p table → ShowsPlan p table
unfolding full_table outcomes_of values_of value_in numbers_shown number_at rank_at HaveValues
shows_plan p table t = record {
  shows = record { within = λ r h. omega (arith, h, t.long); values = λ r h. ap has_value (shown r) ∙ have_values p table t r (omega (arith, h, t.long, long)) };
  numbers = λ j key. value_or_zero (shown (rank_at p key) j);
}
  where
    shown : (r : ℕ) → shown_in table r ≡ get_or (outcomes_of p) r Over
    shown r = ap (λ t. shown_in t r) t.outcomes ∙ shown_in-full (outcomes_of p) r

    long : length table ≡ length (outcomes_of p)
    long = ap length t.outcomes ∙ length-map_some (outcomes_of p)

-- the least rank without a Value: it has none, and each below it has one
pub record IsFirstWithout (os : List Outcome) (r : ℕ) : Type 0 where
  pub within : r < length os
  pub none : has_value (get_or os r Over) ≡ false
  pub before : HaveValues os r

pub first_is : (os : List Outcome) (r : ℕ) → first_without (map Some os) ≡ Some r → IsFirstWithout os r
unfolding first_without has_value next_rank HaveValues
first_is [] r e = cc
first_is (Value v ∷ os) r e = by (first_without (map Some os)) e (first_is os)
  where
    later : (s : ℕ) → IsFirstWithout os s → (q : ℕ) → q < suc s → has_value (get_or (Value v ∷ os) q Over) ≡ true
    later s f zero h = refl
    later s f (suc q) h = f.before q (omega arith)

    by : (o : Option ℕ) → next_rank o ≡ Some r → ((s : ℕ) → o ≡ Some s → IsFirstWithout os s) → IsFirstWithout (Value v ∷ os) r
    by None e h = cc
    by (Some s) e h = let k : suc s ≡ r = cc in let f = h s refl in subst (IsFirstWithout (Value v ∷ os)) k (record { within = omega (arith, f.within); none = f.none; before = later s f })
first_is (Over ∷ os) r e = let k : 0 ≡ r = cc in subst (IsFirstWithout (Over ∷ os)) k (record { within = omega arith; none = refl; before = λ s l. absurd (omega (arith, l)) })
first_is (Blocked q ∷ os) r e = let k : 0 ≡ r = cc in subst (IsFirstWithout (Blocked q ∷ os)) k (record { within = omega arith; none = refl; before = λ s l. absurd (omega (arith, l)) })
