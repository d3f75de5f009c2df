-- What a table shows at a key is what every solution has there.
use Rattle.std.proofs.Common.{ℕ, ◌≡◌, refl, sym, ap, subst, ◌∙◌, true, List, ◌⊎◌, inl, inr, get_or, Option, Some, None, IfSome}
use Rattle.airy_math.specs.Rational.{ℚ}
use Rattle.airy_math.specs.RationalLaws.{0ℚ}
use Rattle.airy_math.specs.Keys.{Key}
use Rattle.airy_index.specs.Fields.{IsKey}
use Rattle.sparse_tensor.specs.Entries.{Entries, looked_up}
use Rattle.sparse_tensor.specs.Grades.{AreSound}
use Rattle.amp_plan.specs.Plans.{Planning, tensors_of, keys_of, rank_at}
use Rattle.amp_plan.specs.Places.{place_in, are_below}
use Rattle.amp_plan.specs.declared.place.Place.{Place}
use Rattle.amp_plan.specs.declared.place.Place.TheVariants.{At, Zero, Beyond, BadIndex}
use Rattle.amp_plan.proofs.PlaceLemmas.{at_rank, uncovered, sorted_below}
use Rattle.amp_terms.specs.declared.Outcome.{Outcome}
use Rattle.amp_terms.specs.declared.Outcome.TheVariants.{Value, Over, Blocked}
use Rattle.amp_terms.specs.Outcomes.{outcomes}
use Rattle.amp_terms.specs.Tables.{value_at, value_of_cell, value_of}
use Rattle.series_law.specs.Uniqueness.{UniquenessLaw, Uniqueness}
use Rattle.series_law.specs.Amplitudes.{HoldsOutcomes, IsAmplitude, shown_at}

-- ---- what stands there

pub shown_value : (c : Option Outcome) (v : ℚ) → value_of_cell c ≡ Some v → c ≡ Some (Value v)
unfolding value_of_cell value_of
shown_value None v e = cc
shown_value (Some (Value w)) v e = cc
shown_value (Some Over) v e = cc
shown_value (Some (Blocked q)) v e = cc

if_some : {A : Type 0} (P : A → Type 0) (o : Option A) → ((v : A) → o ≡ Some v → P v) → IfSome o P
if_some P None h = tt
if_some P (Some v) h = h v refl

pub nowhere : (table : List (Option Outcome)) (place : Place) → (place ≡ Beyond) ⊎ (place ≡ BadIndex) → None ≡ shown_at table place
unfolding shown_at
nowhere table place (inl e) = ap (shown_at table) (sym e)
nowhere table place (inr e) = ap (shown_at table) (sym e)

-- ---- what every solution has there

module _ (p : Planning) (key : Key) (law : Uniqueness (tensors_of p) p.bound (outcomes (tensors_of p) p.bound)) where
  pub value_unique : (table : List (Option Outcome)) → HoldsOutcomes p table → (r : ℕ) → place_in p key ≡ At r → (o : Option ℚ) → o ≡ value_at table r → IfSome o (IsAmplitude p key)
  unfolding HoldsOutcomes IsAmplitude value_at keys_of rank_at tensors_of looked_up
  value_unique table holds r e o is = if_some (IsAmplitude p key) o (λ v s f so. law.values f so key v
      (ap (λ n. get_or (outcomes (tensors_of p) p.bound) n Over) (sym (at_rank p key r e).rank)
      ∙ sym (holds r (Value v) (shown_value (get_or table r None) v (sym is ∙ s)))))

  pub zero_unique : IsKey key.g key.idx → are_below p.tensors.dim key.idx ≡ true → place_in p key ≡ Zero → IsAmplitude p key 0ℚ
  unfolding IsAmplitude tensors_of looked_up
  zero_unique k b e f so = law.zeros f so key (sorted_below 0 256 p.tensors.dim key.idx k.sorted b) (uncovered p key e)

-- the law of uniqueness, for the tensors of a plan
pub uniqueness_of : (p : Planning) → UniquenessLaw → (t : Entries) → t ≡ p.tensors → AreSound t → Uniqueness (tensors_of p) p.bound (outcomes (tensors_of p) p.bound)
unfolding tensors_of
uniqueness_of p law t is sound = by (subst AreSound is sound)
  where
    by : AreSound p.tensors → Uniqueness (looked_up p.tensors) p.bound (outcomes (looked_up p.tensors) p.bound)
    by s = law (looked_up p.tensors) p.bound s.symmetric s.graded
