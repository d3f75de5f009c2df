-- The number that the divisions of a table's Values give is that of the structure, and of every solution.
use Rattle.std.proofs.Common.{◌≡◌, ◌≢◌, inl, inr, ℕ, zero, suc, ◌<◌, ◌≤◌, ◌+◌, ◌-◌, ◌/◌, refl, sym, ap, ap₂, ◌∙◌, subst, arith, length, List, [], ◌∷◌, map, get_or, Bool, true, false, cond, Option, Some, None, Ok, Err, codes, ◌++◌}
use Rattle.run_reports.proofs.Names.{ℚ, ◌*ℚ◌, 0ℚ, 1ℚ, Key, euler, key_of, total, letter_of, outer, power, Series, Shape, planned, IsPlanned, top_wk, top_bgw, wp_shape, wp_cut, Structure, IsSolutionOf, IsSound, planned_tensors, tensors_at, letter_value, Tensors, SameEntries, BelowDimLaw, PlanLaw, place_of, Family, Planning, keys_of, tensors_of, rank_at, are_below, place_in, Outcome, outcomes, value_in, value_or_zero, full_table, first_without, value_at, Shown, SameTablesLaw, JobUniquenessLaw, looked_up, fraction_text, Taking, key_text, Report, Ends, bound_refused, refusal, EndsBy, structure_of, is_bound, has_letter}
use Rattle.std.proofs.Math.Nat.{le_refl}
use lib.Dec.{ltb}
use Rattle.airy_math.specs.Shapes.{covers, live}
use Rattle.airy_math.specs.Named.{wk_shape, wk, bgw}
use Rattle.airy_math.specs.declared.Family.TheVariants as family
use Rattle.airy_math.proofs.FamilyLaw.{LikeWk, LikeBgw, wk_like, wp_like, bgw_like}
use Rattle.airy_index.specs.Fields.{IsKey}
use Rattle.amp_plan.specs.declared.place.Place.TheVariants as place
use Rattle.amp_plan.proofs.PlaceLemmas.{sorted_below}
use Rattle.amp_terms.specs.declared.Outcome.TheVariants.{Value, Over}
use Rattle.series_law.specs.Amplitudes.{HoldsOutcomes}
use Rattle.intersection_law.specs.Equations.{WittenLaw, NorburyLaw}
use Rattle.correlators.specs.Divisions.{over_odd_factorials}
use Rattle.correlators.specs.Numbers.{number_in, number_at, number_of, quotient_at}
use Rattle.correlators.specs.declared.refusals.CorrErr.{CorrErr}
use Rattle.correlators.specs.declared.refusals.CorrErr.TheVariants as refused
use Rattle.correlators.specs.Laws.{NumberOfSolutions}
use Rattle.airyrun.specs.Numbers.{IsNumber, IsQuotient, LeadsToNumber, MeetsEquations, euler_of, number_report, quotient, quotient_report, valued_report}
use Rattle.run_reports.proofs.TableHeadline.{family_sound}
use Rattle.airyrun.specs.Valued.{IsValued, Refuses}
use Rattle.airyrun.proofs.ValuedLemmas.{cell_there}
use Rattle.correlators.proofs.TermLemmas.{below_all}

-- ---- the indices of a covered key up to X are below the table's dim

live_of : (s : Shape) (key : Key) → IsKey key.g key.idx → covers s key ≡ true → live s key ≡ true
unfolding live Rattle.airy_math.specs.Keys.stable
live_of s key k e = rw e (let h = k.stable in grind arith)

small_wk : (s : Shape) → LikeWk s → (X : ℕ) (key : Key) → 0 < X → live s key ≡ true → 0 < length key.idx → euler_of key ≤ X → are_below (suc (top_wk X)) key.idx ≡ true
unfolding LikeWk top_wk euler key_of
small_wk s like X key x u some h = below_all (suc (X - 1 + (X + 1) / 2)) key.idx (omega (arith, like key.g key.idx u))

small_bgw : (s : Shape) → LikeBgw s → (X : ℕ) (key : Key) → 0 < X → live s key ≡ true → 0 < length key.idx → euler_of key ≤ X → are_below (suc (top_bgw X)) key.idx ≡ true
unfolding LikeBgw top_bgw euler key_of
small_bgw s like X key x u some h = below_all (suc ((X + 1) / 2 - 1)) key.idx (omega (arith, like key.g key.idx u))

pub family_small : (f : Family) (X : ℕ) (key : Key) → 0 < X → IsKey key.g key.idx → euler_of key ≤ X → covers (planned_tensors (structure_of f) X).shape key ≡ true
    → are_below (planned_tensors (structure_of f) X).dim key.idx ≡ true
unfolding structure_of planned_tensors wk bgw wp_cut
family_small family.Wk X key x k h e = small_wk wk_shape wk_like X key x (live_of wk_shape key k e) k.some h
family_small family.Bgw X key x k h e = small_bgw (bgw (top_bgw X)).shape (bgw_like (top_bgw X)) X key x (live_of _ key k e) k.some h
family_small family.Wp X key x k h e = small_wk wp_shape wp_like X key x (live_of wp_shape key k e) k.some h

-- ---- what the table of stored tensors gives is what that of the structure does

module _ (p : Planning) (cells : List (Option Outcome)) (key : Key) (plan : PlanLaw) (k : IsKey key.g key.idx) (is_bound : euler_of key ≡ p.bound)
    (below : covers p.tensors.shape key ≡ true → are_below p.tensors.dim key.idx ≡ true) (whole : cells ≡ full_table (tensors_of p) p.bound) (valued : first_without cells ≡ None) where
  planned_key : covers p.tensors.shape key ≡ true → IsPlanned (tensors_of p) p.bound key
  unfolding tensors_of looked_up
  planned_key c = record {
    sorted = sorted_below 0 256 p.tensors.dim key.idx k.sorted (below c);
    places = k.some;
    positive = k.stable;
    within = omega (arith, is_bound);
    covered = c;
  }

  -- the key has a Value
  value_at_key : covers p.tensors.shape key ≡ true
      → (w : ℚ) × (get_or (outcomes (tensors_of p) p.bound) (rank_at p key) Over ≡ Value w) × (value_at cells (rank_at p key) ≡ Some w)
  unfolding rank_at keys_of
  value_at_key c = cell_there p cells whole valued (rank_at p key) ((plan (tensors_of p) p.bound).all key (planned_key c))

  value_is : (w : ℚ) → get_or (outcomes (tensors_of p) p.bound) (rank_at p key) Over ≡ Value w → value_in (planned (tensors_of p) p.bound) (outcomes (tensors_of p) p.bound) key ≡ w
  unfolding value_in rank_at keys_of value_or_zero
  value_is w e = ap value_or_zero e

  place_number : number_at cells key (place_in p key) ≡ quotient_at key (quotient (tensors_of p) p.bound key)
  unfolding place_in quotient tensors_of looked_up rank_at keys_of
  place_number = rw within (by (covers p.tensors.shape key) refl)
    where
      within : ltb p.bound (euler key.g (length key.idx)) ≡ false
      within = grind (arith, is_bound)

      by : (c : Bool) → covers p.tensors.shape key ≡ c
          → number_at cells key (cond c (cond (are_below p.tensors.dim key.idx) (place.At (rank_at p key)) place.BadIndex) place.Zero)
          ≡ quotient_at key (cond c (over_odd_factorials key.idx (value_in (planned (tensors_of p) p.bound) (outcomes (tensors_of p) p.bound) key)) (Some 0ℚ))
      by false c = refl
      by true c =
          let v = value_at_key c in
          rw (below c) (ap (number_of key) v.2 ∙ ap (λ w. quotient_at key (over_odd_factorials key.idx w)) (sym (value_is v.0 v.1)))

  pub number_is : p.tensors.letter ≡ false → number_in p cells key ≡ quotient_at key (quotient (tensors_of p) p.bound key)
  unfolding number_in
  number_is plain = ap (λ l. cond l (Err refused.Kind) (number_at cells key (place_in p key))) plain ∙ place_number

-- ---- what the plan's table gives is what the structure's does

quotient_ok : (key : Key) (o : Option ℚ) (w : ℚ) → quotient_at key o ≡ Ok w → o ≡ Some w
quotient_ok key (Some v) w e = cc
quotient_ok key None w e = cc

quotient_err : (key : Key) (o : Option ℚ) (why : CorrErr) → quotient_at key o ≡ Err why → (o ≡ None) × (why ≡ refused.Over key)
quotient_err key (Some v) why e = cc
quotient_err key None why e = (refl, cc)

-- tables of tensors with the same entries below dim show the same
pub shown_same : (X : ℕ) (v : ℚ) (S T T' : Tensors) (f : Series) → SameEntries S T → planned S X ≡ planned T X → outcomes S X ≡ outcomes T X
    → Shown X v T T' (outcomes T X) f → Shown X v S T' (outcomes S X) f
shown_same X v S T T' f same plan outs shown = record {
  values = λ key w e. shown.values key w (ap₂ (λ os ks. get_or os (place_of key ks) Over) (sym outs) (sym plan) ∙ e) ∙ ap (λ s. power v (letter_of s key) *ℚ w) (sym same.shape);
  zeros = λ key sorted o.
      shown.zeros key sorted (elim o [ inl c ↦ inl (ap (λ s. covers s key) (sym same.shape) ∙ c) | inr b ↦ inr (subst (λ d. 0 < outer d key.idx) same.dim b) ]);
}

-- a table of all outcomes holds each
pub holds_full : (p : Planning) (cells : List (Option Outcome)) → cells ≡ full_table (tensors_of p) p.bound → HoldsOutcomes p cells
unfolding HoldsOutcomes full_table
holds_full p cells whole r o e = by (outcomes (tensors_of p) p.bound) r o (ap (λ t. get_or t r None) (sym whole) ∙ e)
  where
    by : (os : List Outcome) (r : ℕ) (o : Outcome) → get_or (map Some os) r None ≡ Some o → o ≡ get_or os r Over
    by [] r o e = cc
    by (x ∷ os) zero o e = cc
    by (x ∷ os) (suc r) o e = by os r o e

-- the laws that a table's numbers rest on
pub record TableLaws : Type 0 where
  pub plan : PlanLaw
  pub below : BelowDimLaw
  pub tables : SameTablesLaw
  pub unique : JobUniquenessLaw

-- and those of their equations
pub record NumberLaws : Type 0 where
  pub table : TableLaws
  pub witten : WittenLaw
  pub norbury : NorburyLaw

module _ (laws : TableLaws) (s : Structure) (X : ℕ) (p : Planning) (cells : List (Option Outcome)) (valued : IsValued s X p cells) where
  same : SameEntries (tensors_of p) (planned_tensors s X)
  unfolding tensors_of
  same = valued.planned.entries

  pub same_plan : planned (tensors_of p) X ≡ planned (planned_tensors s X) X
  same_plan = (laws.below (tensors_of p) (planned_tensors s X) same).plan X

  pub same_outcomes : outcomes (tensors_of p) X ≡ outcomes (planned_tensors s X) X
  same_outcomes = (laws.tables (tensors_of p) (planned_tensors s X) same X).outcomes

  -- what the plan's table shows of the solutions of the job
  pub job_shown : IsSound s → 0 < X → (m : ℕ) (v : ℚ) (f : Series) → IsSolutionOf s X m v f → Shown p.bound (letter_value s v) (tensors_of p) (tensors_at s m v) (outcomes (tensors_of p) p.bound) f
  job_shown sound some m v f sol =
      subst (λ B. Shown B (letter_value s v) (tensors_of p) (tensors_at s m v) (outcomes (tensors_of p) B) f) (sym valued.bound)
      (shown_same X (letter_value s v) (tensors_of p) (planned_tensors s X) (tensors_at s m v) f same same_plan same_outcomes (laws.unique s X sound some m v f sol))

-- ---- numbers

same_parts : {S S' : Shape} {ks js : List Key} {os ps : List Outcome} (key : Key) → S ≡ S' → ks ≡ js → os ≡ ps
    → cond (covers S key) (over_odd_factorials key.idx (value_in ks os key)) (Some 0ℚ) ≡ cond (covers S' key) (over_odd_factorials key.idx (value_in js ps key)) (Some 0ℚ)
same_parts key a b c = cc

quotient_same : (S T : Tensors) (X : ℕ) (key : Key) → S.shape ≡ T.shape → planned S X ≡ planned T X → outcomes S X ≡ outcomes T X → quotient S X key ≡ quotient T X key
unfolding quotient
quotient_same S T X key a b c = same_parts key a b c

no_letter : (f : Family) → f ≢ family.Wp → has_letter (structure_of f) ≡ false
unfolding structure_of has_letter
no_letter family.Wk n = refl
no_letter family.Bgw n = refl
no_letter family.Wp n = absurd (n refl)

module _ (laws : TableLaws) (f : Family) (key : Key) (p : Planning) (cells : List (Option Outcome)) (k : IsKey key.g key.idx) (plain : f ≢ family.Wp)
    (some : 0 < euler_of key) (valued : IsValued (structure_of f) (euler_of key) p cells) where
  abbrev T : Tensors
  T = planned_tensors (structure_of f) (euler_of key)

  fits : covers p.tensors.shape key ≡ true → are_below p.tensors.dim key.idx ≡ true
  unfolding looked_up
  fits c =
      let e = valued.planned.entries in
      ap (λ d. are_below d key.idx) e.dim ∙ family_small f (euler_of key) key some k (le_refl (euler_of key)) (ap (λ s. covers s key) (sym e.shape) ∙ c)

  same_quotient : quotient (tensors_of p) p.bound key ≡ quotient T (euler_of key) key
  same_quotient =
      ap (λ B. quotient (tensors_of p) B key) valued.bound
      ∙ quotient_same (tensors_of p) T (euler_of key) key (same laws (structure_of f) (euler_of key) p cells valued).shape
      (same_plan laws (structure_of f) (euler_of key) p cells valued) (same_outcomes laws (structure_of f) (euler_of key) p cells valued)

  number_told : number_in p cells key ≡ quotient_at key (quotient T (euler_of key) key)
  number_told =
      number_is p cells key laws.plan k (sym valued.bound) fits valued.table valued.valued (valued.planned.letter ∙ no_letter f plain)
      ∙ ap (quotient_at key) same_quotient

  pub number_found : (w : ℚ) → number_in p cells key ≡ Ok w → quotient T (euler_of key) key ≡ Some w
  number_found w e = quotient_ok key (quotient T (euler_of key) key) w (sym number_told ∙ e)

  pub number_failed : (why : CorrErr) → number_in p cells key ≡ Err why → (quotient T (euler_of key) key ≡ None) × (why ≡ refused.Over key)
  number_failed why e = quotient_err key (quotient T (euler_of key) key) why (sym number_told ∙ e)

-- ---- what the number is of every solution

plain_letter : (f : Family) (v : ℚ) → f ≢ family.Wp → letter_value (structure_of f) v ≡ 1ℚ
unfolding structure_of letter_value
plain_letter family.Wk v n = refl
plain_letter family.Bgw v n = refl
plain_letter family.Wp v n = absurd (n refl)

meets_equations : NumberLaws → (f : Family) (X m : ℕ) (v : ℚ) (g : Series) → IsSolutionOf (structure_of f) X m v g → MeetsEquations (structure_of f) X m g
unfolding structure_of tensors_at MeetsEquations
meets_equations laws family.Wk X m v g sol = laws.witten X (m - 1) g sol.solves
meets_equations laws family.Bgw X m v g sol = laws.norbury X (m - 1) g sol.solves
meets_equations laws family.Wp X m v g sol = tt

-- a number that is the intersection number of every solution that the plan's table shows
pub is_number : (laws : NumberLaws) (f : Family) (key : Key) (p : Planning) (cells : List (Option Outcome)) → f ≢ family.Wp → 0 < euler_of key
    → IsValued (structure_of f) (euler_of key) p cells → (w : ℚ) → NumberOfSolutions p key w → IsNumber (structure_of f) key (fraction_text w ++ codes "\n")
unfolding NumberOfSolutions
is_number laws f key p cells plain some valued w unique = record {
  number = w;
  text = refl;
  unique = λ m v g sol sorted.
      unique (tensors_at (structure_of f) m v) g
      (subst (λ x. Shown p.bound x (tensors_of p) (tensors_at (structure_of f) m v) (outcomes (tensors_of p) p.bound) g) (plain_letter f v plain)
      (job_shown laws.table (structure_of f) (euler_of key) p cells valued (family_sound f) some m v g sol)) sorted;
  meets = λ m v g sol. meets_equations laws f (euler_of key) m v g sol;
}

-- a key that can be asked for, with the table that is made for it
pub record IsMade (f : Family) (key : Key) (p : Planning) (cells : List (Option Outcome)) : Type 0 where
  pub is_key : IsKey key.g key.idx
  pub plain : f ≢ family.Wp
  pub valued : IsValued (structure_of f) (euler_of key) p cells

module _ (laws : NumberLaws) (f : Family) (key : Key) (p : Planning) (cells : List (Option Outcome)) (made : IsMade f key p cells) where
  some_euler : 0 < euler_of key
  some_euler = made.is_key.stable

  -- what is printed of a number
  pub is_quotient : (w : ℚ) → number_in p cells key ≡ Ok w → NumberOfSolutions p key w → (before now : Taking) (result : ℕ)
      → Ends (record { status = 0; bytes = fraction_text w ++ codes "\n" }) before now result → EndsBy (IsQuotient (structure_of f) key) before now result
  unfolding quotient_report
  is_quotient w e unique before now result ends = (
    record { status = 0; bytes = fraction_text w ++ codes "\n" },
    record {
      said = ap (quotient_report key) (sym (number_found laws.table f key p cells made.is_key made.plain some_euler made.valued w e));
      shown = λ z. is_number laws f key p cells made.plain some_euler made.valued w unique;
    },
    ends,
  )

  -- and where a step of its division leaves the range
  pub failed_quotient : (why : CorrErr) → number_in p cells key ≡ Err why → (before now : Taking) (result : ℕ)
      → Ends (record { status = 6; bytes = refusal (codes "over in number at ") (key_text key) }) before now result → EndsBy (IsQuotient (structure_of f) key) before now result
  unfolding quotient_report
  failed_quotient why e before now result ends = (
    record { status = 6; bytes = refusal (codes "over in number at ") (key_text key) },
    record {
      said = ap (quotient_report key) (sym (number_failed laws.table f key p cells made.is_key made.plain some_euler made.valued why e).0);
      shown = λ z. absurd (omega (arith, z));
    },
    ends,
  )

-- ---- the whole of `number`

-- the key's Euler number is beyond the bound
pub beyond_number : (s : Structure) (key : Key) (before now : Taking) (result : ℕ) → is_bound (euler_of key) ≡ false → Ends (bound_refused (euler_of key)) before now result
    → EndsBy (LeadsToNumber s key) before now result
unfolding number_report valued_report
beyond_number s key before now result out ends = (bound_refused (euler_of key), record { said = inl (rw out refl); shown = λ e. absurd (omega (arith, e)) }, ends)

-- its table isn't made, or some key has no Value
pub unmade_number : (s : Structure) (key : Key) (before now : Taking) (result : ℕ) → is_bound (euler_of key) ≡ true
    → EndsBy (Refuses (valued_report s (euler_of key))) before now result → EndsBy (LeadsToNumber s key) before now result
unfolding number_report
unmade_number s key before now result bounded ends =
    (ends.0, record { said = elim ends.1.said [ inl e ↦ inr (bounded, e) | inr h ↦ inl (sym (h _)) ]; shown = λ z. absurd (ends.1.not_whole z) }, ends.2)

-- it is made, and the Value is divided
pub made_number : (s : Structure) (key : Key) (before now : Taking) (result : ℕ) → ((next : Report) → valued_report s (euler_of key) next ≡ next)
    → EndsBy (IsQuotient s key) before now result → EndsBy (LeadsToNumber s key) before now result
unfolding number_report
made_number s key before now result next ends =
    (ends.0, record { said = inl (ends.1.said ∙ sym (next _)); shown = ends.1.shown }, ends.2)
