-- The volume that the divisions of a table's Values give is that of the structure, and of every solution.
use Rattle.std.proofs.Common.{◌≡◌, inl, inr, ℕ, suc, ◌<◌, ◌≤◌, refl, sym, ap, ap₂, ◌∙◌, subst, arith, length, List, [], ◌∷◌, ◌++◌, append_assoc, append-nil, Bool, true, false, cond, IsTrue, nat_le, codes, Option, Some, None, is_none, option_map, Ok, Err}
use Rattle.run_reports.proofs.Names.{ℚ, Key, euler, planned, key_at, top_wk, wp_shape, wp_cut, planned_tensors, tensors_at, letter_value, IsSound, Planning, keys_of, tensors_of, rank_at, Outcome, full_table, value_at, looked_up, Taking, Writes, AppendsPrefix, key_text, Report, Ends, bound_refused, out_of_memory, EndsBy, EndsByOrWants, is_bound, has_letter}
use lib.Dec.{ltb, leb}
use Rattle.airy_math.specs.Sums.{keep}
use Rattle.airy_math.specs.Jobs.{Wp}
use Rattle.correlators.specs.Laws.{VolumeOfSolutions}
use Rattle.correlators.specs.Volumes.{Part, part_of, parts_of, asked_refusal, coefficient_of, counted, first_lacking, first_of, greatest_sum, is_of, keys_of_pair, refusal, table_refusal, table_terms, volume_terms}
use Rattle.correlators.specs.Volumes as volumes
use Rattle.correlators.specs.declared.refusals.CorrErr.{CorrErr}
use Rattle.correlators.specs.declared.refusals.CorrErr.TheVariants as refused
use Rattle.correlators.specs.declared.polynomial.Term.{Term}
use Rattle.std.specs.Io.KnownBytes.{Appends}
use Rattle.airy_io.proofs.Prefixes.{AppendsPrefix-more}
use Rattle.run_reports.specs.Report as report
use Rattle.airyrun.specs.Numbers.{IsDivision, IsQuotients, IsVolume, LeadsToVolume, joint, part_text, parts_report, parts_text, table_lacks, takes_volume, terms_refused, valued_report, volume_lacks, volume_parts, volume_report, volume_text}
use Rattle.airyrun.specs.Valued.{IsValued, Refuses}
use Rattle.airyrun.proofs.ValuedLemmas.{cell_there, same_full}
use Rattle.airyrun.proofs.NumberLemmas.{TableLaws, job_shown, same_plan}

-- ---- a plan's table, and a list of keys with their cells

plan_lacks : (p : Planning) (cells : List (Option Outcome)) (g n : ℕ) → first_lacking (coefficient_of p cells) (keys_of_pair p g n) ≡ table_lacks (keys_of p) cells g n
unfolding coefficient_of keys_of_pair table_lacks
plan_lacks p cells g n = refl

-- ---- what is refused

-- a number at each key of a list is a number at each kept one
kept_lack_none : (F : Key → Option ℚ) (t : Key → Bool) (keys : List Key) → ((r : ℕ) → r < length keys → is_none (F (key_at keys r)) ≡ false) → first_lacking F (keep t keys) ≡ None
unfolding first_lacking keep key_at
kept_lack_none F t [] h = refl
kept_lack_none F t (key ∷ keys) h = by (t key) (kept_lack_none F t keys (λ r b. h (suc r) (omega arith)))
  where
    passes : (b : Bool) (o : Option Key) → b ≡ false → o ≡ None → cond b (Some key) o ≡ None
    passes true o e none = cc
    passes false o e none = none

    by : (b : Bool) → first_lacking F (keep t keys) ≡ None → first_lacking F (elim b [ true ↦ key ∷ keep t keys | false ↦ keep t keys ]) ≡ None
    by true rest = passes (is_none (F key)) (first_lacking F (keep t keys)) (h 0 (omega arith)) rest
    by false rest = rest

module _ (laws : TableLaws) (g n : ℕ) (p : Planning) (cells : List (Option Outcome)) (stable : 0 < euler g n) (some : 1 ≤ n) (takes : IsTrue (takes_volume g n))
    (valued : IsValued Wp (euler g n) p cells) where
  abbrev X : ℕ
  X = euler g n

  wide : greatest_sum g n < p.tensors.dim
  unfolding planned_tensors wp_cut top_wk euler looked_up
  wide = let e = valued.planned.entries.dim in omega (arith, e, some, stable)

  few : ltb 100000 (counted g n) ≡ false
  unfolding takes_volume
  few = grind arith

  nothing_asked : asked_refusal p g n ≡ None
  unfolding asked_refusal has_letter
  nothing_asked =
      let within : ltb p.bound (euler g n) ≡ false = let b = valued.bound in grind arith in
      let below : leb p.tensors.dim (greatest_sum g n) ≡ false = let w = wide in grind arith in
      rw (valued.planned.letter, within, few, below) refl

  has_number : (r : ℕ) → r < length (keys_of p) → is_none (volumes.value_of p cells (key_at (keys_of p) r)) ≡ false
  unfolding volumes.value_of keys_of rank_at
  has_number r h =
      let once = (laws.plan (tensors_of p) p.bound).once r h in
      let v = cell_there p cells valued.table valued.valued r h in
      ap (λ q. is_none (value_at cells q)) once ∙ ap is_none v.2

  no_blank : first_lacking (volumes.value_of p cells) (keys_of_pair p g n) ≡ None
  unfolding keys_of_pair
  no_blank = kept_lack_none (volumes.value_of p cells) (is_of g n) (keys_of p) has_number

  keys_same : keys_of p ≡ planned (planned_tensors Wp X) X
  unfolding keys_of
  keys_same = ap (planned (tensors_of p)) valued.bound ∙ same_plan laws Wp X p cells valued

  cells_same : cells ≡ full_table (planned_tensors Wp X) X
  unfolding tensors_of
  cells_same = valued.table ∙ ap (full_table (tensors_of p)) valued.bound ∙ same_full p.tensors (planned_tensors Wp X) X laws.tables valued.planned.entries

  same_lacks : table_lacks (keys_of p) cells g n ≡ volume_lacks g n
  same_lacks = ap₂ (λ ks cs. table_lacks ks cs g n) keys_same cells_same

  same_terms : volume_terms p cells g n ≡ volume_parts g n
  unfolding has_letter looked_up volume_terms
  same_terms =
      ap₂ (λ l s. table_terms l s (keys_of p) cells g n) valued.planned.letter valued.planned.entries.shape
      ∙ ap₂ (λ ks cs. table_terms true (planned_tensors Wp X).shape ks cs g n) keys_same cells_same

  refused_by : refusal p cells g n ≡ option_map (λ key. refused.Over key) (volume_lacks g n)
  unfolding refusal table_refusal first_of
  refused_by = rw (nothing_asked, no_blank) (ap (option_map (λ key. refused.Over key)) (plan_lacks p cells g n ∙ same_lacks))

  -- where `volume` answers the terms
  pub volume_found : refusal p cells g n ≡ None → volume_lacks g n ≡ None
  volume_found e = none_of (volume_lacks g n) (sym refused_by ∙ e)
    where
      none_of : (o : Option Key) → option_map (λ key. refused.Over key) o ≡ None → o ≡ None
      none_of None e = refl
      none_of (Some key) e = cc

  -- and where it refuses: it names the first key at which a step of the division leaves the range
  pub volume_failed : (why : CorrErr) → refusal p cells g n ≡ Some why → (key : Key) × (volume_lacks g n ≡ Some key) × (why ≡ refused.Over key)
  volume_failed why e = named (volume_lacks g n) (sym refused_by ∙ e)
    where
      named : (o : Option Key) → option_map (λ key. refused.Over key) o ≡ Some why → (key : Key) × (o ≡ Some key) × (why ≡ refused.Over key)
      named None e = cc
      named (Some key) e = (key, refl, cc)

  -- the terms are the volume of every solution
  pub is_volume : (parts : List Part) → parts ≡ volume_terms p cells g n → VolumeOfSolutions p g n parts → IsVolume g n (volume_text parts)
  unfolding VolumeOfSolutions IsSound letter_value
  is_volume parts e unique = record {
    parts = parts;
    text = refl;
    unique = λ m v f sol ds len below. unique v (tensors_at Wp m v) f (job_shown laws Wp X p cells valued tt stable m v f sol) ds len below;
  }

-- ---- the whole of `volume`

pub beyond_volume : (g n : ℕ) (before now : Taking) (result : ℕ) → is_bound (euler g n) ≡ false → Ends (bound_refused (euler g n)) before now result
    → EndsBy (LeadsToVolume g n) before now result
unfolding volume_report
beyond_volume g n before now result out ends = (bound_refused (euler g n), record { said = inl (rw out refl); shown = λ e. absurd (omega (arith, e)) }, ends)

pub many_terms : (g n : ℕ) (before now : Taking) (result : ℕ) → is_bound (euler g n) ≡ true → nat_le (counted g n) 100000 ≡ false → Ends (terms_refused (counted g n)) before now result
    → EndsBy (LeadsToVolume g n) before now result
unfolding volume_report
many_terms g n before now result bounded many ends = (terms_refused (counted g n), record { said = inl (rw (bounded, many) refl); shown = λ e. absurd (omega (arith, e)) }, ends)

module _ (g n : ℕ) (before now : Taking) (result : ℕ) (bounded : is_bound (euler g n) ≡ true) (few_terms : nat_le (counted g n) 100000 ≡ true) where
  whole : Report
  whole = parts_report (volume_parts g n) (volume_lacks g n)

  reports : volume_report g n ≡ valued_report Wp (euler g n) whole
  unfolding volume_report whole
  reports = rw (bounded, few_terms) refl

  taking : IsTrue (takes_volume g n)
  unfolding takes_volume
  taking = rw (bounded, few_terms) refl

  -- its table isn't made, or some key has no Value
  pub unmade_volume : EndsBy (Refuses (valued_report Wp (euler g n))) before now result → EndsBy (LeadsToVolume g n) before now result
  unmade_volume ends =
      (ends.0, record { said = elim ends.1.said [ inl e ↦ inr (taking, e) | inr h ↦ inl (sym (reports ∙ h whole)) ]; shown = λ z. absurd (ends.1.not_whole z) }, ends.2)

  -- it is made, and the Values are divided
  pub made_volume : ((next : Report) → valued_report Wp (euler g n) next ≡ next) → EndsByOrWants (IsQuotients g n) before now result → EndsBy (LeadsToVolume g n) before now result
  unfolding whole
  made_volume next (inl ends) = (ends.0, record { said = inl (ends.1.said ∙ sym (reports ∙ next whole)); shown = ends.1.shown }, ends.2)
  made_volume next (inr ends) = (out_of_memory, record { said = inr (taking, refl); shown = λ z. absurd (omega (arith, z)) }, ends)

-- ---- the terms, one after the other

terms-split : (done : List ℕ) (t : Term) (behind left : List Term) (all : List ℕ) → left ≡ t ∷ behind → done ++ parts_text (parts_of left) ≡ all
    → done ++ ((part_text (part_of t) ++ joint (parts_of behind)) ++ parts_text (parts_of behind)) ≡ all
unfolding parts_of parts_text
terms-split done t behind left all l e = ap (λ ts. done ++ parts_text (parts_of ts)) (sym l) ∙ e

pub terms-next : (done : List ℕ) (t : Term) (behind left : List Term) (all : List ℕ) → left ≡ t ∷ behind → done ++ parts_text (parts_of left) ≡ all
    → (done ++ (part_text (part_of t) ++ joint (parts_of behind))) ++ parts_text (parts_of behind) ≡ all
terms-next done t behind left all l e =
    append_assoc done (part_text (part_of t) ++ joint (parts_of behind)) (parts_text (parts_of behind)) ∙ terms-split done t behind left all l e

-- the terms before one were taken, and its own was cut
pub terms_cut : {T E : Type 0} (a b c : Taking) (done : List ℕ) (t : Term) (behind left : List Term) (all : List ℕ) (e : E) → Appends a.taken b.taken done → b.faults ≡ a.faults → left ≡ t ∷ behind
    → done ++ parts_text (parts_of left) ≡ all → Writes {T = T} (part_text (part_of t) ++ joint (parts_of behind)) b c (Err e) → Writes {T = T} all a c (Err e)
terms_cut a b c done t behind left all e before kept l is own = record {
  written = tt;
  prefix = subst (AppendsPrefix a.taken c.taken) (terms-split done t behind left all l is) (AppendsPrefix-more a.taken b.taken c.taken _ _ _ before own.prefix);
  cause = rw (← kept) own.cause;
}

-- all were taken
pub terms_done : {T E : Type 0} (a b : Taking) (done : List ℕ) (left : List Term) (all : List ℕ) (x : T) → Appends a.taken b.taken done → b.faults ≡ a.faults → length left ≡ 0
    → done ++ parts_text (parts_of left) ≡ all → Writes {E = E} all a b (Ok x)
unfolding parts_of parts_text
terms_done a b done [] all x before kept none is = record {
  written = subst (Appends a.taken b.taken) (sym (append-nil done) ∙ is) before;
  prefix = tt;
  cause = record { later = omega (arith, kept); failed = tt; kept = kept };
}
terms_done a b done (t ∷ left) all x before kept none is = absurd (omega (arith, none))

-- ---- what `volume` answers

-- a refusal of a table in which each key has a Value, for a pair within its limits
pub division_refusal : (laws : TableLaws) (g n : ℕ) (p : Planning) (cells : List (Option Outcome)) → 0 < euler g n → 1 ≤ n → IsTrue (takes_volume g n) → IsValued Wp (euler g n) p cells
    → (why : CorrErr) → volumes.IsVolume p cells g n (Err why) → IsDivision g n why
unfolding volumes.IsVolume IsDivision
division_refusal laws g n p cells stable some takes valued why (inl e) = let v = volume_failed laws g n p cells stable some takes valued why e in subst (IsDivision g n) (sym v.2) v.1
division_refusal laws g n p cells stable some takes valued why (inr e) = subst (IsDivision g n) (sym e.0) tt

pub quotients_failed : (g n : ℕ) (key : Key) (before now : Taking) (result : ℕ) → volume_lacks g n ≡ Some key → Ends (record { status = 6; bytes = report.refusal (codes "over in volume at ") (key_text key) }) before now result
    → EndsByOrWants (IsQuotients g n) before now result
unfolding parts_report
quotients_failed g n key before now result lacks ends = inl (
  record { status = 6; bytes = report.refusal (codes "over in volume at ") (key_text key) },
  record { said = rw lacks refl; shown = λ z. absurd (omega (arith, z)) },
  ends,
)

pub quotients_found : (laws : TableLaws) (g n : ℕ) (p : Planning) (cells : List (Option Outcome)) (stable : 0 < euler g n) (some : 1 ≤ n) (takes : IsTrue (takes_volume g n)) (valued : IsValued Wp (euler g n) p cells)
    (parts : List Part) → refusal p cells g n ≡ None → parts ≡ volume_terms p cells g n → VolumeOfSolutions p g n parts → (before now : Taking) (result : ℕ)
    → Ends (record { status = 0; bytes = volume_text parts }) before now result → EndsByOrWants (IsQuotients g n) before now result
unfolding parts_report
quotients_found laws g n p cells stable some takes valued parts none are unique before now result ends = inl (
  record { status = 0; bytes = volume_text parts },
  record {
    said = rw (volume_found laws g n p cells stable some takes valued none) (ap (λ ps. record { status = 0; bytes = volume_text ps }) (are ∙ same_terms laws g n p cells stable some takes valued));
    shown = λ z. is_volume laws g n p cells stable some takes valued parts are unique;
  },
  ends,
)

pub has_law : (X : ℕ) (p : Planning) (cells : List (Option Outcome)) → IsValued Wp X p cells → p.tensors.shape ≡ wp_shape
unfolding planned_tensors wp_cut looked_up
has_law X p cells valued = valued.planned.entries.shape
