-- The lines of the numbers of brackets, one after the other.
use Rattle.std.proofs.Common.{◌≡◌, ◌≢◌, ℕ, refl, sym, ap, ◌∙◌, [], ◌∷◌, ◌++◌, List, length, ◌<◌, subst, append-nil, append_assoc, arith, Bool, true, false, not, is_some, cond, codes, Option, Some, None, Ok, Err}
use Rattle.airymore.proofs.Words.{Appends, each, CloseByConstants, TellsClosing, Place, from, from_any, places, brackets_report, first_over, found_report, number_at, number_text, numbers_report, numbers_text, obtained_at, over_or, place_text, IsBrackets, LeadsToBrackets}
use Rattle.run_reports.proofs.Names.{AppendsPrefix, Taking, Writes, ℚ, ℚ_computes, 0ℚ, Tensors, is_zero, fraction_text, Entries, looked_up, AreSound, Verdict, Closed, Differs, Over, verdict, Report, Ends, EndsBy, closed, of_relations, relations_report}
use Rattle.airy_io.proofs.Prefixes.{AppendsPrefix-more}
use Rattle.airy_math.proofs.PivotLemmas.{zero_number}
use Rattle.airy_closing.specs.Closing.{BracketLaw, OperatorsClose, structure_constant}

of_zero : (p : Place) → number_text p 0ℚ ≡ []
unfolding number_text is_zero 0ℚ ℚ_computes
of_zero p = refl

pub text_of_zero : (p : Place) (x : ℚ) → x ≡ 0ℚ → number_text p x ≡ []
text_of_zero p x e = ap (number_text p) e ∙ of_zero p

pub text_of_other : (p : Place) (x : ℚ) → (x ≡ 0ℚ → ⊥) → number_text p x ≡ place_text p ++ codes " " ++ fraction_text x ++ codes "\n"
unfolding number_text
text_of_other p x n = by (is_zero x) refl
  where
    by : (b : Bool) → is_zero x ≡ b → cond b [] (place_text p ++ codes " " ++ fraction_text x ++ codes "\n") ≡ place_text p ++ codes " " ++ fraction_text x ++ codes "\n"
    by true e = absurd (n (zero_number x e))
    by false e = refl

-- ---- the first that isn't obtained

-- what the look at a number says of it
pub is_missing : (o : Option ℚ) (t : Bool) → is_some o ≡ not t → t ≡ true → o ≡ None
is_missing None t e h = cc
is_missing (Some x) true e h = cc
is_missing (Some x) false e h = cc

pub is_there : (o : Option ℚ) (t : Bool) → is_some o ≡ not t → t ≡ false → (x : ℚ) × (o ≡ Some x)
is_there (Some x) t e h = (x, refl)
is_there None true e h = absurd (let clash : true ≡ false = h in cc)
is_there None false e h = absurd (let clash : false ≡ true = e in cc)

-- the places from one on, as those of the walk
pub from_some : (m : ℕ) (at : Option Place) (p : Place) → at ≡ Some p → from_any m at ≡ from m p
unfolding from_any
from_some m at p e = ap (from_any m) e

pub from_none : (m : ℕ) (at : Option Place) → at ≡ None → from_any m at ≡ []
unfolding from_any
from_none m at e = ap (from_any m) e

-- a place behind is a shorter walk
pub shorter : (m : ℕ) (at next : Option Place) (p : Place) → at ≡ Some p → from m p ≡ p ∷ from_any m next → length (from_any m next) < length (from_any m at)
shorter m at next p e behind = omega (arith, ap (λ (ps : List Place). length ps) (from_some m at p e ∙ behind))

pub over_end : (T : Tensors) → first_over T [] ≡ None
unfolding first_over
over_end T = refl

pub over_here : (T : Tensors) (p : Place) (ps : List Place) → obtained_at T p ≡ None → first_over T (p ∷ ps) ≡ Some p
unfolding first_over
over_here T p ps e = ap (λ x. over_or p x (first_over T ps)) e

pub over_later : (T : Tensors) (p : Place) (ps : List Place) (x : ℚ) → obtained_at T p ≡ Some x → first_over T (p ∷ ps) ≡ first_over T ps
unfolding first_over
over_later T p ps x e = ap (λ x. over_or p x (first_over T ps)) e

-- where all are obtained, the first is, and those behind it are
pub over_none : (T : Tensors) (p : Place) (ps : List Place) → first_over T (p ∷ ps) ≡ None → (obtained_at T p ≡ None → ⊥) × (first_over T ps ≡ None)
unfolding first_over
over_none T p ps e = by (obtained_at T p) e
  where
    by : (x : Option ℚ) → over_or p x (first_over T ps) ≡ None → (x ≡ None → ⊥) × (first_over T ps ≡ None)
    by None f = let clash : Some p ≡ None = f in cc
    by (Some x) f = (λ g. let clash : Some x ≡ None = g in cc, f)

-- ---- the lines

pub text-more : (T : Tensors) (p : Place) (ps : List Place) (done all : List ℕ) → done ++ numbers_text T (p ∷ ps) ≡ all → (done ++ number_text p (number_at T p)) ++ numbers_text T ps ≡ all
unfolding numbers_text each
text-more T p ps done all e = append_assoc done (number_text p (number_at T p)) (numbers_text T ps) ∙ e

pub text_end : (T : Tensors) (ps : List Place) → ps ≡ [] → [] ≡ numbers_text T ps
unfolding numbers_text each
text_end T ps e = sym (ap (numbers_text T) e)

-- a line was cut
pub text_cut : {A E : Type 0} (T : Tensors) (p : Place) (ps : List Place) (a b c : Taking) (done all : List ℕ) (e : E) → Appends a.taken b.taken done → b.faults ≡ a.faults
    → done ++ numbers_text T (p ∷ ps) ≡ all → Writes {T = A} (number_text p (number_at T p)) b c (Err e) → Writes {T = A} all a c (Err e)
unfolding numbers_text each
text_cut T p ps a b c done all e before kept is own = record {
  written = tt;
  prefix = subst (λ l. AppendsPrefix a.taken c.taken l) is (AppendsPrefix-more a.taken b.taken c.taken _ _ _ before own.prefix);
  cause = rw (← kept) own.cause;
}

-- all were taken
pub text_done : {A E : Type 0} (a b : Taking) (done all : List ℕ) (x : A) → Appends a.taken b.taken done → b.faults ≡ a.faults → done ++ [] ≡ all → Writes {E = E} all a b (Ok x)
text_done a b done all x before kept is = record {
  written = subst (Appends a.taken b.taken) (sym (append-nil done) ∙ is) before;
  prefix = tt;
  cause = record { later = omega arith; failed = tt; kept = kept };
}

-- ---- what a text's operators lead to

pub printed_of : (t : Entries) → OperatorsClose (looked_up t) → CloseByConstants (looked_up t) → BracketLaw → AreSound t
    → IsBrackets t (numbers_text (looked_up t) (places t.dim) ++ codes "closed\n")
unfolding numbers_text CloseByConstants looked_up
printed_of t close constants law sound = record {
  f = structure_constant (looked_up t);
  bytes_are = refl;
  brackets = λ i j order h. constants i j (omega arith) h;
  only = λ i j g order h is. law (looked_up t) sound.symmetric i j g (omega arith) h is;
  close = close;
}

found_status : (T : Tensors) (m : ℕ) (o : Option Place) → (found_report T m o).status ≡ 0 → o ≡ None
unfolding found_report
found_status T m None e = refl
found_status T m (Some p) e = absurd (omega arith)

found_other : (T : Tensors) (m : ℕ) (o : Option Place) → (found_report T m o).status ≢ 4
unfolding found_report
found_other T m None e = omega (arith, e)
found_other T m (Some p) e = omega (arith, e)

module _ (t : Entries) (w w' : Taking) (status : ℕ) where
  abbrev T : Tensors
  T = looked_up t

  -- where the operators close
  pub closed_ends : OperatorsClose (looked_up t) → CloseByConstants (looked_up t) → BracketLaw → AreSound t → Closed ≡ verdict (looked_up t) t.dim
      → Ends (numbers_report (looked_up t) t.dim) w w' status → EndsBy (LeadsToBrackets t) w w' status
  unfolding brackets_report of_relations relations_report numbers_report found_report
  closed_ends close constants law sound found e =
      let next = numbers_report T t.dim in (
        next,
        record {
          said = ap (λ v. relations_report v next) found;
          printed = λ h. subst (λ (r : Report). IsBrackets t r.bytes) (sym (ap (found_report T t.dim) (found_status T t.dim (first_over T (places t.dim)) h))) (whole close constants law sound);
          fails = λ h. absurd (found_other T t.dim (first_over T (places t.dim)) h);
        },
        e,
      )
    where
      whole : OperatorsClose T → CloseByConstants T → BracketLaw → AreSound t → IsBrackets t (found_report T t.dim None).bytes
      whole close constants law sound = printed_of t close constants law sound

  -- and where they don't, or where this isn't found
  pub fails_ends : (v : Verdict) → v ≡ verdict (looked_up t) t.dim → (v ≡ Closed → ⊥) → TellsClosing (looked_up t) v → Ends (relations_report v closed) w w' status
      → EndsBy (LeadsToBrackets t) w w' status
  unfolding brackets_report of_relations relations_report TellsClosing
  fails_ends Closed found fails tells e = absurd (fails refl)
  fails_ends (Differs rel place left right) found fails tells e = (
    relations_report (Differs rel place left right) closed,
    record { said = ap (λ v. relations_report v (numbers_report T t.dim)) found; printed = λ h. absurd (omega arith); fails = λ h. tells },
    e,
  )
  fails_ends (Over rel place) found fails tells e = (
    relations_report (Over rel place) closed,
    record { said = ap (λ v. relations_report v (numbers_report T t.dim)) found; printed = λ h. absurd (omega arith); fails = λ h. absurd (omega arith) },
    e,
  )
