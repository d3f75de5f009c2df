-- What the report of a curve's table says of the solutions of the curve.
use Rattle.std.proofs.Common.{◌≡◌, inl, inr, ℕ, suc, ◌<◌, ◌≤◌, refl, sym, ap, ◌∙◌, subst, arith, length, List, [], ◌++◌, get_or, append-nil, rules, Option, Some, None, Bool, true, false, cond, IsTrue, codes}
use Rattle.run_reports.proofs.Names.{Taking, key_text, BelowDimLaw, top_wk, Key, planned, PlanLaw, key_at, ℚ, Tensors, Entries, Limit, Within, PassesBound, PassesCells, PassesNeeds, limit, outcomes, full_table, value_of, fraction_text, HasValue, SameTablesLaw, is_bound, EndsBy, Report, Ends, EndsOrWants, bound_refused, out_of_memory, row_text, checked_report, making_report, plan_report, cells_report, orders_differ, stored_report, verdict_of}
use Rattle.airymore.proofs.Words.{entries_self, curve, number_of, of_list, curve_refusal, CurveErr, length-outcomes, lines_of, rows-lines, length-lines, line_at, values_found, differ_of, IsPlain, plain_bound, plain_cells, plain_making, plain_plan, bound_some, status_of, curve_tensors, curve_report, curve_lines, curve_error, IsCurveLine, CurveHeadline, CurveHasTwoOrders, LeadsToCurve, CurveStep, CurveStepsLaw}
use Rattle.airy_curve.specs.Storing.{Names, StandsFor}
use Rattle.airy_curve.specs.declared.making.CurveErr.TheVariants as error
use Rattle.amp_terms.specs.declared.Outcome.TheVariants.{Over}
use Rattle.amp_terms.specs.Text.{value_text, power_text}
use Rattle.curve_law.specs.Tables.{CurveTableLaw, IsCurveTable}
use Rattle.series_law.specs.Check.{Verdict}
use Rattle.series_law.specs.Check as check
use Rattle.run_reports.proofs.StoredLemmas.{stored_same}
use Rattle.airymore.specs.Curves as steps
use Rattle.command_words.proofs.ScriptLemmas.{bound_some}

-- the laws that the headline rests on
pub record CurveLaws : Type 0 where
  pub planned : PlanLaw
  pub tables : CurveTableLaw

-- ---- the report by its steps

pub curve_steps : CurveStepsLaw
unfolding curve_report making_report cells_report plan_report checked_report curve_lines curve_tensors curve
curve_steps us X = by (is_bound X) refl (curve_refusal (of_list us) (suc (top_wk X)) (top_wk X)) refl (limit T X) refl (verdict_of T X) refl
  where
    T : Tensors
    T = curve_tensors us X

    cells : Verdict → Report
    cells v = checked_report false T.shape (planned T X) (full_table T X) v

    by : (b : Bool) → is_bound X ≡ b → (o : Option ℕ) → curve_refusal (of_list us) (suc (top_wk X)) (top_wk X) ≡ o → (l : Limit) → limit T X ≡ l
        → (v : Verdict) → verdict_of T X ≡ v → CurveStep us X (cond b (making_report o (plan_report X l (cells v))) (bound_refused X))
    by false e o m l f v g = steps.outside e refl
    by true e (Some k) m l f v g = steps.unmade e k m refl
    by true e None m PassesBound f v g = steps.limited e m (λ u. let clash : PassesBound ≡ Within = sym f ∙ u in cc) refl
    by true e None m (PassesCells level) f v g = steps.limited e m (λ u. let clash : PassesCells level ≡ Within = sym f ∙ u in cc) refl
    by true e None m (PassesNeeds key) f v g = steps.limited e m (λ u. let clash : PassesNeeds key ≡ Within = sym f ∙ u in cc) refl
    by true e None m Within f (check.NotValue r) g = steps.blank (record { bounded = e; made = m; within = f }) r g refl
    by true e None m Within f (check.Overflow key i) g = steps.over (record { bounded = e; made = m; within = f }) key i g refl
    by true e None m Within f (check.Orders key i a j b) g = steps.orders (record { bounded = e; made = m; within = f }) key i a j b g refl
    by true e None m Within f check.Solution g = steps.whole (record { bounded = e; made = m; within = f }) g refl

-- ---- what it says

-- the line of a Value without a letter
line_text : (key : Key) (w : ℚ) → key_text key ++ codes " " ++ value_text w 0 ++ codes "\n" ≡ key_text key ++ codes " " ++ fraction_text w ++ codes "\n"
unfolding value_text power_text
line_text key w = ap (λ text. key_text key ++ codes " " ++ text ++ codes "\n") (append-nil (fraction_text w))

module _ (laws : CurveLaws) (us : List ℚ) (X : ℕ) (bounded : is_bound X ≡ true) where
  abbrev T : Tensors
  T = curve_tensors us X

  abbrev keys : List Key
  keys = planned T X

  abbrev lines : List (List ℕ)
  lines = lines_of false T.shape keys (outcomes T X)

  table : (M : ℕ) → top_wk X ≤ M → IsCurveTable T (number_of (of_list us)) X M
  unfolding curve_tensors
  table M h = laws.tables T (number_of (of_list us)) X M (bound_some X bounded) (entries_self T) h

  module _ (found : verdict_of (curve_tensors us X) X ≡ check.Solution) where
    line_there : (r : ℕ) → r < length keys → IsCurveLine us X (key_at keys r) (get_or lines r [])
    unfolding row_text value_of HasValue
    line_there r h =
        let v = values_found T X found r h in record {
          value = v.0;
          text =
              line_at false T.shape keys (outcomes T X) r h (length-outcomes T X) ∙ ap (λ o. row_text false T.shape (key_at keys r) (value_of o)) v.1
              ∙ line_text (key_at keys r) v.0;
          shown = λ M f so. (table M so.wide).values f so.solves (key_at keys r) v.0 (ap (λ n. get_or (outcomes T X) n Over) ((laws.planned T X).once r h) ∙ v.1);
        }

    long : length lines ≡ length keys
    long = length-lines false T.shape keys (outcomes T X) (length-outcomes T X)

    headline : CurveHeadline us X (curve_lines us X)
    unfolding curve_lines full_table verdict_of curve_tensors curve
    headline = record {
      lines = lines;
      whole = long;
      bytes_are = rows-lines false T.shape keys (outcomes T X);
      printed = λ r h. line_there r (subst (λ n. r < n) long h);
      zeros = λ M f so key s z. (table M so.wide).zeros f so.solves key s z;
      solution = λ M h. record { wide = h; solves = (table M h).solved found };
    }

  two_orders : (key : Key) (i j : ℕ) (a b : ℚ) → verdict_of (curve_tensors us X) X ≡ check.Orders key i a j b → CurveHasTwoOrders us X (orders_differ key i a j b).bytes
  unfolding verdict_of
  two_orders key i j a b found = record {
    key = key;
    first = i;
    v1 = a;
    second = j;
    v2 = b;
    named = refl;
    found = found;
    differ = differ_of T X key i j a b found;
    unsolvable = λ M f so. (table M so.wide).unsolvable key i j a b found f so.solves;
  }

headline_of : CurveLaws → (us : List ℚ) (X : ℕ) → (curve_report us X).status ≡ 0 → CurveHeadline us X (curve_report us X).bytes
unfolding making_report
headline_of laws us X e = by (curve_steps us X)
  where
    by : CurveStep us X (curve_report us X) → CurveHeadline us X (curve_report us X).bytes
    by (steps.outside b said) = absurd (omega (arith, e, status_of said))
    by (steps.unmade b k m said) = absurd (omega (arith, e, status_of said))
    by (steps.limited b m l said) = absurd (omega (arith, e, said))
    by (steps.blank made r found said) = absurd (omega (arith, e, status_of said))
    by (steps.over made key i found said) = absurd (omega (arith, e, status_of said))
    by (steps.orders made key i a j b found said) = absurd (omega (arith, e, status_of said))
    by (steps.whole made found said) = subst (λ (r : Report). CurveHeadline us X r.bytes) (sym said) (headline laws us X made.bounded found)

unsolvable_of : CurveLaws → (us : List ℚ) (X : ℕ) → (curve_report us X).status ≡ 7 → CurveHasTwoOrders us X (curve_report us X).bytes
unfolding making_report
unsolvable_of laws us X e = by (curve_steps us X)
  where
    by : CurveStep us X (curve_report us X) → CurveHasTwoOrders us X (curve_report us X).bytes
    by (steps.outside b said) = absurd (omega (arith, e, status_of said))
    by (steps.unmade b k m said) = absurd (omega (arith, e, status_of said))
    by (steps.limited b m l said) = absurd (omega (arith, e, said))
    by (steps.blank made r found said) = absurd (omega (arith, e, status_of said))
    by (steps.over made key i found said) = absurd (omega (arith, e, status_of said))
    by (steps.orders made key i a j b found said) = subst (λ (r : Report). CurveHasTwoOrders us X r.bytes) (sym said) (two_orders laws us X made.bounded key i j a b found)
    by (steps.whole made found said) = absurd (omega (arith, e, status_of said))

-- ---- what a run of it leads to

curve_leads : CurveLaws → (us : List ℚ) (X : ℕ) → LeadsToCurve us X (curve_report us X)
curve_leads laws us X = record { said = inl refl; headline = headline_of laws us X; unsolvable = unsolvable_of laws us X }

wanting_leads : (us : List ℚ) (X : ℕ) → IsTrue (is_bound X) → LeadsToCurve us X out_of_memory
wanting_leads us X bounded = record { said = inr (bounded, refl); headline = λ e. absurd (omega (arith, e)); unsolvable = λ e. absurd (omega (arith, e)) }

-- a bound that is refused
pub beyond_ends : (us : List ℚ) (X : ℕ) (w w' : Taking) (status : ℕ) → is_bound X ≡ false → Ends (bound_refused X) w w' status → EndsBy (LeadsToCurve us X) w w' status
unfolding curve_report
beyond_ends us X w w' status refused e =
    let said : bound_refused X ≡ curve_report us X = rw refused refl in (
      bound_refused X,
      record { said = inl said; headline = λ z. absurd (omega (arith, z)); unsolvable = λ z. absurd (omega (arith, z)) },
      e,
    )

module _ (laws : CurveLaws) (us : List ℚ) (X : ℕ) (w w' : Taking) (status : ℕ) where
  -- the report of tensors that are made
  pub made_ends : BelowDimLaw → SameTablesLaw → (t : Entries) → IsTrue (is_bound X) → StandsFor t (curve_tensors us X)
      → curve_refusal (of_list us) (suc (top_wk X)) (top_wk X) ≡ None → EndsOrWants (stored_report t X) w w' status → EndsBy (LeadsToCurve us X) w w' status
  unfolding curve_report making_report
  made_ends below tables t bounded stands made e = by e
    where
      said : stored_report t X ≡ curve_report us X
      said = stored_same t (curve_tensors us X) false X laws.planned below tables stands.entries stands.letter ∙ (let b : is_bound X ≡ true = search rules in rw (b, made) refl)

      by : EndsOrWants (stored_report t X) w w' status → EndsBy (LeadsToCurve us X) w w' status
      by (inl told) = (curve_report us X, curve_leads laws us X, subst (λ r. Ends r w w' status) said told)
      by (inr wants) = (out_of_memory, wanting_leads us X bounded, wants)

  -- and of those that are not
  pub unmade_ends : (why : CurveErr) → IsTrue (is_bound X) → Names why (curve_refusal (of_list us) (suc (top_wk X)) (top_wk X))
      → Ends (curve_error why) w w' status → EndsBy (LeadsToCurve us X) w w' status
  unfolding curve_report curve_error Names making_report
  unmade_ends (error.Over k) bounded named e =
      let b : is_bound X ≡ true = search rules in
      let said : curve_error (error.Over k) ≡ curve_report us X = rw (b, named) refl in
      (curve_report us X, curve_leads laws us X, subst (λ r. Ends r w w' status) said e)
  unmade_ends error.NoMemory bounded named e = (out_of_memory, wanting_leads us X bounded, e)

-- ---- its status

pub plain_curve : (us : List ℚ) (X : ℕ) → IsPlain (curve_report us X)
unfolding curve_report
plain_curve us X =
    let T = curve_tensors us X in
    plain_bound X _ (plain_making (curve_refusal (of_list us) (suc (top_wk X)) (top_wk X)) _ (plain_plan X (limit T X) _ (plain_cells false T X)))
