-- The table of a curve and the solutions of the whole curve.
use Prim.Native.Nat.{ℕ, suc, ◌<◌, ◌≤◌}
use mathlib.Core.Path.{◌≡◌, refl, sym, ap, ap₂, subst, ◌∙◌}
use mathlib.Core.List.{List}
use mathlib.Core.Logic.{◌⊎◌, inl, inr}
use lib.IntN.{pos}
use lib.ListN.{get_or}
use Rattle.airy_math.specs.Cuts.{letter_of, outer}
use Rattle.airy_math.specs.Families.{top_wk}
use Rattle.airy_math.specs.Keys.{indices, key_of}
use Rattle.airy_math.specs.Planned.{planned}
use Rattle.airy_math.specs.Rational.{ℚ, ◌*ℚ◌, ◌/ℚ◌}
use Rattle.airy_math.specs.RationalLaws.{1ℚ}
use Rattle.airy_math.specs.Series.{Series}
use Rattle.airy_math.specs.Solutions.{Solves, factorials}
use Rattle.airy_math.specs.Tensors.{Tensors, SameEntries}
use Rattle.airy_math.proofs.BelowDimLaw.{below_dim}
use Rattle.airy_math.proofs.ExactLaw.{power-one}
use Rattle.airy_math.proofs.FamilyLaw.{curve_symmetric}
use Rattle.airy_math.proofs.FamilyPlans.{le_self}
use Rattle.airy_math.proofs.PowerLemmas.{power_none}
use Rattle.amp_terms.specs.declared.Outcome.{Outcome}
use Rattle.amp_terms.specs.declared.Outcome.TheVariants.{Over}
use Rattle.amp_terms.specs.Outcomes.{outcomes, place_of, value_in}
use Rattle.series_law.specs.Check.{check, Checks}
use Rattle.series_law.specs.Jobs.{HasValue}
use Rattle.series_law.specs.Pivots.{Shown, series_with}
use Rattle.series_law.specs.SameTables.{SameTables}
use Rattle.series_law.specs.Uniqueness.{series_of}
use Rattle.series_law.proofs.CheckLaw.{check_law, two_orders}
use Rattle.series_law.proofs.JobLaw.{one_times, without_letter}
use Rattle.series_law.proofs.PivotsLaw.{cut_uniqueness, cut_solution, cut_orders}
use Rattle.series_law.proofs.SameTablesLaw.{same_tables}
use Rattle.airy_math.specs.Curves.{curve, whole_curve}
use Rattle.relation_law.specs.Cuts.{IsCurveCut}
use Rattle.relation_law.proofs.CurveCuts.{curve_cut_law}
use Rattle.curve_law.specs.Tables.{IsCurveTable, CurveTableLaw}

-- ---- the tensors of the plan themselves

module _ (c : ℕ → ℚ) (X M : ℕ) (x : 0 < X) (h : top_wk X ≤ M) where
  abbrev P : Tensors
  P = curve c (suc (top_wk X)) (top_wk X)

  abbrev W : Tensors
  W = whole_curve c M

  cut : IsCurveCut c X (top_wk X) M
  cut = curve_cut_law c X (top_wk X) M x (le_self (top_wk X)) h

  shown : (f : Series) → Solves W X f → Shown X 1ℚ P W (outcomes P X) f
  shown f so = cut_uniqueness X 1ℚ P W cut.graded cut.whole_symmetric cut.whole_graded cut.cut f so

  checks : Checks P X
  checks = check_law P X (curve_symmetric c (suc (top_wk X)) (top_wk X)) cut.graded

  pub of_plan : IsCurveTable P c X M
  unfolding HasValue curve whole_curve
  of_plan = record {
    values = λ f so key w e. (shown f so).values key w e ∙ one_times (letter_of P.shape key) w;
    zeros = λ f so key s z. (shown f so).zeros key s z;
    solved = λ e. subst (Solves W X) (without_letter P X (outcomes P X)) (cut_solution X 1ℚ P W (outcomes P X) cut.graded cut.whole_symmetric cut.whole_graded cut.cut (checks.passed e));
    unsolvable = λ key i j a b e f so.
        let o = two_orders P X cut.graded key i j a b e in
        cut_orders X 1ℚ P W cut.graded cut.whole_symmetric cut.whole_graded cut.cut o.full key o.listed i j o.stands.0 o.stands.1 (λ same. o.differ (o.sums.0 ∙ same ∙ sym o.sums.1))
        (λ z. power_none 1ℚ 0 refl (power-one 0 ∙ sym (power-one (letter_of P.shape key)) ∙ z)) f so;
  }

-- ---- tensors with the same entries

moved : (T T' : Tensors) (c : ℕ → ℚ) (X M : ℕ) → SameEntries T T' → IsCurveTable T' c X M → IsCurveTable T c X M
unfolding HasValue
moved T T' c X M is t = record {
  values = λ f so key w e. t.values f so key w (ap₂ (λ table plan. get_or table (place_of key plan) Over) (sym same.outcomes) (sym ((below_dim T T' is).plan X)) ∙ e);
  zeros = λ f so key s z. t.zeros f so key s (kept _ key.idx z);
  solved = λ e. subst (Solves (whole_curve c M) X) (sym series) (t.solved (sym checked ∙ e));
  unsolvable = λ key i j a b e f so. t.unsolvable key i j a b (sym checked ∙ e) f so;
}
  where
    same : SameTables T T' X
    same = same_tables T T' is X

    checked : check T X (outcomes T X) ≡ check T' X (outcomes T' X)
    checked = same.check (outcomes T X) ∙ ap (check T' X) same.outcomes

    series : series_of T X (outcomes T X) ≡ series_of T' X (outcomes T' X)
    series = same.series (outcomes T X) ∙ ap (series_of T' X) same.outcomes

    kept : (A : Type 0) (J : List ℕ) → A ⊎ (0 < outer T.dim J) → A ⊎ (0 < outer T'.dim J)
    kept A J (inl a) = inl a
    kept A J (inr p) = inr (subst (λ d. 0 < outer d J) is.dim p)

pub curve_tables : CurveTableLaw
curve_tables T c X M x is h = moved T (curve c (suc (top_wk X)) (top_wk X)) c X M is (of_plan c X M x h)
