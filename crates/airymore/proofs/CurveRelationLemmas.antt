-- What the report of a curve's relations says of them.
use Rattle.std.proofs.Common.{◌≡◌, ◌≢◌, inl, inr, ℕ, ◌+◌, ◌*◌, ◌≤◌, refl, subst, arith, List, Option, Some, None}
use Rattle.run_reports.proofs.Names.{Taking, ℚ, 1ℚ, Close, Entries, looked_up, SameVerdictLaw, verdict, EndsBy, Report, Ends, out_of_memory, closed, relations_report, making_report}
use Rattle.run_reports.proofs.RelationLemmas.{no_four}
use Rattle.airy_relations.specs.NoDifference.{FindsNoDifference, NoDifferenceLaw}
use Rattle.relation_law.specs.Curve.{CurveRelations}
use Rattle.relation_law.specs.Shapes.{CurveShapes}
use Rattle.airymore.proofs.Words.{curve, number_of, numbers_down, first_or_zero, of_list, curve_refusal, CurveErr, IsPlain, plain_closed, plain_making, plain_relations, curve_below, curve_relations_report, curve_error, LeadsToCurveRelations}
use Rattle.airy_curve.specs.Storing.{Names, StandsFor}
use Rattle.airy_curve.specs.declared.making.CurveErr.TheVariants as error

-- the laws on the relations of curves
pub record RelationLaws : Type 0 where
  pub same : SameVerdictLaw
  pub never : NoDifferenceLaw
  pub hold : CurveRelations
  pub shapes : CurveShapes

-- the stored tensors have the places below n
pub stored_places : (us : List ℚ) (n : ℕ) (t : Entries) → StandsFor t (curve_below us n) → n ≤ t.dim
unfolding curve_below curve looked_up
stored_places us n t stands = omega (arith, stands.entries.dim)

making_four : (o : Option ℕ) (next : Report) → next.status ≢ 4 → (making_report o next).status ≢ 4
unfolding making_report
making_four None next n = n
making_four (Some k) next n = λ e. omega arith

module _ (laws : RelationLaws) (us : List ℚ) (n : ℕ) where
  first_is : number_of (of_list us) 0 ≡ 1ℚ
  unfolding number_of numbers_down first_or_zero
  first_is = refl

  closes : Close (curve_below us n) n
  unfolding curve_below
  closes = laws.hold (number_of (of_list us)) (2 * n + 1) (2 * n + 1) n first_is (omega arith) (omega arith)

  found : FindsNoDifference (verdict (curve_below us n) n)
  unfolding curve_below
  found = laws.never (curve_below us n) n (laws.shapes (number_of (of_list us)) (2 * n + 1) (2 * n + 1)).symmetric closes

  relations_lead : LeadsToCurveRelations us n (curve_relations_report us n)
  unfolding curve_relations_report
  relations_lead = record {
    said = inl refl;
    holds = closes;
    never = making_four (curve_refusal (of_list us) (2 * n + 1) (2 * n + 1)) _ (no_four (verdict (curve_below us n) n) found);
  }

  wanting_lead : LeadsToCurveRelations us n out_of_memory
  wanting_lead = record { said = inr refl; holds = closes; never = λ e. omega arith }

  module _ (w w' : Taking) (status : ℕ) where
    -- the check of tensors that are made
    pub checked_ends : (t : Entries) → StandsFor t (curve_below us n) → curve_refusal (of_list us) (2 * n + 1) (2 * n + 1) ≡ None
        → Ends (relations_report (verdict (looked_up t) n) closed) w w' status → EndsBy (LeadsToCurveRelations us n) w w' status
    unfolding curve_relations_report making_report looked_up
    checked_ends t stands made e =
        let same : verdict (looked_up t) n ≡ verdict (curve_below us n) n = laws.same (looked_up t) (curve_below us n) stands.entries n (stored_places us n t stands) in
        let said : relations_report (verdict (looked_up t) n) closed ≡ curve_relations_report us n = rw (made, same) refl in
        (curve_relations_report us n, relations_lead, subst (λ r. Ends r w w' status) said e)

    -- tensors that are not made
    pub unmade_relations_end : (why : CurveErr) → Names why (curve_refusal (of_list us) (2 * n + 1) (2 * n + 1))
        → Ends (curve_error why) w w' status → EndsBy (LeadsToCurveRelations us n) w w' status
    unfolding curve_relations_report curve_error Names making_report
    unmade_relations_end (error.Over k) named e =
        let said : curve_error (error.Over k) ≡ curve_relations_report us n = rw named refl in
        (curve_relations_report us n, relations_lead, subst (λ r. Ends r w w' status) said e)
    unmade_relations_end error.NoMemory named e = (out_of_memory, wanting_lead, e)

-- ---- its status

pub plain_curve_relations : (us : List ℚ) (n : ℕ) → IsPlain (curve_relations_report us n)
unfolding curve_relations_report
plain_curve_relations us n =
    plain_making (curve_refusal (of_list us) (2 * n + 1) (2 * n + 1)) _ (plain_relations (verdict (curve_below us n) n) closed plain_closed)
