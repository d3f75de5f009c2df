-- What the jobs lead to, and its status.
use Rattle.std.proofs.Common.{inl, inr, ℕ, arith, refl, IsTrue, List, Option, Some, None}
use Rattle.airymore.proofs.Words.{ℚ, Tensors, limit, first_without, full_table, is_bound, Entries, looked_up, Said, IsPlain, plain_of, plain_plan, Place, places, brackets_report, first_over, found_report, numbers_report, LeadsToBrackets, LeadsToCurve, LeadsToCurveRelations, curve_report, curve_relations_report, quick_cells, quick_report, quick_table, valued_report, LeadsToQuick}
use Rattle.airymore.proofs.CurveLemmas.{plain_curve}
use Rattle.airymore.proofs.CurveRelationLemmas.{plain_curve_relations}

-- ---- the statuses of what is meant

plain_found : (T : Tensors) (m : ℕ) (o : Option Place) → IsPlain (found_report T m o)
unfolding found_report
plain_found T m None = record { is = inl refl }
plain_found T m (Some p) = record { is = inr (omega arith, omega arith) }

pub plain_brackets : (t : Entries) → IsPlain (brackets_report t)
unfolding brackets_report numbers_report
plain_brackets t = plain_of t (numbers_report (looked_up t) t.dim) (plain_found (looked_up t) t.dim (first_over (looked_up t) (places t.dim)))

plain_valued : (t : Entries) (X : ℕ) (o : Option ℕ) → IsPlain (valued_report t.letter (looked_up t) X o)
unfolding valued_report
plain_valued t X None = record { is = inl refl }
plain_valued t X (Some r) = record { is = inr (omega arith, omega arith) }

pub plain_quick : (X : ℕ) (t : Entries) → IsPlain (quick_report X t)
unfolding quick_report quick_table quick_cells
plain_quick X t =
    plain_of t (quick_table X t)
    (plain_plan X (limit (looked_up t) X) (quick_cells t.letter (looked_up t) X) (plain_valued t X (first_without (full_table (looked_up t) X))))

-- ---- what the jobs lead to is their report, or want of memory

pub curve_said : (us : List ℚ) (X : ℕ) → Said (LeadsToCurve us X) (curve_report us X) (IsTrue (is_bound X))
curve_said us X = record { plain = plain_curve us X; said = λ r leads. leads.said }

pub curve_relations_said : (us : List ℚ) (N : ℕ) → Said (LeadsToCurveRelations us N) (curve_relations_report us N) (Unit {0})
curve_relations_said us N = record { plain = plain_curve_relations us N; said = λ r leads. elim leads.said [ inl e ↦ inl e | inr e ↦ inr (tt, e) ] }

pub brackets_said : (t : Entries) → Said (LeadsToBrackets t) (brackets_report t) (Unit {0})
brackets_said t = record { plain = plain_brackets t; said = λ r leads. inl leads.said }

pub quick_said : (X : ℕ) (t : Entries) → Said (LeadsToQuick X t) (quick_report X t) (IsTrue (is_bound X))
quick_said X t = record { plain = plain_quick X t; said = λ r leads. leads.said }
