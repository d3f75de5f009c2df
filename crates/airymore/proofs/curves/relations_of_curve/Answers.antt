use Rattle.airymore.proofs.Words.{curve_below}
use Rattle.airymore.proofs.CurveRelationLemmas.{RelationLaws, stored_places, checked_ends, unmade_relations_end}
use Rattle.airymore.proofs.curves.relations_of_curve.Goals as goal

pub say_relations-requires-clause-most : goal.say_relations-requires-clause-most
unfolding curve_below
say_relations-requires-clause-most g c = stored_places c.args.u.now c.args.places c.in-Ok.tensors c.in-Ok.ensures.stands

pub returns-in-Ok : goal.returns-in-Ok
unfolding curve_below
returns-in-Ok g c =
    let laws : RelationLaws = record { same = c.same_verdict.ensures; never = c.no_difference.ensures; hold = c.curve_relations.ensures; shapes = c.curve_shape.ensures } in
    checked_ends laws c.args.u.now c.args.places _ _ _ c.in-Ok.tensors c.in-Ok.ensures.stands c.in-Ok.ensures.obtained c.say_relations.ensures.ends

pub returns-in-Err : goal.returns-in-Err
returns-in-Err g c =
    let laws : RelationLaws = record { same = c.same_verdict.ensures; never = c.no_difference.ensures; hold = c.curve_relations.ensures; shapes = c.curve_shape.ensures } in
    unmade_relations_end laws c.args.u.now c.args.places _ _ _ c.in-Err.refusal c.in-Err.ensures.over c.refuse_curve.ensures
