use Rattle.airyrun.proofs.RelationLemmas.{AreBelow, StoredLaws, stored_places, family_ends, unmade_ends}
use Rattle.airyrun.proofs.families.relations_of_family.Goals as goal

pub say_relations-requires-clause-most : goal.say_relations-requires-clause-most
say_relations-requires-clause-most g c =
    stored_places c.in-Ok.tensors c.args.family c.args.places (record { entries = c.in-Ok.ensures.entries; letter = c.in-Ok.ensures.letter })

pub returns-in-Ok : goal.returns-in-Ok
returns-in-Ok g c =
    let laws : StoredLaws = record { same = c.same_verdict.ensures; below = c.below_dim.ensures; wk = c.wk_closes.ensures; bgw = c.bgw_closes.ensures; wp = c.wp_closes.ensures } in
    let stored : AreBelow c.in-Ok.tensors c.args.family c.args.places = record { entries = c.in-Ok.ensures.entries; letter = c.in-Ok.ensures.letter } in
    family_ends laws c.args.family c.args.places _ _ _ c.in-Ok.tensors stored c.in-Ok.ensures.made c.say_relations.ensures.ends

pub returns-in-Err : goal.returns-in-Err
returns-in-Err g c =
    let laws : StoredLaws = record { same = c.same_verdict.ensures; below = c.below_dim.ensures; wk = c.wk_closes.ensures; bgw = c.bgw_closes.ensures; wp = c.wp_closes.ensures } in
    unmade_ends laws c.args.family c.args.places _ _ _ c.in-Err.refusal c.in-Err.ensures.over c.refuse_making.ensures
