use Rattle.std.proofs.Common.{arith, ap, sym, ◌∙◌, ◌∷◌, [], slice_index}
use Rattle.amp_plan.proofs.Words.{looked_up, tensors_of, Alone}
use Rattle.amp_plan.proofs.PartLemmas.{IsOther, other_parts, three_part, one_part}
use Rattle.amp_plan.proofs.WalkLemmas.{takes-same, takes-one, allowed-same}
use Rattle.amp_plan.proofs.walk.walk_rest.Goals as goal
use Rattle.amp_plan.proofs.walk.walk_rest.Goals.{in_default-via-in-0+in_default, in_default-via-in-1+in_default, in_default-via-in_default}

pub walk_parts-requires-clause-allowed : goal.walk_parts-requires-clause-allowed
walk_parts-requires-clause-allowed g c =
    let other : IsOther c.args.genus c.args.rest.now = elim c.in_default.branch [
      | in_default-via-in-0+in_default w ↦ record { not_three = λ a b. w.in_default.is-1.1 b; not_one = λ a b. absurd (omega (arith, w.in_default.is-0, a)) }
      | in_default-via-in-1+in_default w ↦ record { not_three = λ a b. absurd (omega (arith, w.in_default.is-0, a)); not_one = λ a b. w.in_default.is-1.1 b }
      | in_default-via-in_default w ↦ record { not_three = λ a b. w.in_default.is-0.0.1 a; not_one = λ a b. w.in_default.is-0.1 a }
    ] in
    allowed-same _ (sym (other_parts c.args.ranking.now c.args.pivot other)) c.requires.allowed

pub returns-in_default : goal.returns-in_default
returns-in_default g c =
    let other : IsOther c.args.genus c.args.rest.now = elim c.in_default.branch [
      | in_default-via-in-0+in_default w ↦ record { not_three = λ a b. w.in_default.is-1.1 b; not_one = λ a b. absurd (omega (arith, w.in_default.is-0, a)) }
      | in_default-via-in-1+in_default w ↦ record { not_three = λ a b. absurd (omega (arith, w.in_default.is-0, a)); not_one = λ a b. w.in_default.is-1.1 b }
      | in_default-via-in_default w ↦ record { not_three = λ a b. w.in_default.is-0.0.1 a; not_one = λ a b. w.in_default.is-0.1 a }
    ] in
    takes-same (sym (other_parts c.args.ranking.now c.args.pivot other)) c.walk_parts.ensures

pub returns-in-0-eq2 : goal.returns-in-0-eq2
unfolding tensors_of
returns-in-0-eq2 g c =
    let v = c.a.ensures ∙ ap (λ t. (looked_up t).A c.args.pivot (slice_index c.args.rest.now 0) (slice_index c.args.rest.now 1)) c.tensors.ensures in
    takes-same (ap (λ v. Alone v ∷ []) v ∙ sym (three_part c.args.ranking.now c.args.pivot c.args.genus c.args.rest.now c.in-0-eq2.is-0 c.in-0-eq2.is-1)) (takes-one c.alone.ensures.step c.alone.ensures.stays)

pub returns-in-1-eq0 : goal.returns-in-1-eq0
unfolding tensors_of
returns-in-1-eq0 g c =
    let v = c.d.ensures ∙ ap (λ t. (looked_up t).D c.args.pivot) c.tensors-in-1-eq0.ensures in
    takes-same (ap (λ v. Alone v ∷ []) v ∙ sym (one_part c.args.ranking.now c.args.pivot c.args.genus c.args.rest.now c.in-1-eq0.is-0 c.in-1-eq0.is-1)) (takes-one c.alone-in-1-eq0.ensures.step c.alone-in-1-eq0.ensures.stays)
