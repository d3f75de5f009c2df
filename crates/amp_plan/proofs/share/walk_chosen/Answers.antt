use Rattle.std.proofs.Common.{sym, ap, subst, ◌∙◌, ◌<◌, ◌^◌}
use Rattle.airy_math.specs.Rational.{whole}
use Rattle.amp_plan.proofs.Words.{ranks_of, AreAllowed, NameAllowed, Twice, split_part}
use Rattle.amp_plan.proofs.WalkLemmas.{takes-none, takes-one, takes-same, allowed-same, with_ranks, without_left, without_right}
use Rattle.amp_plan.proofs.ChoiceLemmas.{choices-end}
use Rattle.amp_plan.proofs.StageLemmas.{chosen-light, left_code, part_within, left_found, right_found}
use Rattle.amp_plan.proofs.share.walk_chosen.Goals as goal

pub plus-left-requires-clause-other : goal.plus-left-requires-clause-other
plus-left-requires-clause-other g c = chosen-light c.requires.share c.requires.go_on.chosen

pub find_live-requires-clause-code : goal.find_live-requires-clause-code
find_live-requires-clause-code g c = subst (λ m. m.code < 2 ^ 63) (sym c.plus-left.ensures) (left_code c.requires.share c.requires.go_on.chosen)

pub returns-in_default : goal.returns-in_default
unfolding split_part
returns-in_default g c = λ s k.
    let left = left_found c.requires.share k c.plus-left.ensures c.find_live.ensures in
    takes-same (without_left _ _ _ (λ r e. c.in_default.not-Some r (left ∙ e)) ∙ sym (choices-end c.args.ranking.now c.args.share.now s)) takes-none

pub minus-right-requires-clause-part : goal.minus-right-requires-clause-part
minus-right-requires-clause-part g c = chosen-light c.requires.share c.requires.go_on.chosen

pub minus-right-requires-clause-places : goal.minus-right-requires-clause-places
minus-right-requires-clause-places g c = (part_within c.requires.go_on.chosen).places

pub minus-right-requires-clause-code : goal.minus-right-requires-clause-code
minus-right-requires-clause-code g c = (part_within c.requires.go_on.chosen).code

pub returns-in_default-find_live : goal.returns-in_default-find_live
unfolding split_part
returns-in_default-find_live g c = λ s k.
    let right = right_found c.requires.share k c.minus-right.ensures c.find_live-2.ensures in
    takes-same (without_right _ _ _ (λ r e. c.in_default-find_live.not-Some r (right ∙ e)) ∙ sym (choices-end c.args.ranking.now c.args.share.now s)) takes-none

pub twice-requires-clause-left : goal.twice-requires-clause-left
unfolding split_part NameAllowed AreAllowed ranks_of
twice-requires-clause-left g c =
    let k = c.requires.go_on.chosen in
    let left = left_found c.requires.share k c.plus-left.ensures c.find_live.ensures in
    let right = right_found c.requires.share k c.minus-right.ensures c.find_live-2.ensures in
    let found = with_ranks _ _ (Twice c.args.share.now.pair.now.weight (whole c.requires.go_on.split.ways)) _ _ (sym left ∙ c.in-Some.is) (sym right ∙ c.in-Some-find_live.is) in
    (allowed-same _ (found ∙ sym (choices-end c.args.ranking.now c.args.share.now c.requires.go_on.split)) c.requires.go_on.allowed).0.0

pub twice-requires-clause-right : goal.twice-requires-clause-right
unfolding split_part NameAllowed AreAllowed ranks_of
twice-requires-clause-right g c =
    let k = c.requires.go_on.chosen in
    let left = left_found c.requires.share k c.plus-left.ensures c.find_live.ensures in
    let right = right_found c.requires.share k c.minus-right.ensures c.find_live-2.ensures in
    let found = with_ranks _ _ (Twice c.args.share.now.pair.now.weight (whole c.requires.go_on.split.ways)) _ _ (sym left ∙ c.in-Some.is) (sym right ∙ c.in-Some-find_live.is) in
    (allowed-same _ (found ∙ sym (choices-end c.args.ranking.now c.args.share.now c.requires.go_on.split)) c.requires.go_on.allowed).0.1.0

pub returns : goal.returns
unfolding split_part
returns g c = λ s k.
    let left = left_found c.requires.share k c.plus-left.ensures c.find_live.ensures in
    let right = right_found c.requires.share k c.minus-right.ensures c.find_live-2.ensures in
    let found = with_ranks _ _ (Twice c.args.share.now.pair.now.weight (whole s.ways)) _ _ (sym left ∙ c.in-Some.is) (sym right ∙ c.in-Some-find_live.is) in
    let step = c.twice.ensures.step ∙ ap (λ n. g.V.TermVisitor.step (g.V.TermVisitor.state c.args.visitor.now) (Twice c.args.share.now.pair.now.weight (whole n) c.in-Some.left c.in-Some-find_live.right)) k.ways in
    takes-same (found ∙ sym (choices-end c.args.ranking.now c.args.share.now s)) (takes-one step c.twice.ensures.stays)
