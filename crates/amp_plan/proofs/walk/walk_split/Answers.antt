use Rattle.std.proofs.Common.{sym, subst, ◌∙◌, ◌-◌}
use Rattle.airy_math.specs.Rational.{whole}
use Rattle.amp_plan.proofs.Words.{tensors_of, ranks_of, AreAllowed, Twice, HasRoom, split_part, NameAllowed}
use Rattle.amp_plan.proofs.RankWalkLemmas.{room_ordered, found_beside}
use Rattle.amp_plan.proofs.WalkLemmas.{takes-none, takes-one, takes-same, allowed-same, with_ranks, without_left, without_right}
use Rattle.amp_plan.proofs.walk.walk_split.Goals as goal

pub rank_with-requires-clause-room : goal.rank_with-requires-clause-room
rank_with-requires-clause-room g c = room_ordered (subst (HasRoom (tensors_of c.args.ranking.now) c.args.ranking.now.bound c.args.k) (sym c.as_slice.ensures.value) c.requires.split.part)

pub rank_with-requires-2-clause-room : goal.rank_with-requires-2-clause-room
rank_with-requires-2-clause-room g c = room_ordered (subst (HasRoom (tensors_of c.args.ranking.now) c.args.ranking.now.bound (c.args.genus - c.args.k)) (sym c.as_slice-2.ensures.value) c.requires.split.rest)

pub returns-in_default : goal.returns-in_default
unfolding split_part
returns-in_default g c =
    let left = found_beside c.args.ranking.now c.args.pair.now.a c.as_slice.ensures.value c.requires.split.part c.rank_with.ensures in
    takes-same (without_left _ _ _ (λ r e. c.in_default.not-Some r (left ∙ e))) takes-none

pub returns-in_default-rank_with : goal.returns-in_default-rank_with
unfolding split_part
returns-in_default-rank_with g c =
    let right = found_beside c.args.ranking.now c.args.pair.now.b c.as_slice-2.ensures.value c.requires.split.rest c.rank_with-2.ensures in
    takes-same (without_right _ _ _ (λ r e. c.in_default-rank_with.not-Some r (right ∙ e))) takes-none

pub twice-requires-clause-left : goal.twice-requires-clause-left
unfolding split_part NameAllowed AreAllowed ranks_of
twice-requires-clause-left g c =
    let left = found_beside c.args.ranking.now c.args.pair.now.a c.as_slice.ensures.value c.requires.split.part c.rank_with.ensures in
    let right = found_beside c.args.ranking.now c.args.pair.now.b c.as_slice-2.ensures.value c.requires.split.rest c.rank_with-2.ensures in
    let found = with_ranks _ _ (Twice c.args.pair.now.weight (whole c.args.split.now.weight)) _ _ (sym left ∙ c.in-Some.is) (sym right ∙ c.in-Some-rank_with.is) in
    (allowed-same _ found c.requires.allowed).0.0

pub twice-requires-clause-right : goal.twice-requires-clause-right
unfolding split_part NameAllowed AreAllowed ranks_of
twice-requires-clause-right g c =
    let left = found_beside c.args.ranking.now c.args.pair.now.a c.as_slice.ensures.value c.requires.split.part c.rank_with.ensures in
    let right = found_beside c.args.ranking.now c.args.pair.now.b c.as_slice-2.ensures.value c.requires.split.rest c.rank_with-2.ensures in
    let found = with_ranks _ _ (Twice c.args.pair.now.weight (whole c.args.split.now.weight)) _ _ (sym left ∙ c.in-Some.is) (sym right ∙ c.in-Some-rank_with.is) in
    (allowed-same _ found c.requires.allowed).0.1.0

pub returns : goal.returns
unfolding split_part
returns g c =
    let left = found_beside c.args.ranking.now c.args.pair.now.a c.as_slice.ensures.value c.requires.split.part c.rank_with.ensures in
    let right = found_beside c.args.ranking.now c.args.pair.now.b c.as_slice-2.ensures.value c.requires.split.rest c.rank_with-2.ensures in
    takes-same (with_ranks _ _ _ _ _ (sym left ∙ c.in-Some.is) (sym right ∙ c.in-Some-rank_with.is)) (takes-one c.twice.ensures.step c.twice.ensures.stays)
