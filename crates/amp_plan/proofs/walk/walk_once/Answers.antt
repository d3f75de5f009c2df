use Rattle.std.proofs.Common.{sym, ◌∙◌}
use Rattle.airy_math.specs.Rational.{whole}
use Rattle.amp_plan.proofs.Words.{ranks_of, AreAllowed, Once, once_part, NameAllowed}
use Rattle.amp_plan.proofs.WalkLemmas.{takes-none, takes-one, takes-same, allowed-same, with_rank, without_rank}
use Rattle.amp_plan.proofs.walk.walk_once.Goals as goal

pub once-requires : goal.once-requires
unfolding once_part NameAllowed AreAllowed ranks_of
once-requires g c = (allowed-same _ (with_rank _ (Once (whole c.args.times) c.args.entry.1) _ (sym c.rank_beside.ensures ∙ c.in-Some.is)) c.requires.allowed).0.0

pub returns-in-Some : goal.returns-in-Some
unfolding once_part
returns-in-Some g c = takes-same (with_rank _ _ _ (sym c.rank_beside.ensures ∙ c.in-Some.is)) (takes-one c.once.ensures.step c.once.ensures.stays)

pub returns-in_default : goal.returns-in_default
unfolding once_part
returns-in_default g c = takes-same (without_rank _ _ (λ r e. c.in_default.not-Some r (c.rank_beside.ensures ∙ e))) takes-none
