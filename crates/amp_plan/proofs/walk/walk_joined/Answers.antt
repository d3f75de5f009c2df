use Rattle.std.proofs.Common.{arith, sym, ◌∙◌, ◌≡◌, true, false, nat_lt}
use Rattle.amp_plan.proofs.Words.{ranks_of, AreAllowed, Joined, joined_part, NameAllowed}
use Rattle.amp_plan.proofs.WalkLemmas.{takes-none, takes-one, takes-same, allowed-same, with_rank, without_rank}
use Rattle.amp_plan.proofs.walk.walk_joined.Goals as goal

pub returns-then-genus-eq0 : goal.returns-then-genus-eq0
unfolding joined_part
returns-then-genus-eq0 g c = let t : nat_lt 0 c.args.genus ≡ false = grind arith in rw t takes-none

pub joined-requires : goal.joined-requires
unfolding joined_part NameAllowed AreAllowed ranks_of
joined-requires g c =
    let t : nat_lt 0 c.args.genus ≡ true = grind arith in
    (allowed-same _ (with_rank _ (Joined c.args.pair.now.weight) _ (sym c.rank_joined.ensures ∙ c.in-Some.is)) (rw t at c.requires.allowed)).0.0

pub returns-in-Some : goal.returns-in-Some
unfolding joined_part
returns-in-Some g c =
    let t : nat_lt 0 c.args.genus ≡ true = grind arith in
    rw t (takes-same (with_rank _ _ _ (sym c.rank_joined.ensures ∙ c.in-Some.is)) (takes-one c.joined.ensures.step c.joined.ensures.stays))

pub returns-in_default : goal.returns-in_default
unfolding joined_part
returns-in_default g c =
    let t : nat_lt 0 c.args.genus ≡ true = grind arith in
    rw t (takes-same (without_rank _ _ (λ r e. c.in_default.not-Some r (c.rank_joined.ensures ∙ e))) takes-none)
