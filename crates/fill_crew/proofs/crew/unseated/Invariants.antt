use Rattle.std.proofs.Common.{◌≡◌, ◌≤◌, map, vec_len, vec_capacity}
use Rattle.fill_crew.proofs.crew.unseated.Given as goal

abbrev pub invariant-loop-member : goal.invariant-loop-member
invariant-loop-member g l =
    (goal.iterator-loop-member g).can_next l.member-iterator ×
    (goal.iterator-loop-member g).is_finite l.member-iterator ×
    (l.back.items ≡ map (λ m. m.seat) l.yielded) × (vec_len l.fn.members ≤ vec_capacity l.back) × (vec_capacity l.initial.back ≤ vec_capacity l.back)
