use Rattle.std.proofs.Common.{◌≡◌, ◌≤◌, ◌+◌, length, map, vec_len, vec_capacity}
use Rattle.fill_crew.proofs.crew.seated.Given as goal

abbrev pub invariant-loop-seat : goal.invariant-loop-seat
invariant-loop-seat g l =
    (goal.iterator-loop-seat g).can_next l.seat-iterator ×
    (goal.iterator-loop-seat g).is_finite l.seat-iterator ×
    (map (λ m. m.seat) l.members.items ≡ l.yielded) × (l.number ≡ length l.yielded) × (vec_len l.deques + length l.yielded ≡ vec_len l.fn.crew) × (vec_len l.fn.crew ≤ vec_capacity l.members)
