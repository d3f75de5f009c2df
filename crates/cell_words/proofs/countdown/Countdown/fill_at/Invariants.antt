use Rattle.std.proofs.Common.{◌≡◌, [], ◌∷◌, ◌++◌, true, All}
use Rattle.std.specs.List.{FoldsTo}
use Rattle.cell_words.proofs.Names.{has, dependents_at, tail_of, act_of, freed_by, IsAtAct, view_of}
use Rattle.cell_words.specs.Seats.{plan_of}
use Rattle.cell_words.proofs.countdown.Countdown.fill_at.Given as goal

abbrev pub invariant-loop-i : goal.invariant-loop-i
invariant-loop-i g l = record {
  act : IsAtAct l.self l.seat (act_of l.fn.rank 4 true l.i (freed_by (view_of l.seat) l.fn.rank));
  seen : (view_of l.seat).seen ≡ (view_of l.fn.seat).seen ++ l.fn.rank ∷ [];
  others : tail_of (view_of l.seat).portions ≡ tail_of (view_of l.fn.seat).portions;
  kept : (l.seat.number ≡ l.fn.seat.number) × (l.seat.held ≡ l.fn.seat.held) × (l.seat.done ≡ l.fn.seat.done);
  freed : All (λ t. has t (dependents_at (plan_of l.self) l.fn.rank) ≡ true) (freed_by (view_of l.seat) l.fn.rank);
  told : FoldsTo (λ p x q. goal.R-step g p x tt q) l.fn.ready (freed_by (view_of l.seat) l.fn.rank) l.ready;
}
