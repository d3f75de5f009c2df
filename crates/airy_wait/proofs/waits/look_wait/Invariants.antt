use Rattle.std.proofs.Common.{◌≡◌, ℕ}
use Rattle.run_reports.proofs.Names.{IsSeatOf, standing_of}
use Rattle.ask_seats.specs.Counts.{Knows}
use Rattle.airy_wait.proofs.waits.look_wait.Given as goal

abbrev pub invariant-loop : goal.invariant-loop
invariant-loop g l = IsSeatOf l.board l.seat × (standing_of l.seat ≡ standing_of l.initial.seat) × ((r : ℕ) → Knows l.initial.seat r → Knows l.seat r)
