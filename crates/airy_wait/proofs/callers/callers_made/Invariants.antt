use Rattle.std.proofs.Common.{◌≡◌, ◌+◌, ◌≤◌, length, vec_len}
use Rattle.run_reports.proofs.Names.{IsIdle, EachAt}
use Rattle.airy_wait.specs.Turns.{IsFresh}
use Rattle.airy_wait.proofs.callers.callers_made.Given as goal

abbrev pub invariant-loop : goal.invariant-loop
invariant-loop l = record {
  idle : EachAt (IsIdle l.board) l.seats.items;
  many : l.job.callers ≤ l.counter + vec_len l.seats;
  made : vec_len l.callers ≡ l.counter;
  fresh : EachAt (IsFresh l.board (length l.job.asks.now)) l.callers.items;
}
