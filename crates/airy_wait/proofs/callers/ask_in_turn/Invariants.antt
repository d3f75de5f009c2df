use Rattle.std.proofs.Common.{◌-◌, ◌≤◌, length, vec_capacity}
use Rattle.run_reports.proofs.Names.{IsSeatOf, plan_of}
use Rattle.airy_wait.specs.Asked.{keys_asked}
use Rattle.airy_wait.specs.Turns.{plan_replies, told_to}
use Rattle.airy_wait.proofs.TurnLemmas.{IsGoing}
use Rattle.airy_wait.proofs.callers.ask_in_turn.Given as goal

abbrev pub invariant-loop-at : goal.invariant-loop-at
invariant-loop-at g l = record {
  seat : IsSeatOf l.board l.caller.seat;
  going : IsGoing l.job.callers l.place (plan_replies (plan_of l.board) (keys_asked l.job)) (told_to l.caller) l.at;
  room : length l.job.asks.now ≤ vec_capacity l.caller.told;
  low : l.at ≤ 264;
}

abbrev pub decreases-loop-at : goal.decreases-loop-at
decreases-loop-at g l = length l.job.asks.now - l.at
