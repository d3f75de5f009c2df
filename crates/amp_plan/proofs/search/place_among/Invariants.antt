use Rattle.std.proofs.Common.{◌≤◌, ◌-◌, length}
use Rattle.airy_math.specs.Ranks.{place_of}
use Rattle.amp_plan.proofs.search.place_among.Given as goal

abbrev pub invariant-loop-low : goal.invariant-loop-low
invariant-loop-low l = record {
  low : l.low ≤ place_of l.key l.keys;
  high : place_of l.key l.keys ≤ l.high;
  within : l.high ≤ length l.keys;
}

abbrev pub decreases-loop-low : goal.decreases-loop-low
decreases-loop-low l = l.high - l.low
