use Rattle.std.proofs.Common.{◌≡◌, ◌≤◌, ◌++◌, replicate}
use Rattle.airy_index.proofs.splits.push_times.Given as goal

abbrev pub invariant-loop : goal.invariant-loop
invariant-loop l = (l.into.items ≡ l.initial.into.items ++ replicate l.counter l.index) × (l.counter ≤ l.times)
