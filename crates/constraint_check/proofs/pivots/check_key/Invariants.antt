use Rattle.std.proofs.Common.{◌≡◌, drop}
use Rattle.amp_plan.specs.Plans.{tensors_of}
use Rattle.series_law.specs.Scans.{failing_pivot}
use Rattle.constraint_check.specs.Pivots.{ShowsValues, numbers_shown, looks}
use Rattle.constraint_check.proofs.pivots.check_key.Given as goal

-- the pivots that are left decide
abbrev pub invariant-loop-at : goal.invariant-loop-at
invariant-loop-at g l = let F = numbers_shown l.plan (g.S.Seen.shown l.initial.seen) in record {
  shows : ShowsValues l.plan (g.S.Seen.has l.seen) (g.S.Seen.shown l.seen);
  same : g.S.Seen.shown l.seen ≡ g.S.Seen.shown l.initial.seen;
  left : failing_pivot (tensors_of l.plan) F (looks l.pivots) l.key (drop l.at l.key.idx) ≡ failing_pivot (tensors_of l.plan) F (looks l.pivots) l.key l.key.idx;
}
