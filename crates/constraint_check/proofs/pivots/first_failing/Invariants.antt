use Rattle.std.proofs.Common.{◌≡◌}
use Rattle.constraint_check.specs.Pivots.{ShowsValues, numbers_shown, looks, failing_from}
use Rattle.constraint_check.proofs.pivots.first_failing.Given as goal

-- the keys that are left decide
abbrev pub invariant-loop-rank : goal.invariant-loop-rank
invariant-loop-rank g l = let F = numbers_shown l.plan (g.S.Seen.shown l.initial.seen) in record {
  shows : ShowsValues l.plan (g.S.Seen.has l.seen) (g.S.Seen.shown l.seen);
  same : g.S.Seen.shown l.seen ≡ g.S.Seen.shown l.initial.seen;
  left : failing_from l.plan F (looks l.pivots) l.from ≡ failing_from l.plan F (looks l.pivots) l.rank;
}
