use Rattle.std.proofs.Common.{rules, refl, ◌≡◌, ◌∷◌}
use Rattle.airy_index.proofs.Words.{nil_from_length, runs, TakesNone}
use Rattle.airy_index.proofs.RunLemmas.{reads_first, reads_same, reads_other, reads_all, reads_none}
use Rattle.airy_index.proofs.runs.runs_of.Goals as goal
use Rattle.airy_index.proofs.runs.runs_of.Goals.{then-x-run, else-x-run}

pub returns-in_default-clause-counts : goal.returns-in_default-clause-counts
unfolding runs
returns-in_default-clause-counts c = rw (nil_from_length c.args.idx.now c.in_default.ensures.cases, c.new-found.ensures) refl

pub returns-in_default-clause-none : goal.returns-in_default-clause-none
unfolding TakesNone
returns-in_default-clause-none c = rw c.new-found.ensures tt

pub loop-x-init : goal.loop-x-init
loop-x-init c =
    let whole : c.args.idx.now ≡ c.in-Some.first.now ∷ c.in-Some.others.now = search rules in
    rw (c.new-found.ensures, c.single-run.ensures, whole) (reads_first c.in-Some.first.now c.in-Some.others.now)

pub loop-x-preserved : goal.loop-x-preserved
loop-x-preserved c = elim c.if-x-run.branch [
  | then-x-run w ↦ rw (w.found-is, w.run-is) (reads_same c.loop-x.found.items c.loop-x.run c.in-Some.others.now c.loop-x.x-index c.args.idx.now c.loop-x.invariant c.loop-x-test.true w.if-x-run.true)
  | else-x-run w ↦ rw (w.found-is, w.run-is, w.push.ensures.items, w.single-run-else-x-run.ensures) (reads_other c.loop-x.found.items c.loop-x.run c.in-Some.others.now c.loop-x.x-index c.args.idx.now c.loop-x.invariant c.loop-x-test.true w.if-x-run.false)
]

pub returns-clause-counts : goal.returns-clause-counts
returns-clause-counts c = rw c.push-2.ensures.items (reads_all c.loop-x.found.items c.loop-x.run c.in-Some.others.now c.loop-x.x-index c.args.idx.now c.loop-x.invariant c.loop-x-test.false)

pub returns-clause-none : goal.returns-clause-none
returns-clause-none c = rw c.push-2.ensures.items (reads_none c.loop-x.found.items c.loop-x.run c.in-Some.others.now c.loop-x.x-index c.args.idx.now c.loop-x.invariant)
