use Rattle.std.proofs.Common.{arith, ap, slice_index}
use Rattle.index_lists.proofs.ListWalkLemmas.{lead, lead-more, lead-other, lead-end, runs-first, head-index}
use Rattle.index_lists.proofs.rest.run_length.Goals as goal

pub returns-then-x-first-clause-run : goal.returns-then-x-first-clause-run
returns-then-x-first-clause-run c =
    let list = c.args.list.now in
    let end = lead-other (slice_index list 0) list c.loop-x.x-index c.loop-x-test.true c.if-x-first.true in
    runs-first list c.loop-x.length c.requires.some (omega (arith, end, c.loop-x.invariant.count, ap (λ x. lead x list) (head-index list)))

pub loop-x-preserved : goal.loop-x-preserved
loop-x-preserved c =
    let list = c.args.list.now in
    let more = lead-more (slice_index list 0) list c.loop-x.x-index c.loop-x-test.true c.if-x-first.false in
    record {
      count = omega (arith, more, c.loop-x.invariant.count);
      index = omega (arith, c.loop-x.invariant.index);
    }

pub returns-clause-run : goal.returns-clause-run
returns-clause-run c =
    let list = c.args.list.now in
    let end = lead-end (slice_index list 0) list c.loop-x.x-index c.loop-x-test.false in
    runs-first list c.loop-x.length c.requires.some (omega (arith, end, c.loop-x.invariant.count, ap (λ x. lead x list) (head-index list)))
