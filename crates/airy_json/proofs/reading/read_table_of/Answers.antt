use Rattle.std.proofs.Common.{List, subst, arith}
use Rattle.airy_json.proofs.Common.{Key, kind_seen, AreCells, items_view}
use Rattle.airy_json.proofs.CellLemmas.{given}
use Rattle.airy_json.proofs.reading.read_table_of.Goals as goal

pub returns : goal.returns
returns c =
    let ds = items_view c.args.cells.now.items in
    given (kind_seen c.args.kind) c.args.bound c.in_ok-plan.plan c.in_ok-values.values.items ds (omega arith) c.in_ok-plan.ensures.plan (c.in_ok-plan.ensures.answer ds)
    (subst (λ (keys : List Key). AreCells keys ds c.in_ok-values.values.items) c.keys.ensures c.in_ok-values.ensures.cells)
