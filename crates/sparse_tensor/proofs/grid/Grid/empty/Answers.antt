use Rattle.std.proofs.Common.{◌≡◌, [], List, ap, ◌∙◌}
use Rattle.sparse_tensor.specs.Entries.{Entry}
use Rattle.sparse_tensor.specs.Rows.{joined, grid_row}
use Rattle.sparse_tensor.proofs.GridLemmas.{grid-empty}
use Rattle.sparse_tensor.proofs.grid.Grid.empty.Goals as goal

pub returns : goal.returns
returns c =
    let none : joined (grid_row c.args.dim) 0 c.loop-row.rows.items ≡ [] =
    ap (joined (grid_row c.args.dim) 0) c.loop-row.invariant ∙ grid-empty c.args.dim c.loop-row._row in
    ap (λ (es : List Entry). record { dim = c.args.dim; entries = es }) none
