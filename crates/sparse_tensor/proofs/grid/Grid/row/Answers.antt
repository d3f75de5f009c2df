use Rattle.std.proofs.Common.{◌≡◌, ◌*◌, length, sym, ap, ◌∙◌, arith}
use Rattle.sparse_tensor.specs.Rows.{Places, row_of}
use Rattle.sparse_tensor.proofs.GridLemmas.{IsRow, grid-row}
use Rattle.sparse_tensor.proofs.grid.Grid.row.Goals as goal

pub returns : goal.returns
returns c =
    let rows = c.self.inside.rows.items in
    let dim = c.self.inside.dim in
    let whole : length rows ≡ dim * dim = c.self.invariant in
    let same : dim ≡ c.args.self.now.dim = ap (λ (p : Places). p.dim) c.self.view_is in
    let is_row : IsRow dim c.args.i c.args.j c.row_number.result rows =
    record { below = omega arith; number = c.row_number.ensures.value; within = omega arith } in
    c.entries.ensures
    ∙ c.index-row.ensures
    ∙ sym (grid-row dim c.args.i c.args.j c.row_number.result rows c.index-row.result.now is_row)
    ∙ ap (λ (p : Places). row_of c.args.i c.args.j p.entries) c.self.view_is
