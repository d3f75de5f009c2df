use Rattle.std.proofs.Common.{◌≡◌, ◌*◌, length, sym, ap, ◌∙◌, arith}
use Rattle.sparse_tensor.specs.Entries.{value_at, value_of}
use Rattle.sparse_tensor.specs.Rows.{Places}
use Rattle.sparse_tensor.proofs.GridLemmas.{IsRow, grid-value}
use Rattle.sparse_tensor.proofs.grid.Grid.value.Goals as goal

pub returns : goal.returns
returns c =
    let rows = c.self.inside.rows.items in
    let dim = c.self.inside.dim in
    let whole : length rows ≡ dim * dim = c.self.invariant in
    let same : dim ≡ c.args.self.now.dim = ap (λ (p : Places). p.dim) c.self.view_is in
    let is_row : IsRow dim c.args.i c.args.j c.row_number.result rows =
    record { below = omega arith; number = c.row_number.ensures.value; within = omega arith } in
    c.value.ensures
    ∙ ap (λ es. value_of es c.args.k) c.index-row.ensures
    ∙ sym (grid-value dim c.args.i c.args.j c.row_number.result rows c.index-row.result.now is_row c.args.k)
    ∙ ap (λ (p : Places). value_at p.entries c.args.i c.args.j c.args.k) c.self.view_is
