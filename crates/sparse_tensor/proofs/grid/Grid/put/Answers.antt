use Rattle.std.proofs.Common.{◌≡◌, ◌*◌, length, ap, arith}
use Rattle.sparse_tensor.specs.Rows.{Places}
use Rattle.sparse_tensor.proofs.JoinLemmas.{puts_in}
use Rattle.sparse_tensor.proofs.GridLemmas.{IsRow, grid-puts}
use Rattle.sparse_tensor.proofs.grid.Grid.put.Goals as goal

pub returns : goal.returns
returns c =
    let rows = c.self.inside.rows.items in
    let dim = c.self.inside.dim in
    let whole : length rows ≡ dim * dim = c.self.invariant in
    let same : dim ≡ c.args.self.now.dim = ap (λ (p : Places). p.dim) c.self.view_is in
    let is_row : IsRow dim c.args.i c.args.j c.row_number-number.result rows = record { below = omega arith; number = c.row_number-number.ensures.value; within = omega arith } in
    let put = c.put.ensures in
    grid-puts dim c.args.i c.args.j c.row_number-number.result rows c.index_mut-row.result.now is_row c.args.k c.args.v c.args.self.now c.put.result c.put.new.self c.index_mut-row.ensures.value c.self.view_is
    (puts_in c.put.result _ _ _ _ put.free put.put put.wanting put.same)
