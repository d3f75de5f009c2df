use Rattle.std.proofs.Common.{◌≡◌, length, ap, arith}
use Rattle.sparse_tensor.specs.Rows.{Places}
use Rattle.sparse_tensor.proofs.JoinLemmas.{puts_in}
use Rattle.sparse_tensor.proofs.PairsLemmas.{pairs-puts}
use Rattle.sparse_tensor.proofs.pairs.Pairs.put.Goals as goal

pub returns : goal.returns
returns c =
    let rows = c.self.inside.rows.items in
    let same : length rows ≡ c.args.self.now.dim = ap (λ (p : Places). p.dim) c.self.view_is in
    let put = c.put.ensures in
    pairs-puts c.args.i rows c.index_mut-row.result.now (omega arith) c.args.j c.args.k c.args.v c.args.self.now c.put.result c.put.new.self c.index_mut-row.ensures.value c.self.view_is
    (puts_in c.put.result _ _ _ _ put.free put.put put.wanting put.same)
