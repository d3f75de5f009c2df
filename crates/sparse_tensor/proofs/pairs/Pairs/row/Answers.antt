use Rattle.std.proofs.Common.{◌≡◌, ◌<◌, length, sym, ap, ◌∙◌, arith}
use Rattle.sparse_tensor.specs.Rows.{Places, pairs_of}
use Rattle.sparse_tensor.proofs.PairsLemmas.{pairs-row}
use Rattle.sparse_tensor.proofs.pairs.Pairs.row.Goals as goal

pub returns : goal.returns
returns c =
    let rows = c.self.inside.rows.items in
    let same : length rows ≡ c.args.self.now.dim = ap (λ (p : Places). p.dim) c.self.view_is in
    let within : c.args.i < length rows = omega arith in
    c.entries.ensures
    ∙ c.index-row.ensures
    ∙ sym (pairs-row c.args.i rows c.index-row.result.now within)
    ∙ ap (λ (p : Places). pairs_of c.args.i p.entries) c.self.view_is
