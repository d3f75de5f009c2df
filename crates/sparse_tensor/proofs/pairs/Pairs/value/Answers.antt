use Rattle.std.proofs.Common.{◌≡◌, ◌<◌, length, sym, ap, ◌∙◌, arith}
use Rattle.sparse_tensor.specs.Entries.{value_at}
use Rattle.sparse_tensor.specs.Rows.{Places, pair_value}
use Rattle.sparse_tensor.proofs.PairsLemmas.{pairs-value}
use Rattle.sparse_tensor.proofs.pairs.Pairs.value.Goals as goal

pub returns : goal.returns
returns c =
    let rows = c.self.inside.rows.items in
    let same : length rows ≡ c.args.self.now.dim = ap (λ (p : Places). p.dim) c.self.view_is in
    let within : c.args.i < length rows = omega arith in
    c.value.ensures
    ∙ ap (λ es. pair_value es c.args.j c.args.k) c.index-row.ensures
    ∙ sym (pairs-value c.args.i rows c.index-row.result.now within c.args.j c.args.k)
    ∙ ap (λ (p : Places). value_at p.entries c.args.i c.args.j c.args.k) c.self.view_is
