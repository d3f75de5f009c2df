use Rattle.std.proofs.Common.{◌≡◌, ℕ, [], List, length, ap, ap₂, ◌∙◌, arith}
use Rattle.std.proofs.lemmas.List.{length-replicate}
use Rattle.sparse_tensor.specs.Entries.{Entry}
use Rattle.sparse_tensor.specs.Rows.{joined, pair_entries}
use Rattle.sparse_tensor.proofs.PairsLemmas.{pairs-empty}
use Rattle.sparse_tensor.proofs.pairs.Pairs.empty.Goals as goal

pub returns : goal.returns
returns c =
    let none : joined pair_entries 0 c.loop-row.rows.items ≡ [] =
    ap (joined pair_entries 0) c.loop-row.invariant ∙ pairs-empty c.loop-row._row in
    let all : length c.loop-row.rows.items ≡ c.args.dim = ap length c.loop-row.invariant ∙ length-replicate c.loop-row._row [] ∙ omega arith in
    ap₂ (λ (n : ℕ) (es : List Entry). record { dim = n; entries = es }) all none
