use Rattle.std.proofs.lemmas.Bool.{lt-ltb}
use Rattle.sparse_tensor.specs.Entries.{is_given}
use Rattle.sparse_tensor.specs.Puts.{putting_d}
use Rattle.tensor_text.proofs.PutLemmas.{puts_here}
use Rattle.tensor_text.proofs.entries.put_d.Goals as goal

pub returns : goal.returns
unfolding putting_d
returns c =
    let t = c.args.tensors.now in
    let inside = lt-ltb c.args.i t.dim c.requires in
    let puts = c.put_d.ensures in
    rw c.stored.ensures (puts_here c.put_d.result _ _ (is_given t.d c.args.i) c.args.v t _ c.put_d.new.self inside
    (record { index = puts.index; grade = puts.grade; twice = puts.twice; nothing = puts.nothing; allowed = puts.allowed; put = puts.put; same = puts.same }))
