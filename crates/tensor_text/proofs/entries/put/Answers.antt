use Rattle.sparse_tensor.specs.Puts.{putting_in}
use Rattle.tensor_text.proofs.PutLemmas.{puts_here}
use Rattle.tensor_text.proofs.entries.put.Goals as goal
use Rattle.sparse_tensor.proofs.PutFacts.{inside}

pub returns : goal.returns
unfolding putting_in
returns c =
    let t = c.args.tensors.now in
    let inside = inside t.dim c.args.i c.args.j c.args.k c.requires.i_inside c.requires.j_inside c.requires.k_inside in
    rw c.stored.ensures (puts_here c.put.result _ _ _ c.args.v t _ c.put.new.self inside c.put.ensures)
