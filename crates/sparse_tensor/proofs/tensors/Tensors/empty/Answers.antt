use Rattle.std.proofs.Common.{refl}
use Rattle.sparse_tensor.specs.Entries.{no_entries}
use Rattle.sparse_tensor.proofs.SoundLaw.{none_kept}
use Rattle.sparse_tensor.proofs.tensors.Tensors.empty.Goals as goal

pub invariant_of-result : goal.invariant_of-result
unfolding no_entries
invariant_of-result c =
    rw (c.in_ok-a.ensures, c.in_ok-b.ensures, c.in_ok-c.ensures, c.new-d.ensures) (record {
      entries = none_kept c.args.dim c.args.shape c.args.letter c.requires.some c.requires.most c.requires.law c.requires.letter;
      a_dim = refl;
      b_dim = refl;
      c_dim = refl;
    })

pub returns : goal.returns
unfolding no_entries
returns c = rw (c.in_ok-a.ensures, c.in_ok-b.ensures, c.in_ok-c.ensures, c.new-d.ensures) refl
