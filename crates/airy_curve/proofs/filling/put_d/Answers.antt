use Rattle.airy_curve.proofs.PutLemmas.{may_d}
use Rattle.airy_curve.proofs.filling.put_d.Goals as goal

pub unless_wanting-requires : goal.unless_wanting-requires
unless_wanting-requires c = c.put_d.ensures.allowed (may_d c.args.tensors.now c.args.i c.args.value c.requires.below c.requires.fits c.requires.free)
