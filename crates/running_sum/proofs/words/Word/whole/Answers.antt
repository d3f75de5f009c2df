use Rattle.std.specs.Int.{w64}
use Rattle.std.proofs.Common.{refl}
use Rattle.airy_math.specs.Rational.{whole}
use Rattle.std.proofs.lemmas.Int.{to_z_pos}
use Rattle.running_sum.proofs.words.Word.whole.Goals as goal

pub returns : goal.returns
unfolding whole
returns c = rw (to_z_pos w64 c.args.n c.requires) refl
