use Rattle.std.proofs.Common.{subst}
use Rattle.airyrun.specs.Numbers.{IsDivision}
use Rattle.airyrun.proofs.VolumeLemmas.{quotients_failed}
use Rattle.airyrun.proofs.volumes.refuse_division.Goals as goal

pub returns-in-Over : goal.returns-in-Over
unfolding IsDivision
returns-in-Over g c = quotients_failed c.args.genus c.args.places c.in-Over.key _ _ _ (subst (IsDivision c.args.genus c.args.places) c.in-Over.is c.requires) c.refuse_key.ensures
