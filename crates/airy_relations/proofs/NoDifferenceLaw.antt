-- Where the relations hold, the verdict is never Differs.
use Rattle.std.proofs.Common.{◌≡◌, refl}
use Rattle.airy_relations.specs.NoDifference.{FindsNoDifference, NoDifferenceLaw}
use Rattle.airy_relations.specs.Numbers.{TellsFailure}
use Rattle.airy_relations.specs.Verdicts.{Verdict, Closed, Differs, Over, verdict}
use Rattle.airy_relations.proofs.ClosedLaw.{failure_law}

pub no_difference_law : NoDifferenceLaw
unfolding FindsNoDifference TellsFailure
no_difference_law T N s c = by (verdict T N) refl
  where
    by : (v : Verdict) → v ≡ verdict T N → FindsNoDifference v
    by Closed e = tt
    by (Over rel place) e = tt
    by (Differs rel place left right) e = (failure_law T N s (Differs rel place left right) e).not_closed c
