-- Given values of tensors with the same entries below dim have one end.
use Rattle.std.proofs.Common.{ap, ap₂}
use Rattle.airy_json.proofs.Common.{every, as_table, given_to, said, verified, SameVerifiedLaw}
use Rattle.airy_math.proofs.BelowDimLaw.{below_dim}
use Rattle.amp_terms.specs.Outcomes.{value_in}
use Rattle.series_law.proofs.SameTablesLaw.{failing_same}

pub same_verified : SameVerifiedLaw
unfolding verified given_to
same_verified T T' is X vs = ap₂ said (ap (λ plan. value_in plan (as_table vs)) ((below_dim T T' is).plan X)) (failing_same T T' is X every (as_table vs))
