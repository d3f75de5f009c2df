use Rattle.std.proofs.Common.{rules}
use Rattle.airy_math.specs.Keys.{remove}
use Rattle.airy_math.specs.RationalLaws.{0ℚ}
use Rattle.airy_math.specs.Terms.{terms}
use Rattle.amp_plan.specs.Plans.{tensors_of}
use Rattle.amp_terms.proofs.SummingLemmas.{allowed-named}
use Rattle.amp_terms.proofs.pivot.pivot_value.Goals as goal

pub add_terms-requires-clause-seen : goal.add_terms-requires-clause-seen
add_terms-requires-clause-seen g c = allowed-named (g.S.Seen.has c.args.seen.now) c.args.plan.now (terms (tensors_of c.args.plan.now) c.args.pivot c.args.key.now.g (remove c.args.pivot c.args.key.now.idx)) c.requires.seen

pub add_terms-requires-clause-zero : goal.add_terms-requires-clause-zero
unfolding 0ℚ
add_terms-requires-clause-zero g c = search rules
