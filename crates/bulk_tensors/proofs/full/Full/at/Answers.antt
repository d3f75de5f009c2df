use Rattle.std.proofs.Common.{◌+◌, ◌*◌, List, get_or, ap, ◌∙◌, arith}
use Rattle.std.proofs.lemmas.List.{get_or_default}
use Rattle.airy_math.specs.Rational.{ℚ}
use Rattle.airy_math.specs.RationalLaws.{0ℚ}
use Rattle.bulk_tensors.specs.Full.{entry}
use Rattle.bulk_tensors.proofs.full.Full.at.Goals as goal

pub returns : goal.returns
unfolding entry
returns c =
    let p = 64 * c.args.i + 8 * c.args.j + c.args.k in
    c.index.ensures
    ∙ get_or_default c.self.inside.entries.items p c.index.result.now 0ℚ (omega (arith, c.self.invariant))
    ∙ ap (λ (l : List ℚ). get_or l p 0ℚ) c.self.view_is
