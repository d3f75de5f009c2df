use Rattle.std.proofs.Common.{ap, ap₂, ◌∙◌}
use Rattle.airy_math.specs.Obtained.{obtained_sum}
use Rattle.airy_math.specs.Rational.{neg_ℚ}
use Rattle.sparse_tensor.specs.Entries.{looked_up}
use Rattle.airy_closing.specs.Constants.{obtained_constant}
use Rattle.airy_closing.proofs.ConstantLemmas.{obtained_is}
use Rattle.airy_closing.proofs.brackets.bracket.Goals as goal

pub returns-clause-constant : goal.returns-clause-constant
unfolding looked_up obtained_constant
returns-clause-constant c =
    obtained_is c.bracket_law.ensures (looked_up c.args.t.now) c.soundness_fact.ensures.symmetric c.args.i c.args.j c.args.a
    c.requires.i_below c.requires.j_below c.requires.a_below c.add.result
    (c.add.ensures ∙ ap₂ obtained_sum c.b.ensures (c.neg.ensures ∙ ap neg_ℚ c.b-2.ensures))
