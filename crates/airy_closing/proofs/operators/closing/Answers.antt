use Rattle.std.proofs.Common.{◌≡◌, subst}
use Rattle.airy_math.specs.Relations.{Close}
use Rattle.sparse_tensor.specs.Entries.{looked_up}
use Rattle.airy_relations.specs.declared.verdict.Verdict.TheVariants.{Closed}
use Rattle.airy_relations.specs.Numbers.{TellsFailure}
use Rattle.airy_closing.specs.Constants.{CloseByConstants}
use Rattle.airy_closing.proofs.ConstantLemmas.{operators_of}
use Rattle.airy_closing.proofs.operators.closing.Goals as goal

pub returns-clause-operators : goal.returns-clause-operators
unfolding looked_up
returns-clause-operators c =
    let T = looked_up c.args.t.now in
    operators_of c.closing_law.ensures T c.soundness_fact.ensures.symmetric c.check.result
    (subst (λ n. c.check.result ≡ Closed → Close T n) c.dim.ensures c.check.ensures.closed)
    (subst (λ n. TellsFailure T n c.check.result) c.dim.ensures c.check.ensures.differs)

pub returns-clause-constants : goal.returns-clause-constants
unfolding looked_up CloseByConstants
returns-clause-constants c =
    let T = looked_up c.args.t.now in
    λ e. c.numbers_law.ensures T c.soundness_fact.ensures.symmetric (subst (λ n. Close T n) c.dim.ensures (c.check.ensures.closed e))
