use Rattle.std.proofs.Common.{◌≡◌, get_or, ap, ap₂, sym, subst, ◌∙◌, arith}
use Rattle.std.proofs.lemmas.List.{get_or_default}
use Rattle.std.proofs.lemmas.Result.{on_ok_weaker}
use Rattle.airy_math.specs.RationalLaws.{0ℚ}
use Rattle.bulk_tensors.specs.Full.{Lists}
use Rattle.bulk_tensors.specs.Filled.{AreFilled}
use Rattle.sparse_tensor.proofs.PutFacts.{at_ok}
use Rattle.bulk_tensors.proofs.FilledLemmas.{may_put_d, filled_d}
use Rattle.bulk_tensors.proofs.full_tensors.FullTensors.put_d.Goals as goal

pub unless_wanting-requires : goal.unless_wanting-requires
unless_wanting-requires c = c.put_d.ensures.allowed (may_put_d c.args.self.now c.args.tensors.now c.args.i _ c.soundness_fact.ensures.entries c.requires.below c.requires.before)

pub returns : goal.returns
returns c =
    let from = c.args.self.now in
    let dim : c.self.inside.dim ≡ from.dim = ap (λ (u : Lists). u.dim) c.self.view_is in
    let value : get_or c.self.inside.d c.from.result c.index-self-from.result ≡ get_or from.d c.args.i 0ℚ =
    get_or_default c.self.inside.d c.from.result c.index-self-from.result 0ℚ (omega arith) ∙ ap₂ (λ d n. get_or d n 0ℚ) (ap (λ (u : Lists). u.d) c.self.view_is) c.from.ensures in
    let next = filled_d from c.args.tensors.now c.args.i _ c.soundness_fact.ensures.entries c.requires.below value c.requires.before in
    on_ok_weaker c.unless_wanting.result (λ ok. subst (AreFilled _ _ _ _ from) (sym (at_ok c.put_d.result ok c.put_d.ensures.put)) next) c.unless_wanting.ensures
