use Rattle.std.proofs.Common.{◌≡◌, ap, sym, subst, arith, rules}
use Rattle.std.proofs.lemmas.Result.{on_ok_weaker}
use Rattle.bulk_tensors.specs.Full.{Lists, entry}
use Rattle.bulk_tensors.specs.Filled.{AreFilled}
use Rattle.sparse_tensor.proofs.PutFacts.{at_ok}
use Rattle.bulk_tensors.proofs.FilledLemmas.{may_put_b, filled_b}
use Rattle.bulk_tensors.proofs.full_tensors.FullTensors.put_b.Goals as goal

pub unless_wanting-requires : goal.unless_wanting-requires
unless_wanting-requires c =
    c.put_b.ensures.allowed (may_put_b c.args.self.now c.args.tensors.now c.args.i c.args.j c.args.k c.at-value.result c.soundness_fact.ensures.entries c.requires.first c.requires.second c.requires.third c.requires.before)

pub returns : goal.returns
returns c =
    let from = c.args.self.now in
    let dim : c.self.inside.dim ≡ from.dim = ap (λ (u : Lists). u.dim) c.self.view_is in
    let value : c.at-value.result ≡ entry from.b c.args.i c.args.j c.args.k = search rules in
    let next = filled_b from c.args.tensors.now c.args.i c.args.j c.args.k c.at-value.result c.soundness_fact.ensures.entries (omega arith) c.requires.first c.requires.second c.requires.third value c.requires.before in
    on_ok_weaker c.unless_wanting.result (λ ok. subst (AreFilled _ _ _ _ from) (sym (at_ok c.put_b.result ok c.put_b.ensures.put)) next) c.unless_wanting.ensures
