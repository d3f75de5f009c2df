use Rattle.std.proofs.Common.{◌≡◌, ap, ◌∙◌}
use Rattle.airy_math.specs.RationalLaws.{1ℚ}
use Rattle.sparse_tensor.specs.Entries.{Entries, no_entries}
use Rattle.sparse_tensor.specs.Puts.{Free, putting_a, with_a}
use Rattle.sparse_tensor.proofs.PutFacts.{allowed_free, at_ok}
use Rattle.airy_curve.proofs.BeginLemmas.{free-a, begun}
use Rattle.airy_curve.proofs.making.with_corner.Goals as goal

pub unless_wanting-requires : goal.unless_wanting-requires
unfolding 1ℚ
unless_wanting-requires c =
    let free : putting_a c.in_ok-tensors.tensors 0 0 0 c.whole.result ≡ Free =
    ap (λ (t : Entries). putting_a t 0 0 0 c.whole.result) c.in_ok-tensors.ensures
    ∙ ap (putting_a (no_entries c.args.dim c.args.shape c.args.letter) 0 0 0) c.whole.ensures
    ∙ free-a c.args.dim c.args.shape c.args.letter c.requires.some c.requires.most c.requires.law c.requires.letter c.requires.graded in
    c.put_a.ensures.allowed (allowed_free _ free)

pub returns : goal.returns
unfolding 1ℚ
returns c =
    begun c.args.dim c.args.shape c.args.letter c.put_a.new.self
    (free-a c.args.dim c.args.shape c.args.letter c.requires.some c.requires.most c.requires.law c.requires.letter c.requires.graded)
    (at_ok c.put_a.result c.in_ok-unless_wanting.ensures c.put_a.ensures.put
    ∙ ap (λ (t : Entries). with_a t 0 0 0 c.whole.result) c.in_ok-tensors.ensures
    ∙ ap (with_a (no_entries c.args.dim c.args.shape c.args.letter) 0 0 0) c.whole.ensures)
