use Rattle.std.proofs.Common.{arith, ◌≡◌, ap, ◌∙◌, length, ◌++◌, ◌∷◌, [], Err}
use Rattle.index_lists.proofs.Words.{key_of, euler, ordered-sorted}
use Rattle.index_lists.proofs.KeyLemmas.{no_error, added_where_ok}
use Rattle.index_lists.proofs.listing.add_key.Goals as goal

pub unreachable-requires : goal.unreachable-requires
unfolding euler
unreachable-requires c = no_error c.in_default.field-0
    (λ e. let n = c.of.ensures.none.0 (c.in_default.is ∙ ap Err e) in omega (arith, ap length n))
    (λ e. let n = c.of.ensures.many.0 (c.in_default.is ∙ ap Err e) in omega (arith, n))
    (λ e. let n = c.of.ensures.unstable.0 (c.in_default.is ∙ ap Err e) in omega (arith, n.2))

pub returns-clause-added : goal.returns-clause-added
returns-clause-added c =
    let e : c.in-Ok.key ≡ key_of c.args.genus c.args.indices.now = c.in-Ok.ensures.key ∙ ap (key_of c.args.genus) (ordered-sorted 0 256 c.args.indices.now c.requires.sorted) in
    added_where_ok c.map_err.result c.push.result _ _ _ _ c.map_err.ensures.variant c.push.ensures.items (ap (λ k. c.args.keys.now.items ++ k ∷ []) e)
