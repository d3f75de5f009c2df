use Rattle.std.proofs.Common.{◌∙◌, ap₂, sym, refl, ◌*◌, ℕ, Some}
use Rattle.frac128.proofs.ProductLemmas.{lowest_sizes-crossed, words_sized}
use Rattle.frac128.proofs.products.word_product.Goals as goal

pub returns : goal.returns
returns c =
    let r = c.requires in
    let e = lowest_sizes-crossed c.args.x c.args.b c.args.y c.args.d _ _ r.some_b r.some_d r.first r.second refl refl in
    let s = words_sized c.args.x c.args.b c.args.y c.args.d _ _ r.words.0 r.words.1 r.words.2 r.words.3 in
    ap₂ (λ (p q : ℕ × ℕ). Some (p.0 * q.0, q.1 * p.1)) c.without_common-x_part.ensures c.without_common-y_part.ensures ∙ sym s ∙ sym e
