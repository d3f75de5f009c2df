use Rattle.std.proofs.Common.{arith, ap, length, get_or, ◌∙◌, ◌≡◌}
use Rattle.airy_math.specs.Ranks.{key_at as key_in, no_key}
use Rattle.amp_plan.specs.Plans.{key_at, keys_of}
use Rattle.std.proofs.lemmas.List.{get_or_read}
use Rattle.amp_plan.proofs.ranking.Ranking.key.Goals as goal

pub returns : goal.returns
unfolding key_at key_in
returns c =
    let keys : c.self.inside.index.keys ≡ keys_of c.args.self.now = c.self.invariant.keys ∙ ap keys_of c.self.view_is in
    let all : c.keys.result.now ≡ keys_of c.args.self.now = c.keys.ensures ∙ keys in
    c.copy.ensures ∙ get_or_read c.keys.result.now c.args.rank c.index-keys-rank.result (omega (arith, ap length all)) c.index-keys-rank.is no_key ∙ ap (λ l. get_or l c.args.rank no_key) all
