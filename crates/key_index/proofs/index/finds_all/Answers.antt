use Rattle.std.proofs.Common.{rules, sym, ap, ◌∙◌, ◌≡◌, ◌+◌, Some}
use Rattle.std.proofs.lemmas.List.{get_or_read}
use Rattle.airy_math.specs.Ranks.{no_key, key_at}
use Rattle.key_index.specs.Codes.{code_of}
use Rattle.key_index.specs.Found.{found}
use Rattle.key_index.proofs.FoundLemmas.{found-more}
use Rattle.key_index.proofs.index.finds_all.Goals as goal

pub loop-key-preserved : goal.loop-key-preserved
unfolding key_at
loop-key-preserved c =
    let key : c.key-item.result ≡ key_at c.args.keys.now c.loop-key.key-index = get_or_read c.args.keys.now c.loop-key.key-index c.key-item.result c.loop-key-test.true c.key-item.is no_key in
    let equal : c.find.result ≡ Some c.loop-key.rank = search rules in
    let here : found c.args.slots.now.slots.items c.args.slots.now.width (code_of (key_at c.args.keys.now c.loop-key.key-index)) ≡ Some c.loop-key.key-index = ap (λ k. found c.args.slots.now.slots.items c.args.slots.now.width (code_of k)) (sym key) ∙ ap (found c.args.slots.now.slots.items c.args.slots.now.width) (sym c.key_code.ensures) ∙ sym c.find.ensures ∙ equal ∙ ap Some c.loop-key.invariant.rank in
    record {
      rank = ap (λ n. n + 1) c.loop-key.invariant.rank;
      found = found-more c.args.slots.now.slots.items c.args.slots.now.width c.args.keys.now c.loop-key.key-index here c.loop-key.invariant.found;
    }
