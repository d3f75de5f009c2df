use Rattle.std.proofs.Common.{rules, arith, ◌≡◌, ◌<◌, length, length-drop, sym, ◌∙◌}
use Rattle.tensor_text.proofs.LineLemmas.{no_words, words_first, words_blank}
use Rattle.tensor_text.proofs.lines.split_word.Goals as goal

pub returns-then-not-is_empty : goal.returns-then-not-is_empty
returns-then-not-is_empty c =
    let some : 0 < length c.loop-rest.rest.now = search rules in
    let word : 0 < length c.split_at.result.0.now = search rules in
    let first = words_first c.loop-rest.rest.now c.split_at.result.0.now c.split_at.result.1.now some word (search rules) (search rules) in
    rw c.without_first-rest.ensures (sym c.loop-rest.invariant ∙ first)

pub loop-rest-smaller : goal.loop-rest-smaller
loop-rest-smaller c =
    let some : 0 < length c.loop-rest.rest.now = search rules in
    rw c.without_first-rest.ensures (omega (arith, length-drop 1 c.split_at.result.1.now, c.split_at.ensures.back_len))

pub loop-rest-preserved : goal.loop-rest-preserved
loop-rest-preserved c =
    let some : 0 < length c.loop-rest.rest.now = search rules in
    let none : length c.split_at.result.0.now ≡ 0 = search rules in
    rw c.without_first-rest.ensures (words_blank c.loop-rest.rest.now c.split_at.result.0.now c.split_at.result.1.now some none (search rules) (search rules) ∙ c.loop-rest.invariant)

pub returns : goal.returns
returns c = let none : length c.loop-rest.rest.now ≡ 0 = search rules in sym c.loop-rest.invariant ∙ no_words c.loop-rest.rest.now none
