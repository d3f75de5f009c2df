use Rattle.std.proofs.Common.{rules, arith, sym, ap, ap₂, ◌∙◌, ◌<◌, ◌+◌, get_or, take_all}
use Rattle.key_index.specs.Codes.{code_of_list}
use Rattle.key_index.proofs.CodeLemmas.{list_code-none, list_code-next, list_code-taken, index_code-small}
use Rattle.key_index.proofs.codes.list_code.Goals as goal

pub loop-index-init : goal.loop-index-init
loop-index-init c = sym list_code-none

pub overflow_add-code : goal.overflow_add-code
overflow_add-code c =
    let index = get_or c.args.indices.now c.loop-index.index-index 0 in
    let small : get_or c.args.indices.now c.loop-index.index-index 0 < 256 = search rules in
    omega (arith, c.requires.codes index small, index_code-small index, list_code-taken c.args.indices.now c.loop-index.index-index (omega (arith, c.loop-index-test.true)), c.loop-index.invariant, c.requires.short, c.loop-index-test.true)

pub loop-index-preserved : goal.loop-index-preserved
loop-index-preserved c =
    let small : get_or c.args.indices.now c.loop-index.index-index 0 < 256 = search rules in
    ap₂ (λ m n. m + n) c.loop-index.invariant (c.requires.codes (get_or c.args.indices.now c.loop-index.index-index 0) small) ∙ sym (list_code-next c.args.indices.now c.loop-index.index-index c.loop-index-test.true)

pub returns : goal.returns
returns c = c.loop-index.invariant ∙ ap code_of_list (take_all c.loop-index.index-index c.args.indices.now (omega (arith, c.loop-index-test.false)))
