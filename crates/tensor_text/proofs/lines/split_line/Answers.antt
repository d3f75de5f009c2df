use Rattle.std.proofs.Common.{rules, arith, ◌<◌, length, length-drop}
use Rattle.tensor_text.proofs.LineLemmas.{no_lines, lines_first}
use Rattle.tensor_text.proofs.lines.split_line.Goals as goal

pub returns-then-is_empty : goal.returns-then-is_empty
returns-then-is_empty c = no_lines c.args.text.now (search rules)

pub returns : goal.returns
returns c =
    let some : 0 < length c.args.text.now = search rules in
    let first = lines_first c.args.text.now c.split_at.result.0.now c.split_at.result.1.now some (search rules) (search rules) in
    (rw (c.without_return.ensures, c.without_first.ensures) first, rw c.without_first.ensures (omega (arith, length-drop 1 c.split_at.result.1.now, c.split_at.ensures.back_len)))
