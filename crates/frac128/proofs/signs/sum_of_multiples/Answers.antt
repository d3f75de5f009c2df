use Rattle.std.proofs.Common.{rules, ◌≡◌, ◌∙◌, Some, pos, ◌*ℤ◌, ◌+ℤ◌}
use Rattle.frac128.specs.Steps.{ranged}
use Rattle.frac128.proofs.SumLemmas.{ranged-both}
use Rattle.frac128.proofs.signs.sum_of_multiples.Goals as goal

pub returns : goal.returns
returns c =
    let l : ranged (c.args.a *ℤ pos c.args.m) ≡ Some c.in_ok-left.left = search rules in
    let r : ranged (c.args.c *ℤ pos c.args.n) ≡ Some c.in_ok-right.right = search rules in
    let e : c.sum_of.result ≡ ranged (c.in_ok-left.left +ℤ c.in_ok-right.right) = search rules in
    e ∙ ranged-both (c.args.a *ℤ pos c.args.m) (c.args.c *ℤ pos c.args.n) c.in_ok-left.left c.in_ok-right.right l r
