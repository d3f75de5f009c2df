use Rattle.std.proofs.Common.{◌∙◌, sym, ap, Some}
use Rattle.sparse_tensor.specs.Entries.{looked_up}
use Rattle.airy_relations.specs.Sides.{obtained_side}
use Rattle.airy_relations.proofs.SumLoop.{side_AA, side_BA, side_BB, side_BC, any_D}
use Rattle.airy_relations.proofs.sides.side.Goals as goal

pub returns-in-AA : goal.returns-in-AA
returns-in-AA c =
    let T = looked_up c.args.t.now in
    ap Some c.a-entry.ensures ∙ side_AA T c.args.i c.args.j c.args.k c.args.l (rw c.a-entry.ensures at c.range_fact.ensures.range) ∙ ap (λ r. obtained_side T r c.args.i c.args.j c.args.k c.args.l) (sym c.in-AA.is)

pub returns-in-BA : goal.returns-in-BA
returns-in-BA c =
    let T = looked_up c.args.t.now in
    side_BA T c.args.i c.args.j c.args.k c.args.l _ _ _ _ c.row_of_b-first.ensures c.row_of_b-second.ensures c.row_of_b-third.ensures c.sum_three.ensures ∙ ap (λ r. obtained_side T r c.args.i c.args.j c.args.k c.args.l) (sym c.in-BA.is)

pub returns-in-BB : goal.returns-in-BB
returns-in-BB c =
    let T = looked_up c.args.t.now in
    side_BB T c.args.i c.args.j c.args.k c.args.l _ _ _ _ c.row_of_b-first-in-BB.ensures c.row_of_b-second-in-BB.ensures c.line_of_c-third.ensures c.sum_three-in-BB.ensures ∙ ap (λ r. obtained_side T r c.args.i c.args.j c.args.k c.args.l) (sym c.in-BB.is)

pub returns-in-BC : goal.returns-in-BC
returns-in-BC c =
    let T = looked_up c.args.t.now in
    side_BC T c.args.i c.args.j c.args.k c.args.l _ _ _ _ c.row_of_b-first-in-BC.ensures c.line_of_c-second.ensures c.line_of_c-third-in-BC.ensures c.sum_three-in-BC.ensures ∙ ap (λ r. obtained_side T r c.args.i c.args.j c.args.k c.args.l) (sym c.in-BC.is)

pub returns-in-D : goal.returns-in-D
returns-in-D c =
    let T = looked_up c.args.t.now in
    c.side_d.ensures ∙ any_D T c.args.i c.args.j c.args.k c.args.l ∙ ap (λ r. obtained_side T r c.args.i c.args.j c.args.k c.args.l) (sym c.in-D.is)
