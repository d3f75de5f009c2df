use Rattle.std.proofs.Common.{◌-◌, ◌∙◌}
use Rattle.airy_math.specs.Named.{wk_shape}
use Rattle.named_families.proofs.ExactLaw.{small_wk, graded_wk, wk_shape-exact, stands_wk}
use Rattle.named_families.proofs.families.wk_cut.Goals as goal

pub with_corner-requires-clause-law : goal.with_corner-requires-clause-law
unfolding wk_shape
with_corner-requires-clause-law c = small_wk

pub with_corner-requires-clause-graded : goal.with_corner-requires-clause-graded
unfolding wk_shape
with_corner-requires-clause-graded c = graded_wk

pub fill_exact-requires-clause-shape : goal.fill_exact-requires-clause-shape
unfolding wk_shape
fill_exact-requires-clause-shape c = c.in_ok-tensors.ensures.shape_is ∙ wk_shape-exact

pub returns : goal.returns
unfolding wk_shape
returns c =
    let stands = stands_wk c.args.dim c.in_ok-tensors.tensors c.fill_exact.new.tensors c.requires.some c.in_ok-tensors.ensures c.in_ok-fill_exact.ensures in
    record { stands = stands; closes = λ N h. c.wk_closes.ensures c.fill_exact.new.tensors (c.args.dim - 1) N stands h }
