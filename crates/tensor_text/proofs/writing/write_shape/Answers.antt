use Rattle.std.proofs.Common.{rules, ◌≡◌}
use Rattle.airy_math.specs.declared.Shape.TheVariants.{Exact}
use Rattle.tensor_text.proofs.WriteLemmas.{exact_line}
use Rattle.tensor_text.proofs.writing.write_shape.Goals as goal

pub returns-in-Exact : goal.returns-in-Exact
returns-in-Exact g c =
    let is : c.args.t.now.shape ≡ Exact c.in-Exact.law = search rules in
    rw (is, exact_line c.in-Exact.law c.args.t.now.letter) c.write_law.ensures
