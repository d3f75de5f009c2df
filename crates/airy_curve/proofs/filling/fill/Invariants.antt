use Rattle.airy_curve.specs.Numbers.{held}
use Rattle.airy_curve.proofs.FillingLaw.{Walks, place}
use Rattle.airy_curve.proofs.filling.fill.Given as goal

abbrev pub invariant-loop-i : goal.invariant-loop-i
invariant-loop-i l = Walks (held l.numbers) l.most (place l.i 0 0) l.fn.tensors l.tensors

abbrev pub invariant-loop-j : goal.invariant-loop-j
invariant-loop-j l = Walks (held l.numbers) l.most (place l.i l.j 0) l.fn.tensors l.tensors

abbrev pub invariant-loop-k : goal.invariant-loop-k
invariant-loop-k l = Walks (held l.numbers) l.most (place l.i l.j l.k) l.fn.tensors l.tensors
