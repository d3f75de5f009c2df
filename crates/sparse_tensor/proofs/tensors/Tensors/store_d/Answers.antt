use Rattle.std.proofs.Common.{ℕ, List, ltb, refl, subst}
use Rattle.airy_math.specs.Rational.{ℚ}
use Rattle.airy_math.specs.Tensors.{is_zero}
use Rattle.sparse_tensor.specs.Entries.{Entries, is_given}
use Rattle.sparse_tensor.specs.Grades.{keeps_d}
use Rattle.sparse_tensor.specs.Puts.{with_d, IsAdmitted}
use Rattle.sparse_tensor.specs.Rows.{PutsIn}
use Rattle.sparse_tensor.specs.Parts.{gathered, AreParts}
use Rattle.sparse_tensor.proofs.JoinLemmas.{puts_in, puts-whole}
use Rattle.sparse_tensor.proofs.PutLaw.{left, parts-d, with_d-some}
use Rattle.sparse_tensor.proofs.tensors.Tensors.store_d.Goals as goal

pub invariant_of-self : goal.invariant_of-self
invariant_of-self c =
    let s = c.self.inside in
    let put = c.put.ensures in
    let ok : IsAdmitted (ltb c.args.i s.dim) (is_zero c.args.v) (keeps_d s.shape c.args.i) = rw (← c.self.view_is) at c.requires in
    left (λ (d : List (ℕ × ℚ)). AreParts (gathered s.dim s.shape s.letter s.a s.b s.c d) s.a s.b s.c) c.put.result _ s.d _ c.put.new.self (puts_in c.put.result _ _ _ _ put.free put.put put.wanting put.same) c.self.invariant
    (parts-d s.dim s.shape s.letter s.a s.b s.c s.d c.self.invariant c.args.i 0 0 c.args.v c.range_fact.ensures.range ok)

pub returns : goal.returns
returns c =
    let s = c.self.inside in
    let put = c.put.ensures in
    let whole : List (ℕ × ℚ) → Entries = λ d. gathered s.dim s.shape s.letter s.a s.b s.c d in
    subst (λ (t : Entries). PutsIn c.put.result (is_given t.d c.args.i) t (with_d t c.args.i c.args.v) (whole c.put.new.self)) c.self.view_is
    (puts-whole whole c.put.result _ _ s.d _ c.put.new.self _ _ refl refl (with_d-some (whole s.d) c.args.i c.args.v c.requires.zero_false) (puts_in c.put.result _ _ _ _ put.free put.put put.wanting put.same))
