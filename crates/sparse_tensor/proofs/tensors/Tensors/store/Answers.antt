use Rattle.std.proofs.Common.{refl, subst}
use Rattle.airy_math.specs.Tensors.{is_zero}
use Rattle.sparse_tensor.specs.declared.parts.Part.TheVariants.{A, B, C}
use Rattle.sparse_tensor.specs.Entries.{Entries}
use Rattle.sparse_tensor.specs.Grades.{keeps_a, keeps_b, keeps_c}
use Rattle.sparse_tensor.specs.Puts.{are_inside, keeps_in, taken_in, with_in, IsAdmitted}
use Rattle.sparse_tensor.specs.Rows.{Places, PutsIn}
use Rattle.sparse_tensor.specs.Parts.{gathered, AreParts}
use Rattle.sparse_tensor.proofs.JoinLemmas.{puts-whole}
use Rattle.sparse_tensor.proofs.PutLaw.{left, parts-a, parts-b, parts-c, with_a-some, with_b-some, with_c-some}
use Rattle.sparse_tensor.proofs.tensors.Tensors.store.Goals as goal

pub invariant_of-self : goal.invariant_of-self
unfolding keeps_in
invariant_of-self c =
    let s = c.self.inside in
    let ok : IsAdmitted (are_inside s.dim c.args.i c.args.j c.args.k) (is_zero c.args.v) (keeps_a s.shape c.args.i c.args.j c.args.k) = rw (c.in-A.is, ← c.self.view_is) at c.requires in
    left (λ (p : Places). AreParts (gathered s.dim s.shape s.letter p s.b s.c s.d) p s.b s.c) c.put.result _ s.a _ c.put.new.self (rw (c.min.ensures, c.max.ensures) at c.put.ensures) c.self.invariant
    (parts-a s.dim s.shape s.letter s.a s.b s.c s.d c.self.invariant c.args.i c.args.j c.args.k c.args.v c.range_fact.ensures.range ok)

pub returns-in-A : goal.returns-in-A
unfolding taken_in with_in
returns-in-A c =
    let s = c.self.inside in
    let whole : Places → Entries = λ p. gathered s.dim s.shape s.letter p s.b s.c s.d in
    rw c.in-A.is (subst (λ (t : Entries). PutsIn c.put.result (taken_in A t c.args.i c.args.j c.args.k) t (with_in A t c.args.i c.args.j c.args.k c.args.v) (whole c.put.new.self)) c.self.view_is
    (puts-whole whole c.put.result _ _ s.a _ c.put.new.self _ _ refl refl (with_a-some (whole s.a) c.args.i c.args.j c.args.k c.args.v c.requires.zero_false) (rw (c.min.ensures, c.max.ensures) at c.put.ensures)))

pub invariant_of-self-in-B : goal.invariant_of-self-in-B
unfolding keeps_in
invariant_of-self-in-B c =
    let s = c.self.inside in
    let ok : IsAdmitted (are_inside s.dim c.args.i c.args.j c.args.k) (is_zero c.args.v) (keeps_b s.shape c.args.i c.args.j c.args.k) = rw (c.in-B.is, ← c.self.view_is) at c.requires in
    left (λ (p : Places). AreParts (gathered s.dim s.shape s.letter s.a p s.c s.d) s.a p s.c) c.put-in-B.result _ s.b _ c.put-in-B.new.self c.put-in-B.ensures c.self.invariant
    (parts-b s.dim s.shape s.letter s.a s.b s.c s.d c.self.invariant c.args.i c.args.j c.args.k c.args.v c.range_fact.ensures.range ok)

pub returns-in-B : goal.returns-in-B
unfolding taken_in with_in
returns-in-B c =
    let s = c.self.inside in
    let whole : Places → Entries = λ p. gathered s.dim s.shape s.letter s.a p s.c s.d in
    rw c.in-B.is (subst (λ (t : Entries). PutsIn c.put-in-B.result (taken_in B t c.args.i c.args.j c.args.k) t (with_in B t c.args.i c.args.j c.args.k c.args.v) (whole c.put-in-B.new.self)) c.self.view_is
    (puts-whole whole c.put-in-B.result _ _ s.b _ c.put-in-B.new.self _ _ refl refl (with_b-some (whole s.b) c.args.i c.args.j c.args.k c.args.v c.requires.zero_false) c.put-in-B.ensures))

pub invariant_of-self-in-C : goal.invariant_of-self-in-C
unfolding keeps_in
invariant_of-self-in-C c =
    let s = c.self.inside in
    let ok : IsAdmitted (are_inside s.dim c.args.i c.args.j c.args.k) (is_zero c.args.v) (keeps_c s.shape c.args.i c.args.j c.args.k) = rw (c.in-C.is, ← c.self.view_is) at c.requires in
    left (λ (p : Places). AreParts (gathered s.dim s.shape s.letter s.a s.b p s.d) s.a s.b p) c.put-in-C.result _ s.c _ c.put-in-C.new.self (rw (c.min-in-C.ensures, c.max-in-C.ensures) at c.put-in-C.ensures) c.self.invariant
    (parts-c s.dim s.shape s.letter s.a s.b s.c s.d c.self.invariant c.args.i c.args.j c.args.k c.args.v c.range_fact.ensures.range ok)

pub returns-in-C : goal.returns-in-C
unfolding taken_in with_in
returns-in-C c =
    let s = c.self.inside in
    let whole : Places → Entries = λ p. gathered s.dim s.shape s.letter s.a s.b p s.d in
    rw c.in-C.is (subst (λ (t : Entries). PutsIn c.put-in-C.result (taken_in C t c.args.i c.args.j c.args.k) t (with_in C t c.args.i c.args.j c.args.k c.args.v) (whole c.put-in-C.new.self)) c.self.view_is
    (puts-whole whole c.put-in-C.result _ _ s.c _ c.put-in-C.new.self _ _ refl refl (with_c-some (whole s.c) c.args.i c.args.j c.args.k c.args.v c.requires.zero_false) (rw (c.min-in-C.ensures, c.max-in-C.ensures) at c.put-in-C.ensures)))
