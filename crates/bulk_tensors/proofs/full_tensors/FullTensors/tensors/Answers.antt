use Rattle.std.proofs.Common.{◌≡◌, ◌+◌, ◌*◌, ◌/◌, ◌%◌, ap, sym, subst, ◌∙◌, arith, rules, false}
use Rattle.airy_math.specs.declared.Shape.TheVariants.{All}
use Rattle.sparse_tensor.specs.Entries.{Entries, no_entries}
use Rattle.sparse_tensor.specs.Grades.{IsSmallLaw}
use Rattle.bulk_tensors.specs.Full.{Lists}
use Rattle.bulk_tensors.specs.Filled.{AreFilled}
use Rattle.bulk_tensors.proofs.FilledLemmas.{filled_none, filled_outside, filled_all}
use Rattle.bulk_tensors.proofs.full_tensors.FullTensors.tensors.Goals as goal
use Rattle.bulk_tensors.proofs.full_tensors.FullTensors.tensors.Goals.{then-are_below+in_ok-put_place, else-are_below}

pub empty-requires-clause-law : goal.empty-requires-clause-law
unfolding IsSmallLaw
empty-requires-clause-law c = tt

pub loop-place-init : goal.loop-place-init
loop-place-init c =
    let from = c.args.self.now in
    let dim : c.self.inside.dim ≡ from.dim = ap (λ (u : Lists). u.dim) c.self.view_is in
    let empty : c.in_ok-tensors.tensors ≡ no_entries c.self.inside.dim All false = search rules in
    filled_none from c.in_ok-tensors.tensors (empty ∙ ap (λ d. no_entries d All false) dim)

pub loop-place-preserved : goal.loop-place-preserved
loop-place-preserved c =
    let from = c.args.self.now in
    let p = c.loop-place.place in
    let dim : c.self.inside.dim ≡ from.dim = ap (λ (u : Lists). u.dim) c.self.view_is in
    elim c.if-are_below.branch [
      | then-are_below+in_ok-put_place w ↦
          let same : 64 * (p / 64) + 8 * (p / 8 % 8) + p % 8 + 1 ≡ p + 1 = omega arith in
          subst (λ (t : Entries). AreFilled (p + 1) (p + 1) (p + 1) 0 from t) (sym w.tensors-is) (subst (λ n. AreFilled n n n 0 from w.put_place.new.tensors) same w.in_ok-put_place.ensures)
      | else-are_below w ↦
          let skip = filled_outside p 0 from c.loop-place.tensors (omega arith) (λ x y z. let yes = c.are_below.ensures.1 (omega arith, omega arith, omega arith) in cc) c.loop-place.invariant in
          subst (λ (t : Entries). AreFilled (p + 1) (p + 1) (p + 1) 0 from t) (sym w.tensors-is) skip
    ]

pub returns-clause-entries : goal.returns-clause-entries
returns-clause-entries c =
    let from = c.args.self.now in
    let dim : c.self.inside.dim ≡ from.dim = ap (λ (u : Lists). u.dim) c.self.view_is in
    let whole : c.loop-i.i ≡ from.dim = omega arith in
    λ T symmetric same. filled_all from c.loop-i.tensors T (omega arith) (subst (λ n. AreFilled 512 512 512 n from c.loop-i.tensors) whole c.loop-i.invariant) symmetric same
