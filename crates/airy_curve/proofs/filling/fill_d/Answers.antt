use Rattle.std.proofs.Common.{◌≡◌, ◌<◌, ℕ, sym, ap, subst, ◌∙◌, arith}
use Rattle.std.proofs.lemmas.Result.{on_ok_weaker}
use Rattle.sparse_tensor.specs.Entries.{Entries}
use Rattle.airy_curve.specs.Filling.{FitsD}
use Rattle.airy_curve.proofs.DLemmas.{empty_d, free_d, first_d, first_others, both_d, both_others}
use Rattle.airy_curve.proofs.filling.fill_d.Goals as goal

pub put_d-requires-clause-free : goal.put_d-requires-clause-free
put_d-requires-clause-free c = empty_d c.args.tensors.now 0 c.requires.before

pub returns-then-dim-eq1-clause-filled : goal.returns-then-dim-eq1-clause-filled
returns-then-dim-eq1-clause-filled c = first_d c.args.tensors.now c.put_d.new.tensors c.args.first c.requires.before c.in_ok-put_d.ensures c.args.second (omega arith)

pub returns-then-dim-eq1-clause-others : goal.returns-then-dim-eq1-clause-others
returns-then-dim-eq1-clause-others c = first_others c.args.tensors.now c.put_d.new.tensors 0 c.args.first c.in_ok-put_d.ensures

pub put_d-requires-2-clause-below : goal.put_d-requires-2-clause-below
put_d-requires-2-clause-below c =
    let e = ap (λ (u : Entries). u.dim) (first_others c.args.tensors.now c.put_d.new.tensors 0 c.args.first c.in_ok-put_d.ensures) in
    more c.put_d.new.tensors.dim (omega (arith, e, c.soundness_fact.ensures.entries.some)) (λ h. c.if-dim-eq1.false (c.dim.ensures ∙ h))
  where
    more : (n : ℕ) → 0 < n → (n ≡ 1 → ⊥) → 1 < n
    more n p h = grind arith

pub put_d-requires-2-clause-fits : goal.put_d-requires-2-clause-fits
put_d-requires-2-clause-fits c =
    subst (λ s. FitsD s 1 c.args.second) (sym (ap (λ (u : Entries). u.shape) (first_others c.args.tensors.now c.put_d.new.tensors 0 c.args.first c.in_ok-put_d.ensures))) c.requires.second

pub put_d-requires-2-clause-free : goal.put_d-requires-2-clause-free
put_d-requires-2-clause-free c = free_d c.args.tensors.now c.put_d.new.tensors c.args.first c.requires.before c.in_ok-put_d.ensures

pub returns-clause-filled : goal.returns-clause-filled
returns-clause-filled c = on_ok_weaker c.put_d-2.result (λ e. both_d c.args.tensors.now c.put_d.new.tensors c.args.first c.requires.before c.in_ok-put_d.ensures c.put_d-2.new.tensors c.args.second e) c.put_d-2.ensures

pub returns-clause-others : goal.returns-clause-others
returns-clause-others c = on_ok_weaker c.put_d-2.result (λ e. both_others c.args.tensors.now c.put_d.new.tensors c.put_d-2.new.tensors c.args.first c.args.second c.in_ok-put_d.ensures e) c.put_d-2.ensures
