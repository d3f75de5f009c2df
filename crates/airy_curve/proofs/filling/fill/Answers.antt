use Rattle.std.proofs.Common.{ap, refl, subst, arith, ◌∙◌}
use Rattle.std.proofs.lemmas.Result.{err_from_is_err_and}
use Rattle.sparse_tensor.specs.Entries.{Entries, is_taken}
use Rattle.airy_curve.specs.Filling.{Tells}
use Rattle.airy_curve.specs.Numbers.{held}
use Rattle.airy_curve.specs.Storing.{Names}
use Rattle.airy_curve.proofs.FillingLaw.{Walks, free_b, free_c, place, place_here, still_place, told_at, told_none, walk_starts, walked, walks_on, walks_plane, walks_row}
use Rattle.airy_curve.proofs.PutLemmas.{b-is}
use Rattle.airy_curve.proofs.filling.fill.Goals as goal

pub loop-i-init : goal.loop-i-init
loop-i-init c = walk_starts (held c.args.numbers.now) c.args.most c.args.tensors.now c.requires.no_b c.requires.no_c

pub loop-j-init : goal.loop-j-init
loop-j-init c = c.loop-i.invariant

pub loop-k-init : goal.loop-k-init
loop-k-init c = c.loop-j.invariant

pub fill_b-requires-clause-place : goal.fill_b-requires-clause-place
fill_b-requires-clause-place c = place_here (held c.args.numbers.now) c.args.most c.args.tensors.now c.loop-i.i c.loop-j.j c.loop-k.k c.loop-k.tensors c.soundness_fact-in-loop-k.ensures.entries c.loop-k.invariant (omega arith) (omega arith) (omega arith) c.requires.most c.requires.fits

pub fill_b-requires-clause-free : goal.fill_b-requires-clause-free
fill_b-requires-clause-free c = free_b (held c.args.numbers.now) c.args.most c.args.tensors.now c.loop-i.i c.loop-j.j c.loop-k.k c.loop-k.tensors c.soundness_fact-in-loop-k.ensures.entries c.loop-k.invariant (omega arith) (omega arith) (omega arith)

pub returns-in_err-fill_b-clause-told : goal.returns-in_err-fill_b-clause-told
returns-in_err-fill_b-clause-told c =
    let p = err_from_is_err_and c.from_residual.result c.from_residual.ensures.1 in
    rw (p.1, p.2) (told_at (held c.args.numbers.now) c.args.most (place c.loop-i.i c.loop-j.j c.loop-k.k) c.args.tensors.now c.loop-k.tensors c.loop-k.invariant c.soundness_fact.ensures.entries.most c.loop-i.i c.loop-j.j c.loop-k.k (omega arith) (omega arith) (omega arith) refl _ c.in_err-fill_b.ensures.told)

pub fill_c-requires-clause-place : goal.fill_c-requires-clause-place
fill_c-requires-clause-place c =
    still_place (held c.args.numbers.now) c.args.most c.loop-i.i c.loop-j.j c.loop-k.k c.loop-k.tensors c.fill_b.new.tensors c.in_ok-fill_b.ensures.put (place_here (held c.args.numbers.now) c.args.most c.args.tensors.now c.loop-i.i c.loop-j.j c.loop-k.k c.loop-k.tensors c.soundness_fact-in-loop-k.ensures.entries c.loop-k.invariant (omega arith) (omega arith) (omega arith) c.requires.most c.requires.fits)

pub fill_c-requires-clause-free : goal.fill_c-requires-clause-free
fill_c-requires-clause-free c = ap (λ (u : Entries). is_taken u.c c.loop-i.i c.loop-j.j c.loop-k.k) (c.in_ok-fill_b.ensures.put ∙ b-is c.loop-k.tensors c.loop-i.i c.loop-j.j c.loop-k.k _) ∙ free_c (held c.args.numbers.now) c.args.most c.args.tensors.now c.loop-i.i c.loop-j.j c.loop-k.k c.loop-k.tensors c.soundness_fact-in-loop-k.ensures.entries c.loop-k.invariant (omega arith) (omega arith) (omega arith)

pub returns-in_err-fill_c-clause-told : goal.returns-in_err-fill_c-clause-told
unfolding Tells Names
returns-in_err-fill_c-clause-told c = let p = err_from_is_err_and c.from_residual-in_err-fill_c.result c.from_residual-in_err-fill_c.ensures.1 in rw (p.1, p.2) tt

pub loop-k-preserved : goal.loop-k-preserved
unfolding Tells
loop-k-preserved c = walks_on (held c.args.numbers.now) c.args.most c.args.tensors.now c.loop-i.i c.loop-j.j c.loop-k.k c.loop-k.tensors c.soundness_fact-in-loop-k.ensures.entries c.loop-k.invariant (omega arith) (omega arith) (omega arith) c.fill_b.new.tensors c.fill_c.new.tensors c.in_ok-fill_b.ensures.put c.in_ok-fill_c.ensures c.in_ok-fill_b.ensures.told

pub loop-j-preserved : goal.loop-j-preserved
loop-j-preserved c = walks_row (held c.args.numbers.now) c.args.most c.args.tensors.now c.loop-k.tensors c.soundness_fact.ensures.entries.most c.loop-i.i c.loop-j.j c.loop-k.k (omega arith) (omega arith) c.loop-k.invariant

pub loop-i-preserved : goal.loop-i-preserved
loop-i-preserved c = walks_plane (held c.args.numbers.now) c.args.most c.args.tensors.now c.loop-j.tensors c.soundness_fact.ensures.entries.most c.loop-i.i c.loop-j.j (omega arith) c.loop-j.invariant

pub returns-clause-filled : goal.returns-clause-filled
returns-clause-filled c =
    walked (held c.args.numbers.now) c.args.most c.args.tensors.now c.loop-i.tensors c.soundness_fact.ensures.entries.most (subst (λ n. Walks (held c.args.numbers.now) c.args.most (place n 0 0) c.args.tensors.now c.loop-i.tensors) (omega arith) c.loop-i.invariant)

pub returns-clause-told : goal.returns-clause-told
unfolding Tells
returns-clause-told c = told_none (held c.args.numbers.now) c.args.most (place c.loop-i.i 0 0) c.args.tensors.now c.loop-i.tensors c.loop-i.invariant c.soundness_fact.ensures.entries.most (omega arith)
