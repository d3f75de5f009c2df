use Rattle.std.proofs.Common.{◌≡◌, ◌-◌, sym, subst, ap, ◌∙◌}
use Rattle.std.specs.Prelude.{None}
use Rattle.std.proofs.lemmas.Option.{none-some}
use Rattle.airy_curve.specs.Numbers.{held}
use Rattle.airy_curve.specs.Filling.{Fits, Tells}
use Rattle.airy_curve.specs.Steps.{entry_refusal}
use Rattle.airy_curve.specs.Storing.{Names}
use Rattle.named_families.specs.Exact.{single}
use Rattle.named_families.proofs.ExactLaw.{fits_single, single_fine}
use Rattle.named_families.proofs.filling.fill_places.Goals as goal

pub fill-requires-clause-fits : goal.fill-requires-clause-fits
fill-requires-clause-fits c = subst (λ f. Fits c.args.tensors.now.shape f (1 - c.args.shift)) (sym c.single.ensures) (subst (λ s. Fits s (single (1 - c.args.shift)) (1 - c.args.shift)) (sym c.requires.shape) (fits_single c.args.shift c.requires.shift))

pub unreachable-requires : goal.unreachable-requires
unfolding Tells Names
unreachable-requires c =
    let small = c.soundness_fact.ensures.entries.most in
    let none : entry_refusal (held c.single.result) c.args.tensors.now.dim (1 - c.args.shift) ≡ None = ap (λ f. entry_refusal f c.args.tensors.now.dim (1 - c.args.shift)) c.single.ensures ∙ single_fine (1 - c.args.shift) (1 - c.args.shift) c.args.tensors.now.dim small in
    let told = subst (λ e. Names e (entry_refusal (held c.single.result) c.args.tensors.now.dim (1 - c.args.shift))) c.in-Err-Over.field-0-is c.in-Err-Over.ensures.told in
    none-some c.in-Err-Over.field-0-0 (sym none ∙ told)
