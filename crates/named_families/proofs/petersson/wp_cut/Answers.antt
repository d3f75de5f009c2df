use Rattle.std.proofs.Common.{◌≡◌, refl, sym, subst, ◌∙◌, arith}
use Rattle.std.proofs.lemmas.Result.{err_from_is_err_and}
use Rattle.airy_math.specs.Families.{wp_cut, wp_number}
use Rattle.airy_math.specs.Tensors.{SameEntries}
use Rattle.sparse_tensor.specs.Entries.{looked_up}
use Rattle.airy_math.specs.Curves.{curve}
use Rattle.airy_curve.specs.Numbers.{held}
use Rattle.airy_curve.specs.Steps.{or_else, tensors_refusal}
use Rattle.airy_curve.specs.Storing as curves
use Rattle.airy_curve.proofs.AgreeLemmas.{same_curve, same_tensors}
use Rattle.named_families.specs.Families.{Names, StandsForLettered}
use Rattle.named_families.specs.Steps.{wp_refusal}
use Rattle.named_families.proofs.NumberLaw.{refusal_of_entries, names_made}
use Rattle.named_families.proofs.petersson.wp_cut.Goals as goal

pub returns-in-Err-clause-over : goal.returns-in-Err-clause-over
unfolding Names wp_refusal or_else
returns-in-Err-clause-over c = rw (c.in-Err.ensures.over) refl

pub returns-in_err-tensors_of-clause-over : goal.returns-in_err-tensors_of-clause-over
returns-in_err-tensors_of-clause-over c =
    let p = err_from_is_err_and c.from_residual.result c.from_residual.ensures.1 in
    let same : tensors_refusal (held c.in-Ok.numbers) c.args.dim c.args.most ≡ wp_refusal c.args.dim c.args.most =
    same_tensors (held c.in-Ok.numbers) (wp_number) c.args.most (λ e q. c.in-Ok.ensures.made.at e (omega arith)) c.args.dim c.requires.exponents
    ∙ refusal_of_entries c.args.dim c.args.most c.in-Ok.ensures.obtained in
    rw (p.1, p.2) (names_made c.in_err-tensors_of.field-0.0 (wp_refusal c.args.dim c.args.most) (subst (curves.Names c.in_err-tensors_of.field-0.0) same c.in_err-tensors_of.ensures.over))

pub returns : goal.returns
unfolding wp_cut
returns c =
    let t = c.in_ok-tensors_of.field-0 in
    let same : curve (held c.in-Ok.numbers) c.args.dim c.args.most ≡ curve (wp_number) c.args.dim c.args.most = same_curve (held c.in-Ok.numbers) (wp_number) c.args.most (λ e q. c.in-Ok.ensures.made.at e (omega arith)) c.args.dim c.requires.exponents in
    let refusal : tensors_refusal (held c.in-Ok.numbers) c.args.dim c.args.most ≡ wp_refusal c.args.dim c.args.most =
    same_tensors (held c.in-Ok.numbers) (wp_number) c.args.most (λ e q. c.in-Ok.ensures.made.at e (omega arith)) c.args.dim c.requires.exponents
    ∙ refusal_of_entries c.args.dim c.args.most c.in-Ok.ensures.obtained in
    let stands : StandsForLettered t (wp_cut c.args.dim c.args.most) = record {
      entries = subst (SameEntries (looked_up t)) same c.in_ok-tensors_of.ensures.entries;
      letter = c.in_ok-tensors_of.ensures.letter;
    } in
    record {
      stands = stands;
      closes = λ N h p. c.wp_closes.ensures t c.args.dim c.args.most N stands h p;
      obtained = sym refusal ∙ c.in_ok-tensors_of.ensures.obtained;
      over = tt;
    }
