use Rattle.std.proofs.Common.{◌≡◌, ◌+◌, false, refl, subst, ◌∙◌, arith}
use Rattle.std.specs.Prelude.{None, Some, IfErr, OnOk}
use Rattle.std.proofs.lemmas.Result.{IfOk-weaker}
use Rattle.airy_math.specs.RationalLaws.{1ℚ}
use Rattle.airy_math.specs.Tensors.{SameEntries}
use Rattle.sparse_tensor.specs.Entries.{looked_up}
use Rattle.airy_math.specs.Curves.{curve, number_of, of_list}
use Rattle.airy_curve.specs.Numbers.{held, Holds}
use Rattle.airy_curve.specs.Steps.{first_answer, number_refusal, or_else, curve_refusal}
use Rattle.airy_curve.specs.Storing.{Names}
use Rattle.airy_curve.proofs.AgreeLemmas.{same_curve, same_tensors}
use Rattle.airy_curve.proofs.StepLemmas.{number_first}
use Rattle.airy_curve.proofs.ValueLemmas.{both_ok}
use Rattle.airy_curve.proofs.making.curve_cut.Goals as goal

pub returns-in-Err-clause-over : goal.returns-in-Err-clause-over
unfolding Names curve_refusal or_else
returns-in-Err-clause-over c =
    let none = subst (λ f. first_answer 1 c.args.most (number_refusal f) ≡ Some c.in-Err.k) c.sequence_of.ensures c.in-Err.ensures.over in
    rw none refl

pub returns-clause-stands : goal.returns-clause-stands
returns-clause-stands c =
    let u = of_list c.args.u.now in
    let made = subst (λ f. Holds (number_of f) (c.args.most + 1) c.in-Ok.numbers) c.sequence_of.ensures c.in-Ok.ensures.made in
    let same : curve (held c.in-Ok.numbers) c.args.dim c.args.most ≡ curve (number_of u) c.args.dim c.args.most = same_curve (held c.in-Ok.numbers) (number_of u) c.args.most (λ e p. made.at e (omega arith)) c.args.dim c.requires.exponents in
    both_ok c.tensors_of.result (λ t. SameEntries (looked_up t) (curve (held c.in-Ok.numbers) c.args.dim c.args.most)) (λ t. t.letter ≡ false) _
    (λ t entries letter. record { entries = subst (SameEntries (looked_up t)) same entries; letter = letter }) c.tensors_of.ensures.entries c.tensors_of.ensures.letter

pub returns-clause-closes : goal.returns-clause-closes
unfolding looked_up curve
returns-clause-closes c =
    let u = of_list c.args.u.now in
    let made = subst (λ f. Holds (number_of f) (c.args.most + 1) c.in-Ok.numbers) c.sequence_of.ensures c.in-Ok.ensures.made in
    let first : held c.in-Ok.numbers 0 ≡ 1ℚ = made.at 0 (omega arith) ∙ number_first u in
    IfOk-weaker c.tensors_of.result (λ t. SameEntries (looked_up t) (curve (held c.in-Ok.numbers) c.args.dim c.args.most)) _
    (λ t entries N h p. c.curve_closes.ensures t (held c.in-Ok.numbers) c.args.dim c.args.most N first entries (omega (arith, entries.dim)) p) c.tensors_of.ensures.entries

pub returns-clause-obtained : goal.returns-clause-obtained
unfolding curve_refusal or_else
returns-clause-obtained c =
    let u = of_list c.args.u.now in
    let made = subst (λ f. Holds (number_of f) (c.args.most + 1) c.in-Ok.numbers) c.sequence_of.ensures c.in-Ok.ensures.made in
    let same = same_tensors (held c.in-Ok.numbers) (number_of u) c.args.most (λ e p. made.at e (omega arith)) c.args.dim c.requires.exponents in
    let none = subst (λ f. first_answer 1 c.args.most (number_refusal f) ≡ None) c.sequence_of.ensures c.in-Ok.ensures.obtained in
    rw none (subst (λ o. OnOk c.tensors_of.result (o ≡ None)) same c.tensors_of.ensures.obtained)

pub returns-clause-over : goal.returns-clause-over
unfolding curve_refusal or_else
returns-clause-over c =
    let u = of_list c.args.u.now in
    let made = subst (λ f. Holds (number_of f) (c.args.most + 1) c.in-Ok.numbers) c.sequence_of.ensures c.in-Ok.ensures.made in
    let same = same_tensors (held c.in-Ok.numbers) (number_of u) c.args.most (λ e p. made.at e (omega arith)) c.args.dim c.requires.exponents in
    let none = subst (λ f. first_answer 1 c.args.most (number_refusal f) ≡ None) c.sequence_of.ensures c.in-Ok.ensures.obtained in
    rw none (subst (λ o. IfErr c.tensors_of.result (λ e. Names e o)) same c.tensors_of.ensures.over)
