use Rattle.std.proofs.Common.{arith, refl, ◌+◌, subst}
use Rattle.airymore.proofs.Words.{word_refused, EndsBy, named, answers_by, answers_from_ends, answers_of_text, answers_with_bound, answers_without_text, of_kind, other_of, AsksForNoText, Leads, LeadsToBrackets, LeadsToCurve, LeadsToCurveRelations, LeadsToTextDocument, LeadsToQuick}
use Rattle.command_words.specs.declared.asked.Kind.TheVariants as kinds
use Rattle.command_words.specs.Words.{Named, Text}
use Rattle.more_words.specs.MoreWords.{Brackets, Curve, CurveRelations, Json, Quick, Refused, Verify}
use Rattle.airymore.proofs.DocumentLemmas.{json_said, text_document_said}
use Rattle.airymore.proofs.VerifyLemmas.{answers_of_document}
use Rattle.airymore.proofs.RunLemmas.{brackets_said, curve_said, curve_relations_said, quick_said}
use Rattle.airymore.proofs.top.dispatch.Goals as goal

pub returns-in-Refused : goal.returns-in-Refused
returns-in-Refused g c =
    let before = c.in-Refused.before in
    answers_by Leads AsksForNoText (Refused (before + 1)) c.in-Refused.ensures.reading (answers_from_ends _ (word_refused (before + 1)) refl (λ e. omega arith) refl c.refuse_word.ensures)

pub returns-in-Curve : goal.returns-in-Curve
returns-in-Curve g c =
    let asked = c.in-Curve in
    answers_by Leads AsksForNoText (Curve asked.bound asked.workers asked.u) asked.ensures.reading
    (answers_without_text _ (other_of (curve_said asked.u asked.bound)) refl
    (subst (λ us. EndsBy (LeadsToCurve us asked.bound) (g.W.Sink.state c.args.out.now) (g.W.Sink.state c.table_of_curve.new.out) c.table_of_curve.result)
    c.as_slice.ensures.numbers c.table_of_curve.ensures))

pub returns-in-CurveRelations : goal.returns-in-CurveRelations
returns-in-CurveRelations g c =
    let asked = c.in-CurveRelations in
    answers_by Leads AsksForNoText (CurveRelations asked.places asked.u) asked.ensures.reading
    (answers_without_text _ (other_of (curve_relations_said asked.u asked.places)) refl
    (subst (λ us. EndsBy (LeadsToCurveRelations us asked.places) (g.W.Sink.state c.args.out.now) (g.W.Sink.state c.relations_of_curve.new.out) c.relations_of_curve.result)
    c.as_slice-in-CurveRelations.ensures.numbers c.relations_of_curve.ensures))

pub returns-in-Brackets : goal.returns-in-Brackets
returns-in-Brackets g c = answers_by Leads AsksForNoText Brackets c.in-Brackets.ensures.reading (answers_of_text _ LeadsToBrackets (λ h. h) (λ t. other_of (brackets_said t)) c.brackets.ensures)

pub returns-in-Quick : goal.returns-in-Quick
returns-in-Quick g c =
    let asked = c.in-Quick in
    answers_by Leads AsksForNoText (Quick asked.bound asked.workers) asked.ensures.reading (answers_with_bound _ asked.bound (LeadsToQuick asked.bound) (λ h. h) (λ t. other_of (quick_said asked.bound t)) c.quick.ensures)

pub returns-in-Json-Named-default-default : goal.returns-in-Json-Named-default-default
returns-in-Json-Named-default-default g c =
    let asked = c.in-Json-Named-default-default in
    answers_by Leads AsksForNoText (Json (Named asked.family) asked.bound asked.workers) (of_kind (λ k. Json k asked.bound asked.workers) _ asked.kind (kinds.Named asked.family) asked.kind-is asked.ensures.reading)
    (answers_without_text _ (other_of (json_said (named asked.family) asked.bound)) refl c.document_of_family.ensures)

pub returns-in-Json-Text-default-default : goal.returns-in-Json-Text-default-default
returns-in-Json-Text-default-default g c =
    let asked = c.in-Json-Text-default-default in
    answers_by Leads AsksForNoText (Json Text asked.bound asked.workers) (of_kind (λ k. Json k asked.bound asked.workers) _ asked.kind kinds.Text asked.kind-is asked.ensures.reading)
    (answers_with_bound _ asked.bound (LeadsToTextDocument asked.bound) (λ h. h) (λ t. other_of (text_document_said asked.bound t)) c.document_of_text.ensures)

pub returns-in-Verify : goal.returns-in-Verify
returns-in-Verify g c = answers_by Leads AsksForNoText Verify c.in-Verify.ensures.reading (answers_of_document _ (λ h. h) c.verify.ensures)
