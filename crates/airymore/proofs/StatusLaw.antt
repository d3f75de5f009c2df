-- How the reports that the words lead to stand to what they mean.
use Rattle.std.proofs.Common.{◌≡◌, refl}
use Rattle.airymore.proofs.Words.{Run, named, plain_range, JudgedOne, judged_by, judged_bound, judged_said, judged_text, judged_word, LeadsToBrackets, brackets_report, LeadsToTextDocument, text_document, LeadsToQuick, quick_report, Leads}
use Rattle.command_words.specs.Words.{Named, Text}
use Rattle.more_words.specs.MoreWords.{Reading, Curve, CurveRelations, Brackets, Quick, Json, Verify, Refused}
use Rattle.airymore.specs.Laws.{meant, TakesMemory}
use Rattle.airymore.proofs.DocumentLemmas.{json_said, text_document_said}
use Rattle.airymore.proofs.VerifyLemmas.{document_stands, no_word, plain_verify}
use Rattle.airymore.proofs.RunLemmas.{brackets_said, curve_said, curve_relations_said, quick_said}

pub judged_more : (run : Run) (r : Reading) → JudgedOne run (λ place. r ≡ Refused place) (Leads r run) (meant r) (TakesMemory r)
unfolding meant
judged_more run (Curve X workers us) = judged_said run _ (curve_said us X)
judged_more run (CurveRelations N us) = judged_said run _ (curve_relations_said us N)
judged_more run Brackets = judged_text run _ LeadsToBrackets brackets_report brackets_said tt
judged_more run (Quick X workers) = judged_bound run _ (LeadsToQuick X) (quick_report X) X (quick_said X)
judged_more run (Json (Named family) X workers) = judged_said run _ (json_said (named family) X)
judged_more run (Json Text X workers) = judged_bound run _ (LeadsToTextDocument X) (text_document X) X (text_document_said X)
judged_more run Verify =
    judged_by run _ (document_stands run (λ bytes r e. e) (tt, refl)) (λ text. plain_range (plain_verify text)) (λ report leads h. absurd (no_word _ _ report leads h))
judged_more run (Refused place) = judged_word run _ place refl
