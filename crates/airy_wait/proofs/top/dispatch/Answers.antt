use Rattle.std.proofs.Common.{arith, refl, ◌+◌, ◌≡◌, ◌∙◌, ap, sym}
use Rattle.run_reports.proofs.Names.{word_refused, structure_of}
use Rattle.command_words.specs.Words as words
use Rattle.command_words.specs.declared.asked.Kind.TheVariants as kinds
use Rattle.run_reports.proofs.AnswerLemmas.{answers_by, answers_from_ends, answers_with_bound, answers_without_text, of_kind}
use Rattle.run_reports.proofs.JobLemmas.{other_of}
use Rattle.airy_wait.specs.Run.{AsksForNoText, Leads}
use Rattle.airy_wait.specs.Asked.{keys_asked}
use Rattle.airy_wait.specs.Waiting.{LeadsToClosedWaiting}
use Rattle.airy_wait.specs.Words.{Waiting, Refused}
use Rattle.airy_wait.proofs.StatusLaw.{closed_said, waiting_said}
use Rattle.airy_wait.proofs.top.dispatch.Goals as goal

pub returns-in-Refused : goal.returns-in-Refused
returns-in-Refused g c =
    let before = c.in-Refused.before in
    answers_by Leads AsksForNoText (Refused (before + 1)) c.in-Refused.ensures.reading (answers_from_ends _ (word_refused (before + 1)) refl (λ e. omega arith) refl c.refuse_word.ensures)

pub returns-in-Waiting-Named-default-default : goal.returns-in-Waiting-Named-default-default
returns-in-Waiting-Named-default-default g c =
    let named = c.in-Waiting-Named-default-default in let keys = keys_asked named.job in
    answers_by Leads AsksForNoText (Waiting (words.Named named.family) named.bound named.job.workers named.job.callers keys)
    (of_kind (λ k. Waiting k named.bound named.job.workers named.job.callers keys) _ named.kind (kinds.Named named.family) named.kind-is named.ensures.reading)
    (answers_without_text _ (other_of (waiting_said (structure_of named.family) named.bound keys)) refl c.wait_on_family.ensures)

pub returns-in-Waiting-Text-default-default : goal.returns-in-Waiting-Text-default-default
returns-in-Waiting-Text-default-default g c =
    let of_text = c.in-Waiting-Text-default-default in let keys = keys_asked of_text.job in
    answers_by Leads AsksForNoText (Waiting words.Text of_text.bound of_text.job.workers of_text.job.callers keys)
    (of_kind (λ k. Waiting k of_text.bound of_text.job.workers of_text.job.callers keys) _ of_text.kind kinds.Text of_text.kind-is of_text.ensures.reading)
    (answers_with_bound _ of_text.bound (LeadsToClosedWaiting of_text.bound keys) (λ h. h) (λ t. other_of (closed_said of_text.bound keys t)) c.wait_on_text.ensures)
