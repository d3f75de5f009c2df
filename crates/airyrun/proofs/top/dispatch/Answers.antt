use Rattle.std.proofs.Common.{arith, refl, ◌+◌, ◌≡◌, ◌∙◌, ap, sym}
use Rattle.run_reports.proofs.Names.{parted_of, reach, word_refused}
use Rattle.command_words.specs.Words.{Named, Text, Table, Session, Probe, Relations, Number, Volume, Bulk, Refused}
use Rattle.command_words.specs.Options.{lines_of}
use Rattle.command_words.specs.declared.asked.Kind.TheVariants as kinds
use Rattle.run_reports.proofs.AnswerLemmas.{answers_by, answers_from_ends, answers_of_text, answers_with_bound, answers_without_text, of_kind}
use Rattle.run_reports.proofs.JobLemmas.{other_of}
use Rattle.airyrun.specs.Run.{AsksForNoText, Leads, LeadsToClosedSession, LeadsToClosedTable, LeadsToProbe, LeadsToTextRelations}
use Rattle.airyrun.proofs.RunLemmas.{answers_from_family, bulk_said, closed_said, family_relations_said, number_said, other_closed_session, other_family_session, probe_said, text_relations_said, volume_said}
use Rattle.airyrun.proofs.top.dispatch.Goals as goal

pub returns-in-Refused : goal.returns-in-Refused
returns-in-Refused g c =
    let before = c.in-Refused.before in
    answers_by Leads AsksForNoText (Refused (before + 1)) c.in-Refused.ensures.reading (answers_from_ends _ (word_refused (before + 1)) refl (λ e. omega arith) refl c.refuse_word.ensures)

pub returns-in-Probe : goal.returns-in-Probe
returns-in-Probe g c =
    let asked = c.in-Probe in
    answers_by Leads AsksForNoText (Probe asked.bound asked.workers) asked.ensures.reading
    (answers_with_bound _ asked.bound (LeadsToProbe asked.bound) (λ h. h) (λ t. other_of (probe_said asked.bound t)) c.probe.ensures)

pub returns-in-Table-Named-default-default : goal.returns-in-Table-Named-default-default
returns-in-Table-Named-default-default g c =
    let named = c.in-Table-Named-default-default in
    answers_by Leads AsksForNoText (Table (Named named.family) named.bound named.workers)
    (of_kind (λ k. Table k named.bound named.workers) _ named.kind (kinds.Named named.family) named.kind-is named.ensures.reading)
    (answers_from_family _ named.family named.bound (record { unique = c.job_uniqueness.ensures; checked = c.job_checked.ensures; planned = c.planned_once.ensures }) refl
    c.table_of_family.ensures)

pub returns-in-Table-Text-default-default : goal.returns-in-Table-Text-default-default
returns-in-Table-Text-default-default g c =
    let of_text = c.in-Table-Text-default-default in
    answers_by Leads AsksForNoText (Table Text of_text.bound of_text.workers) (of_kind (λ k. Table k of_text.bound of_text.workers) _ of_text.kind kinds.Text of_text.kind-is of_text.ensures.reading)
    (answers_with_bound _ of_text.bound (LeadsToClosedTable of_text.bound) (λ h. h) (λ t. other_of (closed_said of_text.bound t)) c.table_of_text.ensures)

pub returns-in-Relations-default-Named : goal.returns-in-Relations-default-Named
returns-in-Relations-default-Named g c =
    let named = c.in-Relations-default-Named in
    answers_by Leads AsksForNoText (Relations named.places (Named named.family)) (of_kind (λ k. Relations named.places k) _ named.kind (kinds.Named named.family) named.kind-is named.ensures.reading)
    (answers_without_text _ (other_of (family_relations_said named.family named.places)) refl c.relations_of_family.ensures)

pub returns-in-Relations-default-Text : goal.returns-in-Relations-default-Text
returns-in-Relations-default-Text g c =
    let of_text = c.in-Relations-default-Text in
    answers_by Leads AsksForNoText (Relations of_text.places Text) (of_kind (λ k. Relations of_text.places k) _ of_text.kind kinds.Text of_text.kind-is of_text.ensures.reading)
    (answers_of_text _ (LeadsToTextRelations of_text.places) (λ h. h) (λ t. other_of (text_relations_said of_text.places t)) c.relations_of_text.ensures)

pub returns-in-Session-Named-default-default-default : goal.returns-in-Session-Named-default-default-default
returns-in-Session-Named-default-default-default g c =
    let named = c.in-Session-Named-default-default-default in
    let lines = lines_of (parted_of named.script) in
    answers_by Leads AsksForNoText (Session (Named named.family) named.bound named.workers lines)
    (of_kind (λ k. Session k named.bound named.workers lines) _ named.kind (kinds.Named named.family) named.kind-is named.ensures.reading)
    (answers_without_text _ (other_family_session named.family named.bound named.workers lines) refl c.session_of_family.ensures)

pub returns-in-Session-Text-default-default-default : goal.returns-in-Session-Text-default-default-default
returns-in-Session-Text-default-default-default g c =
    let of_text = c.in-Session-Text-default-default-default in
    let lines = lines_of (parted_of of_text.script) in
    answers_by Leads AsksForNoText (Session Text of_text.bound of_text.workers lines)
    (of_kind (λ k. Session k of_text.bound of_text.workers lines) _ of_text.kind kinds.Text of_text.kind-is of_text.ensures.reading)
    (answers_with_bound _ (reach of_text.bound lines) (LeadsToClosedSession of_text.bound of_text.workers lines) (λ h. h) (other_closed_session of_text.bound of_text.workers lines)
    c.session_of_text.ensures)

pub returns-in-Number : goal.returns-in-Number
returns-in-Number g c =
    let asked = c.in-Number in
    answers_by Leads AsksForNoText (Number asked.family asked.key) asked.ensures.reading (answers_without_text _ (other_of (number_said asked.family asked.key)) refl c.number_of_family.ensures)

pub returns-in-Volume : goal.returns-in-Volume
returns-in-Volume g c =
    let asked = c.in-Volume in
    answers_by Leads AsksForNoText (Volume asked.genus asked.places) asked.ensures.reading (answers_without_text _ (other_of (volume_said asked.genus asked.places)) refl c.volume_of_pair.ensures)

pub returns-in-Bulk : goal.returns-in-Bulk
returns-in-Bulk g c =
    let asked = c.in-Bulk in
    answers_by Leads AsksForNoText (Bulk asked.seed asked.dim asked.bound asked.workers) asked.ensures.reading (answers_without_text _ (other_of (bulk_said asked.seed asked.dim asked.bound)) refl c.bulk.ensures)
