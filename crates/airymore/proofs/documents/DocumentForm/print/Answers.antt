use Rattle.std.proofs.Common.{◌∙◌, ap, inl, length, List, Option}
use Rattle.run_reports.proofs.Names.{Outcome}
use Rattle.run_reports.proofs.ReportLemmas.{full-length}
use Rattle.airymore.proofs.DocumentLemmas.{document_written}
use Rattle.airymore.proofs.documents.DocumentForm.print.Goals as goal

pub table_json-requires-clause-long : goal.table_json-requires-clause-long
table_json-requires-clause-long g c = ap (λ (t : List (Option Outcome)). length t) c.requires.full ∙ full-length c.args.plan.now

pub returns-in-Ok : goal.returns-in-Ok
returns-in-Ok g c =
    let text = c.as_bytes.ensures.value ∙ c.in-Ok.ensures.text ∙ document_written c.args.self.now.kind.now c.args.plan.now c.args.table.now c.requires.full in
    inl (rw (← text) c.say.ensures)
