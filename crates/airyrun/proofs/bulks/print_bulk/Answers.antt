use Rattle.std.proofs.Common.{◌∙◌, ap, subst}
use Rattle.run_reports.proofs.Names.{looked_up, verdict, IsVerdict}
use Rattle.run_reports.proofs.RelationLemmas.{verdict_tells}
use Rattle.airyrun.proofs.BulkLemmas.{fails_summary, summary_ends}
use Rattle.airyrun.proofs.bulks.print_bulk.Goals as goal

pub returns-in-Closed-clause-ends : goal.returns-in-Closed-clause-ends
returns-in-Closed-clause-ends g c =
    summary_ends c.args.tensors c.args.bound _ _ _ (c.in-Closed.ensures.found ∙ ap (verdict (looked_up c.args.tensors)) c.dim.ensures) c.print_formed.ensures

pub returns-in_default : goal.returns-in_default
returns-in_default g c = record {
  tells =
      subst (IsVerdict (looked_up c.args.tensors)) c.dim.ensures
      (verdict_tells (looked_up c.args.tensors) c.dim.result c.check.result c.check.ensures.found c.check.ensures.closed c.check.ensures.differs);
  ends =
      fails_summary c.args.tensors c.args.bound c.check.result _ _ _ (c.check.ensures.found ∙ ap (verdict (looked_up c.args.tensors)) c.dim.ensures) c.in_default.not-Closed c.say_verdict.ensures;
}
