use Rattle.airymore.proofs.Words.{LeadsToBrackets}
use Rattle.run_reports.proofs.TextLemmas.{read_ends, refusal_ends}
use Rattle.airymore.proofs.brackets.brackets.Goals as goal

pub returns-in-Ok : goal.returns-in-Ok
returns-in-Ok g c = read_ends LeadsToBrackets _ _ _ _ _ c.in-Ok.tensors c.in-Ok.ensures.read c.in-Ok.ensures.cause c.print_closing.ensures

pub returns-in-Err : goal.returns-in-Err
returns-in-Err g c = refusal_ends LeadsToBrackets _ _ _ _ _ c.in-Err.refusal c.in-Err.ensures.read c.in-Err.ensures.cause c.refuse_text.ensures
