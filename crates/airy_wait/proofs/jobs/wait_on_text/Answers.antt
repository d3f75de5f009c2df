use Rattle.run_reports.proofs.TextLemmas.{bounded_ends, input_ends}
use Rattle.airy_wait.specs.Asked.{keys_asked}
use Rattle.airy_wait.specs.Waiting.{LeadsToClosedWaiting}
use Rattle.airy_wait.proofs.jobs.wait_on_text.Goals as goal

pub returns-in-Ok : goal.returns-in-Ok
returns-in-Ok g c = bounded_ends c.args.bound (LeadsToClosedWaiting c.args.bound (keys_asked c.args.job)) _ _ _ _ _ c.in-Ok.tensors c.in-Ok.ensures.read c.wait_closed.ensures

pub returns-in-Err : goal.returns-in-Err
returns-in-Err g c = input_ends c.args.bound (LeadsToClosedWaiting c.args.bound (keys_asked c.args.job)) _ _ _ _ _ c.in-Err.refusal c.in-Err.ensures.read c.refuse_input.ensures
