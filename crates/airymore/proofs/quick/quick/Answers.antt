use Rattle.airymore.proofs.Words.{bounded_ends, input_ends, LeadsToQuick}
use Rattle.airymore.proofs.quick.quick.Goals as goal

pub returns-in-Ok : goal.returns-in-Ok
returns-in-Ok g c = bounded_ends c.args.bound (LeadsToQuick c.args.bound) _ _ _ _ _ c.in-Ok.tensors c.in-Ok.ensures.read c.print_closed.ensures

pub returns-in-Err : goal.returns-in-Err
returns-in-Err g c = input_ends c.args.bound (LeadsToQuick c.args.bound) _ _ _ _ _ c.in-Err.refusal c.in-Err.ensures.read c.refuse_input.ensures
