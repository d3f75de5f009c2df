use Rattle.std.proofs.Common.{sym, ap, ◌∙◌}
use Rattle.run_reports.proofs.Names.{looked_up, tensors_of, keys_of, letter_power}
use Rattle.amp_plan.specs.Plans.{key_at}
use Rattle.ask_seats.specs.Replies.{Value, Blocked}
use Rattle.ask_seats.specs.Sessions.{outcome_reply}
use Rattle.airy_wait.specs.Waits.{told_reply}
use Rattle.airy_wait.proofs.waits.tell.Goals as goal

pub returns-in-Value : goal.returns-in-Value
unfolding told_reply outcome_reply letter_power tensors_of looked_up
returns-in-Value c =
    let p = c.args.plan.now in
    ap (Value c.in-Value.value) c.letter.ensures ∙ ap (outcome_reply (tensors_of p) p.tensors.letter p.bound c.args.key.now) (sym c.in-Value.is)

pub returns-in-Blocked : goal.returns-in-Blocked
unfolding told_reply outcome_reply key_at keys_of
returns-in-Blocked c =
    let p = c.args.plan.now in
    ap Blocked c.key.ensures ∙ ap (outcome_reply (tensors_of p) p.tensors.letter p.bound c.args.key.now) (sym c.in-Blocked.is)
