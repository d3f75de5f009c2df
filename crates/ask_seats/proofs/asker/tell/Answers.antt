use Rattle.sparse_tensor.specs.Entries.{looked_up}
use Rattle.ask_seats.proofs.Names.{◌≡◌, sym, ap, ◌∙◌, tensors_of, keys_of, key_at, letter_power, reply_of, outcome_reply}
use Rattle.ask_seats.specs.Replies.{Value, Blocked}
use Rattle.ask_seats.proofs.asker.tell.Goals as goal

pub returns-in-Value : goal.returns-in-Value
unfolding reply_of outcome_reply letter_power tensors_of looked_up
returns-in-Value c =
    let p = c.args.plan.now in
    ap (Value c.in-Value.value) c.letter.ensures ∙ ap (outcome_reply (tensors_of p) p.tensors.letter p.bound c.args.key.now) (sym c.in-Value.is)

pub returns-in-Blocked : goal.returns-in-Blocked
unfolding reply_of outcome_reply key_at keys_of
returns-in-Blocked c =
    let p = c.args.plan.now in
    ap Blocked c.key.ensures ∙ ap (outcome_reply (tensors_of p) p.tensors.letter p.bound c.args.key.now) (sym c.in-Blocked.is)
