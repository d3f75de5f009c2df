use Rattle.ask_seats.proofs.Names.{◌≡◌, ◌≤◌, take, replies_due}
use Rattle.ask_seats.proofs.lines.replies_to.Given as goal

abbrev pub invariant-loop-line : goal.invariant-loop-line
invariant-loop-line l = (l.due ≡ replies_due (take l.line-index l.lines)) × (l.due ≤ l.line-index)
