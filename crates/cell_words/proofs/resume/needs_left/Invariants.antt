use Rattle.std.proofs.Common.{◌≡◌, ◌≤◌, not, take}
use Rattle.cell_words.proofs.Names.{count_of, carries}
use Rattle.cell_words.proofs.resume.needs_left.Given as goal

abbrev pub invariant-loop-i : goal.invariant-loop-i
invariant-loop-i l = record {
  left : l.left ≡ count_of (λ q. not (carries l.table q)) (take l.i l.needs);
  few : l.left ≤ l.i;
}
