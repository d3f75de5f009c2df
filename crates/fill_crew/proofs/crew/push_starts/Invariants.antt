use Rattle.std.proofs.Common.{◌≡◌, ◌≤◌, vec_len}
use Rattle.fill_crew.proofs.crew.push_starts.Given as goal

abbrev pub invariant-loop-i : goal.invariant-loop-i
invariant-loop-i g l = (vec_len l.deques ≡ vec_len l.initial.deques) × (l.at ≤ vec_len l.deques)
