use Rattle.std.proofs.Common.{◌≡◌, drop}
use Rattle.key_index.specs.Found.{first_rank}
use Rattle.key_index.proofs.slots.find_behind.Given as goal

abbrev pub invariant-loop-slot : goal.invariant-loop-slot
invariant-loop-slot l = first_rank l.code (drop l.slot-index l.slots) ≡ first_rank l.code l.slots
