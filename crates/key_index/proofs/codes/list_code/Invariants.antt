use Rattle.std.proofs.Common.{◌≡◌, take}
use Rattle.key_index.specs.Codes.{code_of_list}
use Rattle.key_index.proofs.codes.list_code.Given as goal

abbrev pub invariant-loop-index : goal.invariant-loop-index
invariant-loop-index l = l.code ≡ code_of_list (take l.index-index l.indices)
