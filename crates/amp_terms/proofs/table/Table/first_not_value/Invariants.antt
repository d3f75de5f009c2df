use Rattle.std.proofs.Common.{◌≡◌, drop}
use Rattle.amp_terms.specs.Tables.{first_without}
use Rattle.amp_terms.proofs.TableLemmas.{found_behind}
use Rattle.amp_terms.proofs.table.Table.first_not_value.Given as goal

abbrev pub invariant-loop-rank : goal.invariant-loop-rank
invariant-loop-rank l = found_behind l.rank (first_without (drop l.rank l.self)) ≡ first_without l.self
