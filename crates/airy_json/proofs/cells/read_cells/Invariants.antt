use Rattle.airy_json.proofs.CellLemmas.{ReadUpTo}
use Rattle.airy_json.proofs.cells.read_cells.Given as goal

abbrev pub invariant-loop-place : goal.invariant-loop-place
invariant-loop-place l = ReadUpTo l.keys l.cells.items l.place l.values.items
