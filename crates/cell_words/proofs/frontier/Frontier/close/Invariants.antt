use Rattle.std.proofs.Common.{◌≡◌, ◌≤◌, ◌-◌, take}
use Rattle.amp_terms.proofs.FillingLemmas.{filled}
use Rattle.cell_words.proofs.Names.{cells}
use Rattle.cell_words.proofs.frontier.Frontier.close.Given as goal

abbrev pub invariant-loop-rank : goal.invariant-loop-rank
invariant-loop-rank l = (l.closing ≡ filled (take l.rank l.outcome-items) (cells l.plan - l.rank)) × (l.rank ≤ l.rank-end)
