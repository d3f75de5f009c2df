-- What the cells of a table stand for.
use Rattle.std.specs.Prelude.{Option, Some, None}
use Rattle.amp_terms.specs.declared.Outcome.{Outcome}
use Rattle.amp_terms.specs.declared.Outcome.TheVariants as outcome
use Rattle.amp_terms.specs.declared.cell.Cell.{Cell}
use Rattle.amp_terms.specs.declared.cell.Cell.TheVariants.{Unfilled, Short, Long, Over, Blocked}

unfoldable pub outcome_of : Cell → Option Outcome
outcome_of Unfilled = None
outcome_of (Short w) = Some (outcome.Value w)
outcome_of (Long v) = Some (outcome.Value v)
outcome_of Over = Some outcome.Over
outcome_of (Blocked r) = Some (outcome.Blocked r)
