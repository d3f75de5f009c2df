use Rattle.run_reports.proofs.Names.{cells, plan_of, HasWorked}
use Rattle.airy_wait.specs.Waits.{FillsInOrder, KnowsBelow}
use Rattle.airy_wait.proofs.rounds.fill_round.Given as goal

abbrev pub invariant-loop-rank : goal.invariant-loop-rank
invariant-loop-rank g l = HasWorked l.board l.fn.seat l.seat × FillsInOrder l.rank l.fn.seat l.seat

abbrev pub invariant-loop-awaited : goal.invariant-loop-awaited
invariant-loop-awaited g l = HasWorked l.board l.fn.seat l.seat × FillsInOrder (cells (plan_of l.board)) l.fn.seat l.seat × KnowsBelow l.awaited l.seat
