use Rattle.fill_crew.proofs.CrewLemmas.{all_back}
use Rattle.fill_crew.proofs.tests.pass_and_sweep.Goals as goal

pub sweep-requires : goal.sweep-requires
sweep-requires g c = all_back c.args.board.now c.args.seats.now c.pass_at_once.new.seats c.requires.seats c.pass_at_once.ensures.len c.pass_at_once.ensures.back
