use Rattle.airymore.proofs.Words.{verified_report}
use Rattle.airymore.proofs.verify.verify_given.Goals as goal

pub returns-in-Solution : goal.returns-in-Solution
unfolding verified_report
returns-in-Solution g c = rw (← c.in-Solution.ensures.is) c.say.ensures

pub returns-in-Over : goal.returns-in-Over
unfolding verified_report
returns-in-Over g c = rw (← c.in-Over.ensures.is) c.refuse_pivot.ensures

pub returns-in-Differs : goal.returns-in-Differs
unfolding verified_report
returns-in-Differs g c = rw (← c.in-Differs.ensures.is) c.refuse_difference.ensures
