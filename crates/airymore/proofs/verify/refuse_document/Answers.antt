use Rattle.airymore.proofs.Words.{error_report}
use Rattle.airymore.proofs.verify.refuse_document.Goals as goal

pub returns-in-Make : goal.returns-in-Make
unfolding error_report
returns-in-Make g c = rw c.in-Make.is c.refuse_number.ensures

pub returns-in-Cell : goal.returns-in-Cell
unfolding error_report
returns-in-Cell g c = rw c.in-Cell.is c.refuse_number-in-Cell.ensures
