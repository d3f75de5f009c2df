use Rattle.std.proofs.Common.{codes}
use Rattle.airymore.proofs.Words.{looked_up, numbers_text, places}
use Rattle.run_reports.proofs.FormLemmas.{writes_then}
use Rattle.airymore.proofs.brackets.write_closed.Goals as goal

pub returns : goal.returns
returns g c =
    writes_then (numbers_text (looked_up c.args.tensors.now) (places c.args.tensors.now.dim)) (codes "closed\n") _ _ _ _ c.write_all.result c.in_ok-write_numbers.ensures c.write_all.ensures
