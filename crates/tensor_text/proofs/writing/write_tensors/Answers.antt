use Rattle.tensor_text.proofs.AsciiLaw.{utf8-canonical}
use Rattle.tensor_text.proofs.BackLaw.{back}
use Rattle.tensor_text.proofs.writing.write_tensors.Goals as goal

pub returns-clause-back : goal.returns-clause-back
returns-clause-back g c = back c.args.t.now c.soundness_fact.ensures.entries c.requires

pub returns-clause-utf8 : goal.returns-clause-utf8
returns-clause-utf8 g c = utf8-canonical c.args.t.now c.soundness_fact.ensures.entries
