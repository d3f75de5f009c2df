use Rattle.std.proofs.Common.{◌∙◌}
use Rattle.airymore.proofs.DocumentLemmas.{formed_document}
use Rattle.airymore.proofs.Words.{EndsOrWants, kind_text, stored_document}
use Rattle.airymore.proofs.documents.write_text.Goals as goal

pub returns-in-Ok : goal.returns-in-Ok
unfolding kind_text
returns-in-Ok g c =
    let kind = c.as_str.ensures.value ∙ c.in-Ok.ensures.text in
    rw (← kind, ← formed_document c.as_str.result.now c.args.tensors c.args.bound) c.print_formed.ensures
