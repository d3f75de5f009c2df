use Rattle.std.proofs.Common.{sym, subst, rules}
use Rattle.airy_json.proofs.Common.{view}
use Rattle.serde_json.specs.Errors.{IsMemory}
use Rattle.airy_json.specs.Given.{Says}
use Rattle.airy_json.proofs.DocumentLemmas.{answer-data, answer-none}
use Rattle.airy_json.proofs.reading.read_document.Goals as goal

pub returns-in-Ok : goal.returns-in-Ok
returns-in-Ok c =
    subst (λ a. Says c.read_data.result a) (sym (answer-data c.args.bytes.now (view c.in-Ok.value) c.requires c.in-Ok.ensures.ok.0 c.in-Ok.ensures.ok.1)) c.read_data.ensures

pub returns-in-Err-2 : goal.returns-in-Err-2
returns-in-Err-2 c =
    let other : IsMemory c.in-Err.e → ⊥ = search rules in
    answer-none c.args.bytes.now c.requires (c.in-Err.ensures.err other)
