use Rattle.std.proofs.Common.{◌≡◌, rules, min}
use Rattle.airyrun.specs.Run.{LeadsToTextRelations}
use Rattle.run_reports.proofs.TextLemmas.{read_ends, refusal_ends}
use Rattle.airyrun.proofs.RelationLemmas.{text_ends}
use Rattle.airyrun.proofs.texts.relations_of_text.Goals as goal

pub returns-in-Ok : goal.returns-in-Ok
returns-in-Ok g c =
    let least : c.min.result ≡ min c.args.places c.in-Ok.tensors.dim = search rules in
    read_ends (LeadsToTextRelations c.args.places) _ _ _ _ _ c.in-Ok.tensors c.in-Ok.ensures.read c.in-Ok.ensures.cause
    (text_ends c.in-Ok.tensors c.args.places c.min.result _ _ _ least c.say_relations.ensures.tells c.say_relations.ensures.ends)

pub returns-in-Err : goal.returns-in-Err
returns-in-Err g c =
    refusal_ends (LeadsToTextRelations c.args.places) _ _ _ _ _ c.in-Err.refusal c.in-Err.ensures.read c.in-Err.ensures.cause c.refuse_text.ensures
