use Rattle.airymore.proofs.DocumentLemmas.{stood_document, formed_document, document_error}
use Rattle.airymore.proofs.Words.{EndsOrWants, named, structure_of_kind, stored_document}
use Rattle.airymore.proofs.documents.made_document.Goals as goal

pub returns-in-Ok : goal.returns-in-Ok
unfolding structure_of_kind
returns-in-Ok g c =
    rw (stood_document (named c.args.family) c.in-Ok.tensors c.args.bound c.planned_once.ensures c.below_dim.ensures c.same_tables.ensures c.requires.within c.in-Ok.ensures.made c.in-Ok.ensures.planned)
    (rw (← c.name_of.ensures, ← formed_document c.name_of.result.now c.in-Ok.tensors c.args.bound) c.print_formed.ensures)

pub returns-in-Err : goal.returns-in-Err
unfolding structure_of_kind
returns-in-Err g c = document_error (named c.args.family) c.args.bound c.in-Err.refusal _ _ _ c.requires.within c.in-Err.ensures.over c.refuse_making.ensures
