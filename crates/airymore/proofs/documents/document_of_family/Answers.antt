use Rattle.std.proofs.Common.{◌≡◌, rules, inl, inr, false}
use Rattle.airymore.proofs.Words.{is_bound, named, family_sound, structure_of_kind}
use Rattle.airymore.proofs.DocumentLemmas.{document_bound, family_ends}
use Rattle.airymore.proofs.documents.document_of_family.Goals as goal

pub returns-then-is_bound : goal.returns-then-is_bound
unfolding structure_of_kind
returns-then-is_bound g c =
    family_ends (record { unique = c.job_uniqueness.ensures; checked = c.job_checked.ensures; planned = c.planned_once.ensures }) (named c.args.family) (family_sound c.args.family) c.args.bound _ _ _
    (elim c.made_document.ensures [ inl told ↦ inl told | inr wants ↦ inr (search rules, wants) ])

pub returns-else-is_bound : goal.returns-else-is_bound
unfolding structure_of_kind
returns-else-is_bound g c =
    let no : is_bound c.args.bound ≡ false = search rules in
    family_ends (record { unique = c.job_uniqueness.ensures; checked = c.job_checked.ensures; planned = c.planned_once.ensures }) (named c.args.family) (family_sound c.args.family) c.args.bound _ _ _
    (inl (rw (document_bound (named c.args.family) c.args.bound no) c.refuse_bound.ensures))
