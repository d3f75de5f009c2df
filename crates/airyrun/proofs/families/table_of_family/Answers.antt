use Rattle.std.proofs.Common.{◌≡◌, rules, inl, inr, false}
use Rattle.run_reports.proofs.Names.{is_bound, structure_of}
use Rattle.run_reports.proofs.StructureLemmas.{refused_bound}
use Rattle.airyrun.proofs.families.table_of_family.Goals as goal

pub returns-then-is_bound : goal.returns-then-is_bound
returns-then-is_bound g c = elim c.made_table.ensures [ inl told ↦ inl told | inr wants ↦ inr (search rules, wants) ]

pub returns-else-is_bound : goal.returns-else-is_bound
returns-else-is_bound g c =
    let no : is_bound c.args.bound ≡ false = search rules in
    inl (rw (refused_bound (structure_of c.args.family) c.args.bound no) c.refuse_bound.ensures)
