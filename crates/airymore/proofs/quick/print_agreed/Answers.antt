use Rattle.std.proofs.Common.{◌∙◌, ap, length, List, Option}
use Rattle.airymore.proofs.Words.{Outcome, full-length}
use Rattle.airymore.proofs.QuickLemmas.{found_value, found_whole}
use Rattle.airymore.proofs.quick.print_agreed.Goals as goal

pub print_table-requires : goal.print_table-requires
print_table-requires g c = ap (λ (t : List (Option Outcome)). length t) c.requires.full ∙ full-length c.args.plan.now

pub returns-in-NotValue : goal.returns-in-NotValue
returns-in-NotValue g c = rw (found_value c.args.plan.now c.args.table.now c.in-NotValue.key c.requires.full c.in-NotValue.ensures.found) c.refuse_key.ensures

pub returns-in-Solution : goal.returns-in-Solution
returns-in-Solution g c = rw (found_whole c.args.plan.now c.args.table.now c.requires.full c.in-Solution.ensures.found) c.print_table.ensures
