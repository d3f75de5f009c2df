use Rattle.std.proofs.Common.{rules, ap, ◌∙◌, ◌≡◌, replicate, map}
use Rattle.amp_terms.specs.Cells.{outcome_of}
use Rattle.amp_terms.specs.declared.cell.Cell.TheVariants.{Unfilled}
use Rattle.amp_terms.proofs.TableLemmas.{map-replicate}
use Rattle.amp_terms.proofs.table.Table.empty.Goals as goal

pub returns : goal.returns
unfolding outcome_of
returns c =
    let e : c.in_ok-vec.field-0.items ≡ replicate c.args.len Unfilled = search rules in
    ap (map outcome_of) e ∙ map-replicate outcome_of c.args.len Unfilled
