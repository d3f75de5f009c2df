use Rattle.std.proofs.Common.{ap₂, set, ◌∙◌}
use Rattle.std.proofs.lemmas.List.{map-set}
use Rattle.amp_terms.specs.Cells.{outcome_of}
use Rattle.amp_terms.proofs.table.Table.set.Goals as goal

pub returns : goal.returns
returns c = map-set outcome_of c.self.inside.cells.items c.args.rank c.of.result ∙ ap₂ (λ l v. set l c.args.rank v) c.self.view_is c.of.ensures
