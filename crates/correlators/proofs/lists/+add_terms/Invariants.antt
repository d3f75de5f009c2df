use Rattle.std.proofs.Common.{◌≡◌, ◌-◌}
use Rattle.correlators.proofs.Words.{AddsTerms, behind}
use Rattle.correlators.proofs.ListLemmas.{first_lists}
use Rattle.correlators.proofs.lists.+add_terms.Given as goal

abbrev pub decreases-add_terms : goal.decreases-add_terms
decreases-add_terms l = l.places

abbrev pub invariant-loop-rest : goal.invariant-loop-rest
invariant-loop-rest l = record {
  prefix : l.prefix ≡ l.initial.prefix;
  added : AddsTerms l.source.plan.now l.source.genus l.source.places l.source.coefficients.now (behind l.initial.prefix.items (first_lists (l.places - 1) l.left l.rest)) l.initial.terms.items l.terms.items;
}
