use Rattle.std.proofs.Common.{◌≡◌, []}
use Rattle.correlators.proofs.Words.{below, each, lists_of_sum, AddsTerms}
use Rattle.correlators.proofs.volumes.all_terms.Given as goal

abbrev pub invariant-loop-sum : goal.invariant-loop-sum
invariant-loop-sum l = record {
  prefix : l.prefix.items ≡ [];
  added : AddsTerms l.source.plan.now l.source.genus l.source.places l.source.coefficients.now (each (below l.sum) (lists_of_sum l.source.places)) [] l.terms.items;
}
