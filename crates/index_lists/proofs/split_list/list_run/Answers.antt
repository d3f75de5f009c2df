use Rattle.std.proofs.Common.{rules, ◌≡◌, ◌++◌, subst, sym, ap₂, ◌∙◌, to_z, of_z, w64, true}
use Rattle.index_lists.proofs.Words.{all_without, last_of}
use Rattle.index_lists.proofs.SplitListLemmas.{IsRunListed, copies-more, copies-light, copies-ways, copies-small, run-begun, run-next}
use Rattle.index_lists.proofs.split_list.list_run.Goals as goal

pub loop-left_out-init : goal.loop-left_out-init
loop-left_out-init g c =
    let per = to_z w64 (of_z w64 c.args.per_n) in
    subst (λ x. IsRunListed per c.args.run 0 x c.args.listed.now c.args.listed.now) (sym c.nothing-fewer.ensures) (run-begun per c.args.run c.args.listed.now)

pub one_more-fewer-requires-clause-part : goal.one_more-fewer-requires-clause-part
one_more-fewer-requires-clause-part g c =
    let same : to_z w64 (of_z w64 c.args.per_n) ≡ c.args.per_n = search rules in
    copies-light c.loop-left_out.invariant.copies (rw same c.requires.law) c.requires.few (search rules)

pub one_more-fewer-requires-clause-ways : goal.one_more-fewer-requires-clause-ways
one_more-fewer-requires-clause-ways g c = copies-ways c.loop-left_out.invariant.copies c.requires.few

pub of-requires-clause-excess : goal.of-requires-clause-excess
of-requires-clause-excess g c =
    let same : to_z w64 (of_z w64 c.args.per_n) ≡ c.args.per_n = search rules in
    copies-small (copies-more c.loop-left_out.invariant.copies c.loop-left_out-test.true c.of-item.ensures.measured c.one_more-fewer.ensures) (rw same c.requires.law) c.requires.few (search rules)

pub of-requires-clause-ways : goal.of-requires-clause-ways
of-requires-clause-ways g c = copies-ways (copies-more c.loop-left_out.invariant.copies c.loop-left_out-test.true c.of-item.ensures.measured c.one_more-fewer.ensures) c.requires.few

pub loop-left_out-preserved : goal.loop-left_out-preserved
loop-left_out-preserved g c =
    let next = copies-more c.loop-left_out.invariant.copies c.loop-left_out-test.true c.of-item.ensures.measured c.one_more-fewer.ensures in
    let all : c.list_without.result ≡ true = search rules in
    run-next c.loop-left_out.invariant c.loop-left_out-test.true next
    (c.list_without.ensures all ∙ ap₂ (λ f n. all_without f (last_of n c.loop-left_out.listed) ++ c.loop-left_out.listed) c.of.ensures c.len-count.ensures)
