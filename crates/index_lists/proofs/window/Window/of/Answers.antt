use Rattle.std.proofs.Common.{rules, ◌≡◌, sym, ap, ◌∙◌, pos, to_z, of_z, w64}
use Rattle.index_lists.proofs.Words.{le_z, key_of, total, covers, eq_z}
use Rattle.index_lists.proofs.WindowLemmas.{all_in}
use Rattle.index_lists.proofs.window.Window.of.Goals as goal

pub returns-in-All : goal.returns-in-All
unfolding covers
returns-in-All c = λ xs e h. rw c.in-All.is (all_in (total xs) h)

pub returns-in-Exact : goal.returns-in-Exact
unfolding covers key_of
returns-in-Exact c = λ xs e h.
    let same : to_z w64 (of_z w64 c.number_of.result) ≡ c.number_of.result = search rules in
    rw c.in-Exact.is (rw e (ap (eq_z (pos (total xs))) (sym (same ∙ c.number_of.ensures.value)) ∙ c.only.ensures (total xs) h))

pub returns-in-AtMost : goal.returns-in-AtMost
unfolding covers key_of
returns-in-AtMost c = λ xs e h.
    let same : to_z w64 (of_z w64 c.number_of-in-AtMost.result) ≡ c.number_of-in-AtMost.result = search rules in
    rw c.in-AtMost.is (rw e (ap (le_z (pos (total xs))) (sym (same ∙ c.number_of-in-AtMost.ensures.value)) ∙ c.up_to.ensures (total xs) h))
