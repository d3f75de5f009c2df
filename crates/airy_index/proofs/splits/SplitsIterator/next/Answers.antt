use Rattle.std.proofs.Common.{arith, sym, ap, ◌≡◌, ◌∙◌, length}
use Rattle.airy_index.proofs.Words.{refill, chosen_split}
use Rattle.airy_index.specs.SplitValues.{split_value}
use Rattle.airy_index.proofs.ChoiceLemmas.{left_step, left_end, refill_same}
use Rattle.airy_index.proofs.splits.SplitsIterator.next.Goals as goal

pub returns-then-self-clause-steps : goal.returns-then-self-clause-steps
returns-then-self-clause-steps c =
    let none = sym c.self.view_is ∙ left_end c.self.inside.ended c.self.inside.runs.items c.if-self.true in
    (none, none)

pub returns-clause-steps : goal.returns-clause-steps
returns-clause-steps c =
    let runs = c.self.inside.runs.items in
    let slice : c.as_mut_slice.result.now ≡ runs = c.as_mut_slice.ensures.value in
    let len : length c.advance.new.runs ≡ length runs = c.advance.auto.runs ∙ ap length slice in
    let same : refill (length runs) runs c.advance.new.runs ≡ c.advance.new.runs = refill_same runs c.advance.new.runs len in
    let first : split_value c.chosen-split.result ≡ chosen_split runs = c.chosen-split.ensures ∙ ap chosen_split c.as_slice.ensures.value in
    let more = rw slice at c.advance.ensures.more in
    let last = rw slice at c.advance.ensures.last in
    rw same (sym c.self.view_is ∙ left_step c.self.inside.ended c.advance.result runs c.advance.new.runs (split_value c.chosen-split.result) c.if-self.false first more last)

pub returns-clause-goes : goal.returns-clause-goes
returns-clause-goes c = let e = returns-clause-steps c in record {
  on = λ _. (tt, tt, omega (arith, ap length e));
  keeps = tt;
  rests = λ _. tt;
}
