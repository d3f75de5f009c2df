use Rattle.std.proofs.Common.{arith, sym, ◌∙◌}
use Rattle.tensor_text.proofs.CountLemmas.{counted_none, counted_skip, counted_line}
use Rattle.tensor_text.proofs.lines.next_line.Goals as goal

pub returns-in-Some-first_word-clause-next : goal.returns-in-Some-first_word-clause-next
returns-in-Some-first_word-clause-next c =
    sym c.loop-line.invariant.next ∙ counted_line _ _ _ _ _ c.in-Some.ensures.0 c.in-Some-first_word.ensures.0 c.in-Some-first_word.ensures.1

pub loop-line-preserved : goal.loop-line-preserved
loop-line-preserved c = record {
  next = counted_skip _ _ _ _ c.in-Some.ensures.0 c.in_default-first_word.ensures ∙ c.loop-line.invariant.next;
  shorter = omega (arith, c.in-Some.ensures.1);
  within = omega (arith, c.in-Some.ensures.1);
}

pub returns-clause-next : goal.returns-clause-next
returns-clause-next c = sym c.loop-line.invariant.next ∙ counted_none _ _ c.in_default.ensures
