use Rattle.std.proofs.Common.{arith, sym, ◌∙◌, add-one}
use Rattle.tensor_text.proofs.GrammarLemmas.{entries_none, entries_stored, entries_refused, entries_last}
use Rattle.tensor_text.proofs.text.read_entries.Goals as goal

pub returns-in-End : goal.returns-in-End
returns-in-End c = rw c.refused.ensures (sym c.loop-number.invariant.given ∙ entries_none _ _ _ c.in-End.ensures.next)

pub returns-in-Ok-End : goal.returns-in-Ok-End
returns-in-Ok-End c =
    let given = rw c.in-Ok-End.field-0-is at c.in-Ok-End.ensures in
    entries_last c.loop-number.tensors c.read_line.new.tensors _ _ _ _ c.read_end.result _ c.in-Line.ensures.next given.0 given.1 c.loop-number.invariant.given c.read_end.ensures

pub returns-in-Err : goal.returns-in-Err
returns-in-Err c =
    rw c.at.ensures (entries_refused c.loop-number.tensors _ _ _ _ _ _ c.in-Line.ensures.next c.in-Err.ensures c.loop-number.invariant.given)

pub loop-number-preserved : goal.loop-number-preserved
loop-number-preserved c =
    let given = rw c.in-Ok-Entry.field-0-is at c.in-Ok-Entry.ensures in
    record {
      given = rw add-one (sym (entries_stored c.loop-number.tensors _ _ _ _ _ c.in-Line.ensures.next given) ∙ c.loop-number.invariant.given);
      small = omega (arith, c.in-Line.ensures.within);
    }
