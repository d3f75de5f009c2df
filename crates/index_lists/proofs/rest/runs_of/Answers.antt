use Rattle.std.proofs.Common.{arith, sym, ap, ◌∙◌, ◌+◌, ◌-◌, ◌++◌, ◌∷◌, [], length, length-drop, take, drop, append_assoc, append-nil, slice_index}
use Rattle.std.proofs.lemmas.List.{take_rest}
use Rattle.airy_math.specs.Splits.{runs}
use Rattle.index_lists.proofs.ListWalkLemmas.{runs-next, runs-end}
use Rattle.index_lists.proofs.rest.runs_of.Goals as goal

pub loop-from-preserved : goal.loop-from-preserved
loop-from-preserved c =
    let list = c.args.list.now in
    let i = c.loop-from.from in
    let n = c.run_length-count.result in
    let next = runs-next list i n (take (length list - i) (drop i list)) c.loop-from-test.true (take_rest list i) c.run_length-count.ensures.run in
    record {
      within = omega (arith, c.run_length-count.ensures.within, ap length (take_rest list i), length-drop i list, c.loop-from-test.true);
      few = omega (arith, c.push.ensures.len, c.loop-from.invariant.few, c.run_length-count.ensures.some);
      runs =
          ap (λ l. l ++ runs (drop (i + n) list)) c.push.ensures.items
          ∙ append_assoc c.loop-from.found.items ((slice_index list i, n) ∷ []) (runs (drop (i + n) list))
          ∙ ap (λ l. c.loop-from.found.items ++ l) (sym next) ∙ c.loop-from.invariant.runs;
    }

pub returns : goal.returns
returns c =
    let list = c.args.list.now in
    sym (append-nil c.loop-from.found.items) ∙ ap (λ l. c.loop-from.found.items ++ l) (sym (runs-end list c.loop-from.from c.loop-from-test.false)) ∙ c.loop-from.invariant.runs
