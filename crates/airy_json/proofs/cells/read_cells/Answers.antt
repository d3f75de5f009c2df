use Rattle.std.proofs.Common.{◌≡◌, List, [], ◌∷◌, ◌++◌, ◌+◌, None, Some, sym, subst, arith, rules}
use Rattle.airy_json.proofs.Common.{ℚ, cell_value, view}
use Rattle.airy_json.proofs.CellLemmas.{ReadUpTo, short, long, ended, stops, goes_on}
use Rattle.airy_json.proofs.cells.read_cells.Goals as goal

pub returns-then-place-len-clause-cause : goal.returns-then-place-len-clause-cause
returns-then-place-len-clause-cause c =
    short c.args.keys.now c.args.cells.now.items c.loop-place.place c.loop-place.values.items c.loop-place.invariant (omega arith) (omega arith)

pub returns-in_default-clause-cause : goal.returns-in_default-clause-cause
returns-in_default-clause-cause c =
    let none : cell_value c.index-keys-place.result (view c.index.result.now) ≡ None = search rules in
    stops c.args.keys.now c.args.cells.now.items c.loop-place.place c.loop-place.values.items c.loop-place.invariant c.index-keys-place.result c.index.result.now
    (omega arith) (omega (arith, c.loop-place.invariant.within)) c.index-keys-place.is c.index.ensures none

pub loop-place-preserved : goal.loop-place-preserved
loop-place-preserved c =
    let some : cell_value c.index-keys-place.result (view c.index.result.now) ≡ Some c.in-Some.value = search rules in
    let grown : c.push.new.self.items ≡ c.loop-place.values.items ++ c.in-Some.value ∷ [] = search rules in
    subst (λ (l : List ℚ). ReadUpTo c.args.keys.now c.args.cells.now.items (c.loop-place.place + 1) l) (sym grown)
    (goes_on c.args.keys.now c.args.cells.now.items c.loop-place.place c.loop-place.values.items c.loop-place.invariant c.index-keys-place.result c.index.result.now
    (omega arith) (omega (arith, c.loop-place.invariant.within)) c.index-keys-place.is c.index.ensures c.in-Some.value some)

pub returns-then-len-keys-clause-cause : goal.returns-then-len-keys-clause-cause
returns-then-len-keys-clause-cause c =
    long c.args.keys.now c.args.cells.now.items c.loop-place.place c.loop-place.values.items c.loop-place.invariant (omega arith) (omega arith)

pub returns-clause-cells : goal.returns-clause-cells
returns-clause-cells c =
    ended c.args.keys.now c.args.cells.now.items c.loop-place.place c.loop-place.values.items c.loop-place.invariant (omega arith) (omega arith)
