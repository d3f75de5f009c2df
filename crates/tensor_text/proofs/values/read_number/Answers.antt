use Rattle.std.proofs.Common.{rules, arith, ◌≡◌, ◌<◌, ◌≤◌, ◌+◌, ◌-◌, ◌*◌, length, get_or, sym, ap, true, false, refl}
use Rattle.std.proofs.lemmas.Bool.Decides.{nat_tests}
use Rattle.tensor_text.specs.Values.{below, is_digit}
use Rattle.tensor_text.proofs.ValueLemmas.{number_start, no_number, stops_at, goes_on, passes_at, ends_at}
use Rattle.tensor_text.proofs.values.read_number.Goals as goal

pub returns-then-is_empty : goal.returns-then-is_empty
unfolding below
returns-then-is_empty c = let none : length c.args.word.now ≡ 0 = search rules in rw (no_number c.args.word.now none) refl

pub loop-c-init : goal.loop-c-init
loop-c-init c = let some : 0 < length c.args.word.now = search rules in record {
  read = ap (below c.args.limit) (sym (number_start c.args.word.now some));
  fits = λ h. absurd (omega arith);
  some = some;
}

pub returns-then-not-is_ascii_digit : goal.returns-then-not-is_ascii_digit
returns-then-not-is_ascii_digit c =
    let other : is_digit (get_or c.args.word.now c.loop-c.c-index 0) ≡ false = grind (arith, nat_tests) in
    stops_at c.args.limit c.loop-c.number c.args.word.now c.loop-c.c-index _ c.loop-c-test.true other c.loop-c.invariant.read

pub returns-in_err-number : goal.returns-in_err-number
returns-in_err-number c =
    let digit : is_digit (get_or c.args.word.now c.loop-c.c-index 0) ≡ true = grind (arith, nat_tests) in
    let over : c.args.limit ≤ c.loop-c.number * 10 + (get_or c.args.word.now c.loop-c.c-index 0 - 48) = omega (arith, c.in_err-number.ensures) in
    rw c.from_residual.ensures (passes_at c.args.limit c.loop-c.number c.args.word.now c.loop-c.c-index _ c.loop-c-test.true digit over c.loop-c.invariant.read)

pub loop-c-preserved : goal.loop-c-preserved
loop-c-preserved c =
    let digit : is_digit (get_or c.args.word.now c.loop-c.c-index 0) ≡ true = grind (arith, nat_tests) in
    let next = goes_on c.args.limit c.loop-c.number c.args.word.now c.loop-c.c-index _ c.loop-c-test.true digit c.loop-c.invariant.read in
    record {
      read = rw c.in_ok-number.ensures.1 next;
      fits = λ h. omega (arith, c.in_ok-number.ensures);
      some = c.loop-c.invariant.some;
    }

pub returns : goal.returns
returns c = ends_at c.args.limit c.loop-c.number c.args.word.now c.loop-c.c-index _ (omega (arith, c.loop-c-test.false)) (c.loop-c.invariant.fits (omega (arith, c.loop-c-test.false))) c.loop-c.invariant.read
