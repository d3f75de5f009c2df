use Rattle.std.proofs.Common.{arith, ap, length, codes, decimal, List, ℕ}
use Rattle.std.proofs.lemmas.List.{length-append}
use Rattle.std.proofs.lemmas.Fmt.{length-decimal-le}
use Rattle.airyrun.proofs.volumes.put_length.Goals as goal

pub returns-then-power-gt0-clause-short : goal.returns-then-power-gt0-clause-short
returns-then-power-gt0-clause-short c =
    let first = ap (λ (l : List ℕ). length l) c.put.ensures in
    let second = ap (λ (l : List ℕ). length l) c.put_number.ensures.text in
    let third = ap (λ (l : List ℕ). length l) c.put-then-power-gt0.ensures in
    let fourth = ap (λ (l : List ℕ). length l) c.put_number-then-power-gt0.ensures.text in
    omega (
      arith,
      first,
      second,
      third,
      fourth,
      length-append c.args.line.now (codes " L"),
      length-append c.put.new.self (decimal c.args.place),
      length-append c.put_number.new.self (codes "^"),
      length-append c.put-then-power-gt0.new.self (decimal c.args.power),
      length-decimal-le 2 c.args.place (omega arith) (omega arith) (omega arith),
      length-decimal-le 3 c.args.power (omega arith) (omega arith) (omega arith),
    )
