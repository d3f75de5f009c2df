use Rattle.std.proofs.Common.{arith, ◌^◌, ◌≤◌, ◌<◌, ℕ}
use Rattle.std.proofs.Math.Nat.{pow-le-pow_right}
use Rattle.command_words.proofs.numbers.read_number.Goals as goal

pow_small : (k : ℕ) → k ≤ 8 → 10 ^ k ≤ 10 ^ 8
pow_small k h = let some : 0 < 10 = omega arith in pow-le-pow_right some h

pub overflow_mul-number : goal.overflow_mul-number
overflow_mul-number c = let p = pow_small c.loop-c.c-index (omega arith) in omega arith

pub overflow_add-number : goal.overflow_add-number
overflow_add-number c = let p = pow_small c.loop-c.c-index (omega arith) in omega (arith, c.if-not-is_ascii_digit.ensures.cases)
