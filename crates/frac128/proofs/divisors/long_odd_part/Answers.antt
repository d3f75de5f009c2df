use Rattle.std.proofs.Common.{arith, ◌<◌, ◌^◌}
use Rattle.frac128.proofs.TwosLemmas.{zeros-split}
use Rattle.frac128.proofs.divisors.long_odd_part.Goals as goal

pub returns-clause-whole : goal.returns-clause-whole
returns-clause-whole c = let h : c.args.n < 2 ^ 128 = omega arith in (zeros-split 128 c.args.n c.requires h).0

pub returns-clause-odd : goal.returns-clause-odd
returns-clause-odd c = let h : c.args.n < 2 ^ 128 = omega arith in (zeros-split 128 c.args.n c.requires h).1
