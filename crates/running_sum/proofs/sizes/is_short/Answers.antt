use Rattle.std.proofs.Common.{rules, ◌+◌}
use Rattle.std.proofs.lemmas.Bool.{leb-true}
use Rattle.running_sum.proofs.UnreducedLemmas.{size-shifted}
use Rattle.running_sum.proofs.sizes.is_short.Goals as goal

pub returns-else-twos-lt64 : goal.returns-else-twos-lt64
returns-else-twos-lt64 c = λ within.
    size-shifted c.args.o c.bits.result c.args.twos (search rules) (leb-true (c.bits.result + c.args.twos) 127 within)
