use Rattle.std.proofs.Common.{arith, ap, ◌∙◌, ◌≡◌, true, false, nat_eq}
use Rattle.airy_math.specs.RationalLaws.{half}
use Rattle.airy_math.specs.Obtained.{obtained_product}
use Rattle.airy_math.specs.Terms.{obtained_half}
use Rattle.amp_plan.proofs.pair.weight_of.Goals as goal

pub returns-then-a-b : goal.returns-then-a-b
unfolding obtained_half
returns-then-a-b c = let t : nat_eq c.args.a c.args.b ≡ false = grind arith in rw t c.of.ensures

pub returns-in-Ok : goal.returns-in-Ok
unfolding obtained_half half
returns-in-Ok c = let t : nat_eq c.args.a c.args.b ≡ true = grind arith in rw t (c.of-in-Ok.ensures ∙ c.mul.ensures ∙ ap (obtained_product c.args.v) c.in-Ok.ensures.value)
