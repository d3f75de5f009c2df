use Rattle.std.proofs.Common.{arith, ◌∙◌, sym, ap, ◌≡◌}
use Rattle.airy_math.specs.Gcd.{gcd}
use Rattle.frac128.proofs.TwosLemmas.{odd-step_up, odd-step_down, gcd-zero_right}
use Rattle.frac128.proofs.divisors.odd_gcd.Goals as goal

pub loop-y-preserved-then-part-x : goal.loop-y-preserved-then-part-x
loop-y-preserved-then-part-x c = record {
  odd = c.odd_part-part.ensures.odd;
  same = odd-step_down c.loop-y.x c.loop-y.y c.odd_part-part.result.0 c.odd_part-part.result.1 c.loop-y.invariant.odd c.odd_part-part.ensures.whole (omega arith) ∙ c.loop-y.invariant.same;
}

pub loop-y-preserved : goal.loop-y-preserved
loop-y-preserved c = record {
  odd = c.loop-y.invariant.odd;
  same = odd-step_up c.loop-y.x c.loop-y.y c.odd_part-part.result.0 c.odd_part-part.result.1 c.loop-y.invariant.odd c.odd_part-part.ensures.whole (omega arith) ∙ c.loop-y.invariant.same;
}

pub returns : goal.returns
returns c = let e : c.loop-y.y ≡ 0 = omega arith in sym (gcd-zero_right c.loop-y.x) ∙ sym (ap (gcd c.loop-y.x) e) ∙ c.loop-y.invariant.same
