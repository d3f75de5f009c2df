use Rattle.std.proofs.Common.{rules, ◌≡◌, ◌-◌, to_z, of_z, ap, ap₂, ◌∙◌}
use Rattle.std.specs.Int.{w128}
use Rattle.airy_math.specs.Obtained.{both_obtained, obtained_sum}
use Rattle.running_sum.specs.Kept.{fraction_of}
use Rattle.running_sum.specs.Sizes.{IsRaisedSum}
use Rattle.running_sum.proofs.UnreducedLemmas.{sum_same}
use Rattle.running_sum.proofs.unreduced.Unreduced.add.Goals as goal

pub returns-in-Some : goal.returns-in-Some
returns-in-Some c =
    let n = c.self.inside.num in
    let m = c.o.inside.num in
    let o = c.self.inside.odd in
    let k = c.self.inside.twos in
    let l = c.o.inside.twos in
    let s : IsRaisedSum n m (k - l) c.in-Some.num = search rules in
    let e : to_z w128 (of_z w128 c.in-Some.num) ≡ c.in-Some.num = search rules in
    rw e (sum_same n m c.in-Some.num o k l c.if-o-self.true c.self.invariant.den_fits c.self.invariant.num_fits s
    ∙ ap₂ (both_obtained obtained_sum) c.self.view_is (ap (λ o. fraction_of m o l) c.if-self-o.true ∙ c.o.view_is))
