use Rattle.std.proofs.Common.{rules, arith, ◌≡◌, ◌*◌, ◌%◌, sym, ap, ◌∙◌, pos, negsuc, ◌-◌}
use Rattle.std.specs.Int.{w128}
use Rattle.std.specs.Prelude.{◌^◌, Some, IfOk, IsErrOf}
use Rattle.std.proofs.Math.Nat.{mod-eq_of_lt, one-mul}
use Rattle.std.proofs.lemmas.Int.{to_z_pos, ints}
use mathlib.Core.Logic.{◌⊎◌}
use Rattle.std.proofs.lemmas.Nat.{pow_pos}
use Rattle.frac128.specs.declared.fraction.FracErr.TheVariants.{ZeroDen, Over}
use Rattle.airy_math.specs.Rational.{◌/ℚ◌}
use Rattle.running_sum.specs.Kept.{fraction_of}
use Rattle.running_sum.proofs.NumberLemmas.{made, not_least}
use Rattle.running_sum.proofs.UnreducedLemmas.{none_of, some_of}
use Rattle.running_sum.proofs.unreduced.Unreduced.value.Goals as goal
use Rattle.airy_math.specs.RationalLaws.{positive_times}

pub returns-then-self-eq0 : goal.returns-then-self-eq0
returns-then-self-eq0 c = sym (none_of c.self.inside.num c.self.inside.twos) ∙ ap (λ o. fraction_of c.self.inside.num o c.self.inside.twos) (sym c.if-self-eq0.true) ∙ c.self.view_is

pub returns-then-self-eq1 : goal.returns-then-self-eq1
returns-then-self-eq1 c =
    let n = c.self.inside.num in
    let t = c.self.inside.twos in
    let v : c.over_twos.result ≡ n /ℚ (2 ^ t) = search rules in
    ap Some v ∙ ap (λ d. Some (n /ℚ d)) (sym (one-mul (2 ^ t))) ∙ sym (some_of n 1 t (omega arith)) ∙ ap (λ o. fraction_of n o t) (sym c.if-self-eq1.true) ∙ c.self.view_is

pub returns : goal.returns
returns c =
    let n = c.self.inside.num in
    let o = c.self.inside.odd in
    let t = c.self.inside.twos in
    let e : o * 2 ^ t % 2 ^ 128 ≡ o * 2 ^ t = mod-eq_of_lt (let h = c.self.invariant.den_fits in omega arith) in
    let v : IfOk c.new.result (λ f. f ≡ n /ℚ (o * 2 ^ t)) = search (rules, e, to_z_pos w128 (o * 2 ^ t) c.self.invariant.den_fits) in
    let p = positive_times o (2 ^ t) (omega arith) (pow_pos t) in
    let d = to_z_pos w128 (o * 2 ^ t) c.self.invariant.den_fits in
    let z : (IsErrOf c.new.result ZeroDen → pos (o * 2 ^ t) ≡ pos 0) = search (rules, e, d) in
    let w : (IsErrOf c.new.result Over → (n ≡ negsuc (2 ^ 127 - 1)) ⊎ (pos (o * 2 ^ t) ≡ negsuc (2 ^ 127 - 1))) = search (rules, e, d) in
    c.ok.ensures.value ∙ made c.new.result (n /ℚ (o * 2 ^ t)) (λ h. absurd (omega (arith, ints, z h))) (λ h. not_least n (o * 2 ^ t) c.self.invariant.num_fits (w h)) v
    ∙ sym (some_of n o t (omega arith)) ∙ c.self.view_is
