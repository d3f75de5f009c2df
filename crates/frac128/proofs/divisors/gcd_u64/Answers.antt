use Rattle.std.proofs.Common.{arith, inl, inr, ◌≡◌, ◌*◌, ◌%◌, ◌<◌, ◌∙◌, sym, ap, subst, ℕ, ◌^◌, min}
use Rattle.airy_math.specs.Gcd.{gcd}
use Rattle.frac128.proofs.GcdLemmas.{gcd-positive}
use Rattle.frac128.proofs.TwosLemmas.{gcd-zero_left, gcd-zero_right, gcd-one, gcd-odd_parts, shifted_word}
use Rattle.frac128.proofs.divisors.gcd_u64.Goals as goal
use Rattle.frac128.proofs.divisors.gcd_u64.Goals.{then-x-eq1-via-then-x-eq1, then-x-eq1-via-else-x-eq1+then-y-eq1}

pub returns-then-a-eq0-clause-value : goal.returns-then-a-eq0-clause-value
returns-then-a-eq0-clause-value c = let e : c.args.a ≡ 0 = omega arith in rw e (sym (gcd-zero_left c.args.b))

pub returns-then-b-eq0-clause-value : goal.returns-then-b-eq0-clause-value
returns-then-b-eq0-clause-value c = let e : c.args.b ≡ 0 = omega arith in rw e (sym (gcd-zero_right c.args.a))

value-at-1 : (c : goal.Joined-then-x-eq1) → 1 * 2 ^ c.min-twos.result % 2 ^ 64 ≡ gcd c.args.a c.args.b
value-at-1 c =
    let a = c.odd_part-x.ensures in
    let b = c.odd_part-y.ensures in
    let one : 1 ≡ gcd c.odd_part-x.result.0 c.odd_part-y.result.0 = gcd-one _ _ (elim c.then-x-eq1.branch [
      | then-x-eq1-via-then-x-eq1 w ↦ inl w.if-x-eq1.true
      | then-x-eq1-via-else-x-eq1+then-y-eq1 w ↦ inr w.if-y-eq1.true
    ]) in
    let whole : 1 * 2 ^ c.min-twos.result ≡ gcd c.args.a c.args.b =
    ap (λ t. 1 * 2 ^ t) c.min-twos.ensures ∙ ap (λ g. g * 2 ^ min c.odd_part-x.result.1 c.odd_part-y.result.1) one ∙ gcd-odd_parts _ _ _ _ _ _ a.whole b.whole a.odd b.odd in
    shifted_word 1 c.min-twos.result c.args.a c.args.b whole (omega arith) (omega arith)

value : (c : goal.After-odd_gcd) → c.odd_gcd.result * 2 ^ c.min-twos.result % 2 ^ 64 ≡ gcd c.args.a c.args.b
value c =
    let a = c.odd_part-x.ensures in
    let b = c.odd_part-y.ensures in
    let whole : c.odd_gcd.result * 2 ^ c.min-twos.result ≡ gcd c.args.a c.args.b =
    ap (λ t. c.odd_gcd.result * 2 ^ t) c.min-twos.ensures ∙ ap (λ g. g * 2 ^ min c.odd_part-x.result.1 c.odd_part-y.result.1) c.odd_gcd.ensures ∙ gcd-odd_parts _ _ _ _ _ _ a.whole b.whole a.odd b.odd in
    shifted_word c.odd_gcd.result c.min-twos.result c.args.a c.args.b whole (omega arith) (omega arith)

pub returns-then-x-eq1-clause-value : goal.returns-then-x-eq1-clause-value
returns-then-x-eq1-clause-value c = value-at-1 c

pub returns-then-x-eq1-clause-positive : goal.returns-then-x-eq1-clause-positive
returns-then-x-eq1-clause-positive c some = subst (λ (g : ℕ). 0 < g) (sym (value-at-1 c)) (gcd-positive c.args.a c.args.b some)

pub returns-clause-value : goal.returns-clause-value
returns-clause-value c = value c

pub returns-clause-positive : goal.returns-clause-positive
returns-clause-positive c some = subst (λ (g : ℕ). 0 < g) (sym (value c)) (gcd-positive c.args.a c.args.b some)
