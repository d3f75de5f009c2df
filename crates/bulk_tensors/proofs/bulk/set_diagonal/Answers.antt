use Rattle.std.proofs.Common.{◌≡◌, ℕ, ◌+◌, ◌*◌, ◌%◌, ap, sym, subst, ◌∙◌, refl, arith, rules, pos}
use Rattle.airy_math.specs.Rational.{whole, ◌/ℚ◌}
use Rattle.bulk_tensors.specs.Draws.{state}
use Rattle.bulk_tensors.proofs.DiagonalLemmas.{IsSet, set_none, set_next, set_all}
use Rattle.bulk_tensors.proofs.bulk.set_diagonal.Goals as goal

pub loop-i-init : goal.loop-i-init
unfolding state
loop-i-init c =
    let seed = c.args.draws.now.state in
    (subst (IsSet 0 seed c.args.dim) (sym c.requires.zero) (set_none seed c.args.dim), refl)

last : (i : ℕ) → 4 * i + 3 + 1 ≡ 4 * (i + 1)
last i = omega arith

pub loop-i-preserved : goal.loop-i-preserved
loop-i-preserved c =
    let seed = c.args.draws.now.state in
    let i = c.loop-i.i in
    let one = c.draw.ensures.drawn seed (4 * i) c.loop-i.invariant.1 in
    let two = c.draw-in-loop-i.ensures.drawn seed (4 * i + 1) one.1 in
    let three = c.draw-in-loop-i-2.ensures.drawn seed (4 * i + 2) (two.1 ∙ ap (state seed) (native.Mathlib.Nat.add_assoc (4 * i) 1 1)) in
    let four = c.draw-in-loop-i-3.ensures.drawn seed (4 * i + 3) (three.1 ∙ ap (state seed) (native.Mathlib.Nat.add_assoc (4 * i) 2 1)) in
    let a : c.whole-a.result ≡ whole (1 + c.draw.result % 3) = unfold whole in search rules in
    let b : c.whole-b.result ≡ whole (1 + c.draw-in-loop-i.result % 3) = unfold whole in search rules in
    let k : c.whole-c.result ≡ whole (c.draw-in-loop-i-2.result % 2) = unfold whole in search rules in
    let d : c.eighths-d.result ≡ pos (1 + c.draw-in-loop-i-3.result % 7) /ℚ 8 = search rules in
    let next = set_next i seed c.args.dim c.loop-i.full c.whole-a.result c.whole-b.result c.whole-c.result c.eighths-d.result (omega arith)
    (a ∙ ap (λ n. whole (1 + n % 3)) one.0) (b ∙ ap (λ n. whole (1 + n % 3)) two.0) (k ∙ ap (λ n. whole (n % 2)) three.0) (d ∙ ap (λ n. pos (1 + n % 7) /ℚ 8) four.0) c.loop-i.invariant.0 in
    (subst (IsSet (i + 1) seed c.args.dim) (sym c.set_diagonal.ensures.entries) next, four.1 ∙ ap (state seed) (last i))

pub returns-clause-entries : goal.returns-clause-entries
returns-clause-entries c =
    let seed = c.args.draws.now.state in
    let whole : c.loop-i.i ≡ c.args.dim = omega arith in
    set_all seed c.args.dim c.loop-i.full c.requires.most (subst (λ n. IsSet n seed c.args.dim c.loop-i.full) whole c.loop-i.invariant.0)
