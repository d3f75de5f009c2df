use Rattle.std.proofs.Common.{◌≡◌, ℕ, List, get_or, sym, ap, subst, refl, rules}
use Rattle.airy_math.specs.Rational.{ℚ}
use Rattle.airy_math.specs.RationalLaws.{0ℚ}
use Rattle.bulk_tensors.specs.declared.slots.Gain.{Gain}
use Rattle.bulk_tensors.specs.Full.{Lists, entry, listed, SameBelow}
use Rattle.bulk_tensors.specs.Change.{slot_by_slot, gained, gains}
use Rattle.bulk_tensors.proofs.full_tensors.FullTensors.change_slots.Goals as goal

-- what is said of lists, said of equal ones, and below an equal dim
moved : (l m k : Gain) (n n' : ℕ) (xs xs' ys ys' : List ℚ) → n ≡ n' → xs' ≡ xs → ys ≡ ys' → SameBelow n (entry xs) (slot_by_slot l m k (entry ys)) → SameBelow n' (entry xs') (slot_by_slot l m k (entry ys'))
moved l m k n n' xs xs' ys ys' p q r h =
    subst (λ ys. SameBelow n' (entry xs') (slot_by_slot l m k (entry ys))) r
    (subst (λ xs. SameBelow n' (entry xs) (slot_by_slot l m k (entry ys))) (sym q)
    (subst (λ n. SameBelow n (entry xs) (slot_by_slot l m k (entry ys))) p h))

pub returns-clause-changed : goal.returns-clause-changed
unfolding gains listed SameBelow
returns-clause-changed c =
    let a = c.args.amplitude.now in
    let k = c.args.contracted.now in
    let same = c.self.view_is in
    let dim : c.from-dim.result ≡ c.self.inside.dim = search rules in
    record {
      dim = ap (λ (u : Lists). u.dim) same;
      shape = refl;
      A = moved a a a c.from-dim.result c.self.inside.dim c.change.new.self.a c.swap.new.x c.self.inside.a c.args.self.now.a dim c.swap.ensures.x_after (ap (λ (u : Lists). u.a) same) c.in_ok-change.ensures.a;
      B = moved a a k c.from-dim.result c.self.inside.dim c.change.new.self.b c.swap-2.new.x c.self.inside.b c.args.self.now.b dim c.swap-2.ensures.x_after (ap (λ (u : Lists). u.b) same) c.in_ok-change.ensures.b;
      C = moved a k k c.from-dim.result c.self.inside.dim c.change.new.self.c c.swap-3.new.x c.self.inside.c c.args.self.now.c dim c.swap-3.ensures.x_after (ap (λ (u : Lists). u.c) same) c.in_ok-change.ensures.c;
      D = λ i p. subst (λ (u : Lists). get_or c.in_ok-self-inside.field-0 i 0ℚ ≡ gained a (λ x. get_or u.d x 0ℚ) i) same (c.in_ok-self-inside.ensures.changed i);
    }
