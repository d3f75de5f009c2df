-- `same_number` decides whether two numbers are equal, as `==` of two fractions does; and tensors with the same entries.
use mathlib.Core.Path.{◌≡◌, refl, ap₂, ◌∙◌}
use mathlib.Core.Bool.{true, Bool, false, ◌&&◌}
use native.Mathlib.Omega.{arith}
use lib.Dec.{eqb}
use lib.IntN.{ℤ, pos}
use lib.Signed.{le_z}
use Rattle.std.proofs.lemmas.Int.{ints}
use Rattle.std.proofs.lemmas.Bool.{and_parts, and_from, eqb-true, eq-eqb}
use Rattle.airy_math.specs.Rational.{ℚ, same_parts}
use Rattle.airy_math.specs.Shapes.{eq_z}
use Rattle.airy_math.specs.Tensors.{same_number, Tensors, SameEntries}
use Rattle.airy_math.proofs.SolutionLaw.{le_self, T_true}
use Prim.Native.Nat.{ℕ}
use Rattle.std.specs.Ordering.{int_eq}
use Rattle.std.proofs.Common.{rules}

pub same_z : (a b : ℤ) → eq_z a b ≡ true → a ≡ b
unfolding eq_z
same_z a b h = let u = and_parts (le_z a b) (le_z b a) h in both a b u.0 u.1
  where
    both : (a b : ℤ) → le_z a b ≡ true → le_z b a ≡ true → a ≡ b
    both a b p q = omega (arith, ints)

self_z : (a : ℤ) → eq_z a a ≡ true
unfolding eq_z
self_z a = and_from (le_z a a) (le_z a a) (T_true (le_z a a) (le_self a).le) (T_true (le_z a a) (le_self a).le)

pub same_true : (x y : ℚ) → same_number x y ≡ true → x ≡ y
unfolding same_number
same_true x y h = let u = and_parts (eq_z x.num y.num) (eqb x.den y.den) h in same_parts x y (same_z x.num y.num u.0) (eqb-true x.den y.den u.1)

pub same_self : (x : ℚ) → same_number x x ≡ true
unfolding same_number
same_self x = and_from (eq_z x.num x.num) (eqb x.den x.den) (self_z x.num) (eq-eqb x.den x.den refl)

pub same_trans : (T U V : Tensors) → SameEntries T U → SameEntries U V → SameEntries T V
same_trans T U V e f =
    let dim : T.dim ≡ U.dim = e.dim in
    record {
      dim = e.dim ∙ f.dim;
      shape = e.shape ∙ f.shape;
      A = λ i j k p q r. e.A i j k p q r ∙ f.A i j k (omega arith) (omega arith) (omega arith);
      B = λ i j k p q r. e.B i j k p q r ∙ f.B i j k (omega arith) (omega arith) (omega arith);
      C = λ i j k p q r. e.C i j k p q r ∙ f.C i j k (omega arith) (omega arith) (omega arith);
      D = λ i p. e.D i p ∙ f.D i (omega arith);
    }

pub ints_same : (a b : ℤ) → int_eq a b ≡ eq_z a b
unfolding eq_z
ints_same a b = grind (arith, ints)

pub counts_same : (m n : ℕ) → int_eq (pos m) (pos n) ≡ eqb m n
counts_same m n = search rules

-- what `==` of two fractions answers is whether they are the same number
pub eq-same : (x y : ℚ) → (int_eq x.num y.num && int_eq (pos x.den) (pos y.den)) ≡ same_number x y
unfolding same_number
eq-same x y = ap₂ ◌&&◌ (ints_same x.num y.num) (counts_same x.den y.den)

pub clash : (b : Bool) → b ≡ true → b ≡ false → ⊥
clash true u v = cc
clash false u v = cc
