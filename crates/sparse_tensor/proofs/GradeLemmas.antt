-- Gradings: tests of signed numbers as the code makes them.
use Rattle.std.proofs.Common.{◌≡◌, Bool, true, false, eqb, refl, sym, ap, ◌∙◌, arith, ℤ, pos, negsuc, FitsSigned, of_z, to_z}
use Rattle.std.specs.Int.{w32}
use Rattle.std.specs.Int.Signed.{le_z}
use Rattle.std.proofs.lemmas.Int.{to_z-of_z}
use Rattle.std.proofs.lemmas.Bool.{eqb-true, eq-eqb}
use Rattle.std.proofs.lemmas.Bool.Decides.{nat_tests}
use Rattle.airy_math.specs.Shapes.{eq_z}
use Rattle.airy_math.proofs.SameNumbers.{same_z}

le_z-same : (x : ℤ) → le_z x x ≡ true
le_z-same (pos n) = grind (arith, nat_tests)
le_z-same (negsuc n) = grind (arith, nat_tests)

pub eq_z-same : (x y : ℤ) → x ≡ y → eq_z x y ≡ true
unfolding eq_z
eq_z-same x y e = rw e (rw (le_z-same y) refl)

-- a test of two machine numbers is that of the integers
pub eqb-of_z : (x y : ℤ) → FitsSigned w32 x → FitsSigned w32 y → eqb (of_z w32 x) (of_z w32 y) ≡ eq_z x y
eqb-of_z x y p q = by (eqb (of_z w32 x) (of_z w32 y)) (eq_z x y) refl refl
  where
    by : (s t : Bool) → eqb (of_z w32 x) (of_z w32 y) ≡ s → eq_z x y ≡ t → s ≡ t
    by true true a b = refl
    by false false a b = refl
    by true false a b =
        let e : x ≡ y = sym (to_z-of_z w32 x p) ∙ ap (to_z w32) (eqb-true (of_z w32 x) (of_z w32 y) a) ∙ to_z-of_z w32 y q in
        sym (eq_z-same x y e) ∙ b
    by false true a b = sym a ∙ eq-eqb (of_z w32 x) (of_z w32 y) (ap (of_z w32) (same_z x y b))
