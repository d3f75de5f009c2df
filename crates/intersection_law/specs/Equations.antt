-- The equations that intersection numbers and Theta numbers meet (E. Witten, Two-dimensional gravity and intersection theory on moduli
-- space, 1991; P. Norbury, A new cohomology class on the moduli space of curves, arXiv 1712.03662).
use Prim.Native.Nat.{ℕ, zero, suc, ◌+◌, ◌<◌, ◌≤◌}
use mathlib.Core.Path.{◌≡◌}
use mathlib.Core.List.{List, [], ◌∷◌, map}
use lib.IntN.{pos}
use lib.ListN.{length}
use Rattle.airy_math.specs.Rational.{ℚ, ◌*ℚ◌, ◌/ℚ◌, whole}
use Rattle.airy_math.specs.Sums.{factorial, sum_over}
use Rattle.airy_math.specs.Keys.{euler, key_of, total}
use Rattle.airy_math.specs.Named.{wk, bgw}
use Rattle.airy_math.specs.Series.{Series}
use Rattle.airy_math.specs.Solutions.{Solves, factorials}
use Rattle.intersection_law.specs.Numbers.{intersection_number}

-- each index is at most M
unfoldable pub AreUpTo : ℕ → List ℕ → Type 0
AreUpTo M [] = Unit
AreUpTo M (d ∷ ds) = (d ≤ M) × AreUpTo M ds

-- the lists that have one of the numbers less by 1
unfoldable pub lowered : List ℕ → List (List ℕ)
lowered [] = []
lowered (zero ∷ ds) = map (λ es. 0 ∷ es) (lowered ds)
lowered (suc d ∷ ds) = (d ∷ ds) ∷ map (λ es. suc d ∷ es) (lowered ds)

-- <tau_d1 .. tau_dn>_g in a series whose indices go up to M
unfoldable pub correlator : ℕ → Series → ℕ → List ℕ → ℚ
correlator M f g ds = intersection_number (suc M) f (key_of g ds)

-- What the intersection numbers of a series meet, for all indices up to M and Euler numbers up to X.
pub record MeetsWitten (X M : ℕ) (f : Series) : Type 0 where
  -- the string equation: <tau_0 tau_d1 .. tau_dn>_g is the sum over k of <tau_d1 .. tau_(dk - 1) .. tau_dn>_g
  pub string : (g : ℕ) (ds : List ℕ) → AreUpTo M ds → 0 < euler g (length ds) → euler g (suc (length ds)) ≤ X
      → correlator M f g (0 ∷ ds) ≡ sum_over (lowered ds) (correlator M f g)
  -- the dilaton equation: <tau_1 tau_d1 .. tau_dn>_g = (2g - 2 + n) <tau_d1 .. tau_dn>_g
  pub dilaton : 1 ≤ M → (g : ℕ) (ds : List ℕ) → AreUpTo M ds → 0 < euler g (length ds) → euler g (suc (length ds)) ≤ X
      → correlator M f g (1 ∷ ds) ≡ whole (euler g (length ds)) *ℚ correlator M f g ds
  -- genus 0: <tau_d1 .. tau_dn>_0 = (n - 3)! / (d1! .. dn!), where d1 + .. + dn = n - 3
  pub multinomial : (ds : List ℕ) → AreUpTo M ds → total ds + 3 ≡ length ds → euler 0 (length ds) ≤ X
      → correlator M f 0 ds ≡ pos (factorial (total ds)) /ℚ factorials ds

-- What the Theta numbers of a series meet: <Theta; tau_0 tau_d1 .. tau_dn>_g = (2g - 2 + n) <Theta; tau_d1 .. tau_dn>_g.
abbrev pub MeetsNorbury : ℕ → ℕ → Series → Type 0
MeetsNorbury X M f = (g : ℕ) (ds : List ℕ) → AreUpTo M ds → 0 < euler g (length ds) → euler g (suc (length ds)) ≤ X
    → correlator M f g (0 ∷ ds) ≡ whole (euler g (length ds)) *ℚ correlator M f g ds

-- Every solution of the constraints of Witten and Kontsevich up to X meets the first, and every solution of those of Brezin, Gross and
-- Witten the second.
abbrev pub WittenLaw : Type 0
WittenLaw = (X M : ℕ) (f : Series) → Solves (wk M) X f → MeetsWitten X M f

abbrev pub NorburyLaw : Type 0
NorburyLaw = (X M : ℕ) (f : Series) → Solves (bgw M) X f → MeetsNorbury X M f
