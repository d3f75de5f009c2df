-- What the table of a curve says of every solution of the curve.
use Prim.Native.Nat.{ℕ, suc, ◌<◌, ◌≤◌}
use mathlib.Core.Path.{◌≡◌}
use mathlib.Core.Bool.{false}
use mathlib.Core.Logic.{◌⊎◌}
use Rattle.airy_math.specs.Cuts.{outer}
use Rattle.airy_math.specs.Families.{top_wk}
use Rattle.airy_math.specs.Keys.{Key, IsSortedFrom}
use Rattle.airy_math.specs.Rational.{ℚ}
use Rattle.airy_math.specs.RationalLaws.{0ℚ}
use Rattle.airy_math.specs.Series.{Series}
use Rattle.airy_math.specs.Shapes.{covers}
use Rattle.airy_math.specs.Solutions.{Solves, amplitude}
use Rattle.airy_math.specs.Tensors.{Tensors, SameEntries}
use Rattle.amp_terms.specs.Outcomes.{outcomes}
use Rattle.series_law.specs.Check.{check, Solution, Orders}
use Rattle.series_law.specs.Jobs.{HasValue}
use Rattle.series_law.specs.Uniqueness.{series_of}
use Rattle.airy_math.specs.Curves.{curve, curve_shape, whole_curve}

-- What the table of T up to X says of the solutions f of the curve of c with all indices up to M.
pub record IsCurveTable (T : Tensors) (c : ℕ → ℚ) (X M : ℕ) : Type 0 where
  -- Each Value is the key's amplitude in every such f,
  pub values : (f : Series) → Solves (whole_curve c M) X f → (key : Key) (w : ℚ) → HasValue T X key w → amplitude (suc M) f key ≡ w
  -- which is 0 where the shape does not cover the key or an index is beyond the table's.
  pub zeros : (f : Series) → Solves (whole_curve c M) X f → (key : Key) → IsSortedFrom 0 (suc M) key.idx
      → (covers curve_shape key ≡ false) ⊎ (0 < outer T.dim key.idx) → amplitude (suc M) f key ≡ 0ℚ
  -- Where the check of every pivot finds nothing, the table's series is such an f.
  pub solved : check T X (outcomes T X) ≡ Solution → Solves (whole_curve c M) X (series_of T X (outcomes T X))
  -- Where it finds two orders of a key's indices that give two numbers, there is none.
  pub unsolvable : (key : Key) (i j : ℕ) (a b : ℚ) → check T X (outcomes T X) ≡ Orders key i a j b
      → (f : Series) → Solves (whole_curve c M) X f → ⊥

-- T has the entries with all indices and exponents up to the bound's top, as `airy_curve::curve` stores them;
-- M is any index from the top on.
abbrev pub CurveTableLaw : Type 0
CurveTableLaw = (T : Tensors) (c : ℕ → ℚ) (X M : ℕ) → 0 < X
    → SameEntries T (curve c (suc (top_wk X)) (top_wk X)) → top_wk X ≤ M → IsCurveTable T c X M
