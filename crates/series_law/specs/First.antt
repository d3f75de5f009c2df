-- That what the check of a table finds is the first that fails, said without the order in which the check looks.
use Prim.Native.Nat.{ℕ, ◌<◌}
use mathlib.Core.Path.{◌≡◌}
use mathlib.Core.Bool.{true, false}
use mathlib.Core.List.{List}
use mathlib.Core.Logic.{◌↔◌}
use Rattle.std.specs.Prelude.{Some, None}
use lib.ListN.{length, get_or}
use Rattle.airy_math.specs.Keys.{Key, head_or}
use Rattle.airy_math.specs.Tensors.{Tensors}
use Rattle.airy_math.specs.Planned.{planned}
use Rattle.airy_math.specs.Terms.{obtained_pivot_sum}
use Rattle.amp_terms.specs.declared.Outcome.{Outcome}
use Rattle.amp_terms.specs.declared.Outcome.TheVariants.{Over}
use Rattle.amp_terms.specs.Outcomes.{has_value, value_in}
use Rattle.series_law.specs.Scans.{above_least, AgreesUpTo, IsFirstFailing}
use Rattle.series_law.specs.Check.{Verdict, Solution, NotValue, Overflow, Orders, check}

-- every rank of the table before r has a Value
unfoldable pub HaveValues : List Outcome → ℕ → Type 0
HaveValues table r = (s : ℕ) → s < r → has_value (get_or table s Over) ≡ true

-- All that comes before the pivot i of the key passes: each rank has a Value, and each pivot above the least of an earlier key, and
-- each such lesser pivot of this one, gives the key's Value.
unfoldable pub PassesUpTo : Tensors → ℕ → List Outcome → Key → ℕ → Type 0
PassesUpTo T X table key i = HaveValues table (length table) × AgreesUpTo T X (value_in (planned T X) table) above_least key i

-- The verdict is the first finding: nothing where every rank has a Value and every pivot passes; else the least rank without a Value;
-- else the first key's first pivot that doesn't pass, since its sum is not obtained, or is another number b than the Value a, which
-- stands with the key's least index l.
unfoldable pub IsFirst : Tensors → ℕ → List Outcome → Verdict → Type 0
IsFirst T X table Solution = HaveValues table (length table) × IsFirstFailing T X (value_in (planned T X) table) above_least None
IsFirst T X table (NotValue r) = (r < length table) × (has_value (get_or table r Over) ≡ false) × HaveValues table r
IsFirst T X table (Overflow key i) =
    PassesUpTo T X table key i × (obtained_pivot_sum T (value_in (planned T X) table) key i ≡ None)
IsFirst T X table (Orders key l a i b) =
    PassesUpTo T X table key i × (obtained_pivot_sum T (value_in (planned T X) table) key i ≡ Some b) × (a ≡ b → ⊥)
    × (l ≡ head_or 0 key.idx) × (a ≡ value_in (planned T X) table key)

-- The check of a table finds the first finding, and there is exactly one.
abbrev pub FirstFindingLaw : Type 0
FirstFindingLaw = (T : Tensors) (X : ℕ) (table : List Outcome) (u : Verdict) → (check T X table ≡ u) ↔ IsFirst T X table u
