-- The stored tensors of the families meet the five relations.
use Prim.Native.Nat.{ℕ, ◌+◌, ◌*◌, ◌≤◌}
use Rattle.airy_math.specs.Families.{wp_cut}
use Rattle.airy_math.specs.Named.{wk, bgw}
use Rattle.sparse_tensor.specs.Entries.{Entries}
use Rattle.named_families.specs.Families.{StandsFor, StandsForLettered}
-- The five relations hold in all places below N, so a check of these places never finds that they differ.
pub use Rattle.airy_curve.specs.Storing.{MeetsRelations}

-- N places need 2N + 1 indices, and of wp as many exponents.
abbrev pub WkCloses : Type 0
WkCloses = (t : Entries) (M N : ℕ) → StandsFor t (wk M) → 2 * N + 1 ≤ t.dim → MeetsRelations t N

abbrev pub BgwCloses : Type 0
BgwCloses = (t : Entries) (M N : ℕ) → StandsFor t (bgw M) → 2 * N + 1 ≤ t.dim → MeetsRelations t N

abbrev pub WpCloses : Type 0
WpCloses = (t : Entries) (dim most N : ℕ) → StandsForLettered t (wp_cut dim most) → 2 * N + 1 ≤ t.dim → 2 * N + 1 ≤ most
    → MeetsRelations t N
