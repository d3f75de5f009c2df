-- What holds of the splits of a list of indices.
use Rattle.std.specs.Prelude.{◌≡◌, ℕ, ◌+◌, ◌^◌, ◌≤◌, List, [], ◌∷◌, map, length}
use Rattle.std.specs.List.{AllByRecursion}
use Rattle.airy_math.specs.Keys.{total, times, more, same_list, IsSortedFrom}
use Rattle.airy_math.specs.Splits.{Split, splits}

-- the two parts of the split have together each index as often as the list, and both are in order
pub record IsSplitOf (xs : List ℕ) (s : Split) : Type 0 where
  pub times : (a : ℕ) → times a s.part + times a s.rest ≡ times a xs
  pub lengths : length s.part + length s.rest ≡ length xs
  pub totals : total s.part + total s.rest ≡ total xs
  pub part_sorted : IsSortedFrom 0 256 s.part
  pub rest_sorted : IsSortedFrom 0 256 s.rest

-- of how many splits the list is the part
unfoldable pub times_part : List ℕ → List Split → ℕ
times_part ys [] = 0
times_part ys (s ∷ ss) = more (same_list s.part ys) (times_part ys ss)

-- The splits of a list in order are splits of it. A list in order that has no index more often is the part of exactly one.
-- The numbers of ways of all splits of n items add up to 2^n.
pub record SplitsLaw : Type 0 where
  pub each : (xs : List ℕ) → IsSortedFrom 0 256 xs → AllByRecursion (IsSplitOf xs) (splits xs)
  pub once : (xs ys : List ℕ) → IsSortedFrom 0 256 xs → IsSortedFrom 0 256 ys → ((a : ℕ) → times a ys ≤ times a xs)
      → times_part ys (splits xs) ≡ 1
  pub ways : (xs : List ℕ) → total (map (λ s. s.ways) (splits xs)) ≡ 2 ^ length xs
