-- For private functions and for proofs: no public contract rests on this file.
-- Whole numbers as a size with a sign.
use Rattle.std.specs.Prelude.{ℕ, ℤ, pos, negsuc, neg_ℤ, Bool, true, false}

-- a size with a sign
abbrev pub with_sign : Bool → ℕ → ℤ
with_sign true n = neg_ℤ (pos n)
with_sign false n = pos n

-- one of the two is below 0 and the other isn't
abbrev pub signs_differ : ℤ → ℤ → Bool
signs_differ (pos m) (pos n) = false
signs_differ (pos m) (negsuc n) = true
signs_differ (negsuc m) (pos n) = true
signs_differ (negsuc m) (negsuc n) = false
