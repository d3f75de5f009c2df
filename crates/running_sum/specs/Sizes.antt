-- For private functions and for proofs: no public contract rests on this file.
-- Numbers in range.
use Rattle.std.specs.Prelude.{◌≡◌, ℕ, ◌<◌, ◌^◌, ◌*◌, ℤ, pos, ◌+ℤ◌, ◌*ℤ◌, unsigned_abs}

pub record IsProduct (a b p : ℤ) : Type 0 where
  pub value : p ≡ a *ℤ b
  pub fits : unsigned_abs p < 2 ^ 127

pub record IsSum (a b s : ℤ) : Type 0 where
  pub value : s ≡ a +ℤ b
  pub fits : unsigned_abs s < 2 ^ 127

-- b 2^t and its sum with a, both in range
pub record IsRaisedSum (a b : ℤ) (t : ℕ) (s : ℤ) : Type 0 where
  pub value : s ≡ a +ℤ b *ℤ pos (2 ^ t)
  pub raised_fits : unsigned_abs (b *ℤ pos (2 ^ t)) < 2 ^ 127
  pub fits : unsigned_abs s < 2 ^ 127

-- two factors above 0 with one product
pub record IsCommon (a b : ℕ) (k : ℕ × ℕ) : Type 0 where
  pub same : a * k.0 ≡ b * k.1
  pub some : 0 < k.0
