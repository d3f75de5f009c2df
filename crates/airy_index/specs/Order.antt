-- The order of keys in a plan is a strict order in which each two keys are comparable.
use Rattle.std.specs.Prelude.{◌≡◌, ◌⊎◌, Bool, true, false}
use Rattle.airy_math.specs.Keys.{Key}

-- no key stands before itself, what is before something before a key is before the key, and of two keys one is before the
-- other or they are the same
pub record IsStrictOrder (comes_before : Key → Key → Bool) : Type 0 where
  pub irreflexive : (a : Key) → comes_before a a ≡ false
  pub transitive : (a b c : Key) → comes_before a b ≡ true → comes_before b c ≡ true → comes_before a c ≡ true
  pub total : (a b : Key) → (comes_before a b ≡ true) ⊎ ((comes_before b a ≡ true) ⊎ (a ≡ b))
