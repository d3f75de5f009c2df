-- The four words of an outcome: two numbers, each as the low and the high 64 bits of its two's complement in 128 bits.
use Prim.Native.Nat.{ℕ, zero, suc, ◌/◌, ◌%◌, ◌<◌, ◌^◌}
use lib.IntN.{ℤ, pos}
use mathlib.Core.Path.{◌≡◌}
use mir.Syntax.{w128}
use Rattle.std.specs.Int.{cast_unsigned}
use Rattle.airy_math.specs.Obtained.{IsInRange}
use Rattle.amp_terms.specs.declared.Outcome.{Outcome}
use Rattle.amp_terms.specs.declared.Outcome.TheVariants.{Value, Over, Blocked}

-- n of a Value n/d; one more than the rank of a Blocked
unfoldable pub first_number : Outcome → ℤ
first_number (Value v) = v.num
first_number Over = pos 0
first_number (Blocked r) = pos (suc r)

-- d of a Value n/d
unfoldable pub second_number : Outcome → ℤ
second_number (Value v) = pos v.den
second_number Over = pos 0
second_number (Blocked r) = pos 0

abbrev pub low_word : ℤ → ℕ
low_word n = cast_unsigned w128 n % 2 ^ 64

abbrev pub high_word : ℤ → ℕ
high_word n = cast_unsigned w128 n / 2 ^ 64

-- the value word k of an outcome, from 0
unfoldable pub word_of : Outcome → ℕ → ℕ
word_of o zero = low_word (first_number o)
word_of o (suc zero) = high_word (first_number o)
word_of o (suc (suc zero)) = low_word (second_number o)
word_of o (suc (suc (suc k))) = high_word (second_number o)

-- an outcome whose numbers are those of the program: a fraction in range, a rank in 32 bits
unfoldable pub IsSized : Outcome → Type 0
IsSized (Value v) = IsInRange v
IsSized Over = Unit {0}
IsSized (Blocked r) = r < 2 ^ 32

-- These four words are the value words of an outcome whose numbers are those of the program.
pub record AreWordsOfOne (a b c d : ℕ) : Type 0 where
  pub outcome : Outcome
  pub sized : IsSized outcome
  pub first : a ≡ word_of outcome 0
  pub second : b ≡ word_of outcome 1
  pub third : c ≡ word_of outcome 2
  pub fourth : d ≡ word_of outcome 3
