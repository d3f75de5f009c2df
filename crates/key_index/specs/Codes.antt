-- Codes of keys: numbers that add up over the genus and the indices, so that a walk over keys carries them by additions. The
-- code of an index is a power of a residue modulo a prime. Sums of powers of a primitive root look random, so that two keys of
-- a plan with one code are not to be expected; where it happens, whoever makes an index finds it.
use Prim.Native.Nat.{ℕ, zero, suc, ◌+◌, ◌*◌, ◌%◌, ◌<◌}
use mathlib.Core.Path.{◌≡◌}
use mathlib.Core.List.{List, map}
use lib.ListN.{get_or}
use Rattle.airy_math.specs.Keys.{Key, total}

-- the prime 2^58 - 27
unfoldable pub code_prime : ℕ
code_prime = 288230376151711717

-- a primitive root of the prime, near the prime's golden section
unfoldable pub code_root : ℕ
code_root = 178136169051924959

-- the power x + 1 of the root, modulo the prime
unfoldable pub code_of_index : ℕ → ℕ
code_of_index zero = code_root
code_of_index (suc x) = code_of_index x * code_root % code_prime

-- the sum of the codes of the indices
unfoldable pub code_of_list : List ℕ → ℕ
code_of_list xs = total (map code_of_index xs)

-- a multiple of the golden section of 2^53
unfoldable pub code_of_genus : ℕ → ℕ
code_of_genus g = g * 5566755282872655

-- the code of a key: that of its genus and those of its indices, added up
unfoldable pub code_of : Key → ℕ
code_of key = code_of_genus key.g + code_of_list key.idx

-- a table of the codes of the indices
abbrev pub AreCodes : List ℕ → Type 0
AreCodes codes = (x : ℕ) → x < 256 → get_or codes x 0 ≡ code_of_index x
