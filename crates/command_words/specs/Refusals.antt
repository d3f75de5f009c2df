-- The first word that is refused, whatever the words are read as. A reading gives the number with which words are refused, or None.
use Rattle.std.specs.Prelude.{◌≡◌, ◌↔◌, ℕ, ◌+◌, ◌<◌, ◌≤◌, List, ◌++◌, length, take, Option, Some, None}

-- words that break no rule begin with these
abbrev pub BeginsOne : (List (List ℕ) → Option ℕ) → List (List ℕ) → Type 0
BeginsOne breaks ws = (more : List (List ℕ)) × (breaks (ws ++ more) ≡ None)

-- n is the least number for which no words that break no rule begin with the first n words. Where some begin with all the words, but
-- these aren't accepted themselves, n is their count plus 1: a word is missing, or what the words ask for is refused behind all of them.
pub record IsFirstRefused (breaks refuses : List (List ℕ) → Option ℕ) (ws : List (List ℕ)) (n : ℕ) : Type 0 where
  pub before : (k : ℕ) → k < n → BeginsOne breaks (take k ws)
  pub within : n ≤ length ws → BeginsOne breaks (take n ws) → ⊥
  pub missing : length ws < n → (n ≡ length ws + 1) × (refuses ws ≡ None → ⊥)

-- The number found is that of the first refused word, and None is found only where there is none.
abbrev pub FindsFirst : (breaks refuses : List (List ℕ) → Option ℕ) → Option ℕ → List (List ℕ) → Type 0
FindsFirst breaks refuses found ws = (n : ℕ) → (found ≡ Some n) ↔ IsFirstRefused breaks refuses ws n
