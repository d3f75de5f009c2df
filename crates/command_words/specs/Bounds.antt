-- The bounds of a session's words: the first, and those of its `grow` lines.
use Rattle.std.specs.Prelude.{◌≡◌, ℕ, ◌<◌, ◌≤◌, nat_le, ◌&&◌, Bool, false, cond, IsTrue, List, [], ◌∷◌, Result, Ok, Err}
use Rattle.command_words.specs.declared.line.Line.{Line}
use Rattle.command_words.specs.declared.line.Line.TheVariants.{Ask, Finish, Grow}
use Rattle.command_words.specs.Lines.{FinishesOnce, Rises}

-- a table is made up to this bound: from 1 to 24
unfoldable pub is_bound : ℕ → Bool
is_bound X = nat_le 1 X && nat_le X 24

-- The bound that the words reach from X: the first of them, in order, that isn't from 1 to 24, or else the last, which is the greatest.
unfoldable pub reach : ℕ → List Line → ℕ
reach X [] = X
reach X (Ask key ∷ lines) = reach X lines
reach X (Finish ∷ lines) = reach X lines
reach X (Grow Y ∷ lines) = cond (is_bound X) (reach Y lines) X

-- The lines of a script's words, behind the bound X.
pub record IsScript (X : ℕ) (lines : List Line) : Type 0 where
  -- `finish` stands at most once in each part
  pub once : FinishesOnce false lines
  -- where the bounds are all from 1 to 24, they rise
  pub rise : IsTrue (is_bound (reach X lines)) → Rises X lines

-- The greatest bound of the words, up to which they rise from X; or the first that isn't from 1 to 24.
abbrev pub IsReached : ℕ → List Line → Result ℕ ℕ → Type 0
IsReached X lines (Ok top) = (top ≡ reach X lines) × (0 < X) × (X ≤ top) × (top ≤ 24) × Rises X lines
IsReached X lines (Err Y) = (Y ≡ reach X lines) × (is_bound Y ≡ false)
