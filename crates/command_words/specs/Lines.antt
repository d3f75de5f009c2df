-- The lines of a session.
use Rattle.std.specs.Prelude.{ℕ, ◌<◌, ◌≤◌, Bool, true, false, List, [], ◌∷◌}
use Rattle.command_words.specs.declared.line.Line.{Line}
use Rattle.command_words.specs.declared.line.Line.TheVariants.{Ask, Finish, Grow}

-- no `finish` and no `grow` stands among the lines
unfoldable pub AreAsks : List Line → Type 0
AreAsks [] = Unit
AreAsks (Ask key ∷ lines) = AreAsks lines
AreAsks (Finish ∷ lines) = ⊥
AreAsks (Grow X ∷ lines) = ⊥

-- `finish` at most once in each part of a script: before the first `grow`, between two of them, and behind the last. The bool: whether it
-- stood in this part
unfoldable pub FinishesOnce : Bool → List Line → Type 0
FinishesOnce done [] = Unit
FinishesOnce done (Ask key ∷ lines) = FinishesOnce done lines
FinishesOnce false (Finish ∷ lines) = FinishesOnce true lines
FinishesOnce true (Finish ∷ lines) = ⊥
FinishesOnce done (Grow X ∷ lines) = FinishesOnce false lines

-- the bounds of the `grow` lines rise from above X, up to 24
unfoldable pub Rises : ℕ → List Line → Type 0
Rises X [] = Unit
Rises X (Ask key ∷ lines) = Rises X lines
Rises X (Finish ∷ lines) = Rises X lines
Rises X (Grow Y ∷ lines) = (X < Y) × (Y ≤ 24) × Rises Y lines
