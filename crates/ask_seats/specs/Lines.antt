-- The lines of a session.
use Rattle.std.specs.Prelude.{Bool, true, false, List, [], ◌∷◌}
use Rattle.command_words.specs.declared.line.Line.{Line}
use Rattle.command_words.specs.declared.line.Line.TheVariants.{Ask, Finish, Grow}
unfoldable pub use Rattle.command_words.specs.Lines.{AreAsks, FinishesOnce, Rises}

-- a `finish` stands in the last part, behind the last `grow`; the bool: whether one stood before in this part
unfoldable pub ends_finished : Bool → List Line → Bool
ends_finished done [] = done
ends_finished done (Ask key ∷ lines) = ends_finished done lines
ends_finished done (Finish ∷ lines) = ends_finished true lines
ends_finished done (Grow X ∷ lines) = ends_finished false lines
