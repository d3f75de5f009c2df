use Rattle.std.proofs.Common.{◌≡◌, ℕ, ◌++◌, length}
use Rattle.command_words.specs.Lines.{Rises}
use Rattle.command_words.specs.Options.{lines_of}
use Rattle.command_words.specs.Asked.{parted_of, IsLeft}
use Rattle.command_words.proofs.scripts.lines_made.Given as goal

abbrev pub invariant-loop-word : goal.invariant-loop-word
invariant-loop-word l = record {
  made : l.lines.items ++ lines_of (parted_of l.rest) ≡ lines_of (parted_of l.left);
  rise : (X : ℕ) × Rises X (lines_of (parted_of l.rest));
  words : IsLeft l.rest;
}

abbrev pub decreases-loop-word : goal.decreases-loop-word
decreases-loop-word l = length l.rest.words.now
