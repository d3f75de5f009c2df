use Rattle.std.proofs.Common.{◌≡◌, length}
use Rattle.command_words.specs.Bounds.{reach}
use Rattle.command_words.specs.Options.{lines_of}
use Rattle.command_words.specs.Asked.{parted_of, IsLeft}
use Rattle.command_words.proofs.bounds.greatest_bound.Given as goal

abbrev pub invariant-loop-rest : goal.invariant-loop-rest
invariant-loop-rest l = record {
  reached : reach l.bound (lines_of (parted_of l.rest)) ≡ reach l.first (lines_of (parted_of l.script));
  words : IsLeft l.rest;
}

abbrev pub decreases-loop-rest : goal.decreases-loop-rest
decreases-loop-rest l = length l.rest.words.now
