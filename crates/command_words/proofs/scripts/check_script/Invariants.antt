use Rattle.std.proofs.Common.{◌≡◌, false, length}
use Rattle.command_words.specs.Options.{fault_of, workers_of}
use Rattle.command_words.specs.Asked.{parted_of, IsLeft}
use Rattle.command_words.proofs.scripts.check_script.Given as goal

abbrev pub invariant-loop-before : goal.invariant-loop-before
invariant-loop-before l = record {
  fault : fault_of l.some l.finished l.bound (parted_of l.rest) ≡ fault_of false false l.first (parted_of l.left);
  workers : workers_of (parted_of l.rest) ≡ workers_of (parted_of l.left);
  words : IsLeft l.rest;
}

abbrev pub decreases-loop-before : goal.decreases-loop-before
decreases-loop-before l = length l.rest.words.now
