use Rattle.std.proofs.Common.{length}
use Rattle.airy_wait.proofs.words.+check_keys.Given as goal

abbrev pub decreases-check_keys : goal.decreases-check_keys
decreases-check_keys l = length l.left.words.now
