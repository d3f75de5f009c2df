use Rattle.std.proofs.Common.{◌≡◌, ◌≤◌, ◌++◌, length}
use Rattle.index_lists.specs.Listing.{found}
use Rattle.index_lists.proofs.listing.+add_lists.Given as goal

abbrev pub decreases-add_lists : goal.decreases-add_lists
decreases-add_lists l = l.places

abbrev pub invariant-loop-index : goal.invariant-loop-index
invariant-loop-index l = record {
  prefix : l.prefix ≡ l.initial.prefix;
  few : length l.keys.items ≤ 200000;
  listed : l.keys.items ++ found l.listing l.initial.prefix.items l.places l.index l.sum ≡ l.initial.keys.items ++ found l.listing l.initial.prefix.items l.places l.least l.sum;
}
