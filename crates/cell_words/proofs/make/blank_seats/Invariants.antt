use Rattle.std.proofs.Common.{◌≡◌, ℕ, ◌<◌, length, slice_index_or}
use Rattle.cell_words.proofs.Names.{IsBlank, carried_in, CountSeat}
use Rattle.cell_words.proofs.make.blank_seats.Given as goal

abbrev pub invariant-loop-number : goal.invariant-loop-number
invariant-loop-number l = record {
  len : length l.all.items ≡ l.number;
  blank : (k : ℕ) (d : CountSeat) → k < l.number → IsBlank l.room (carried_in l.table) k (slice_index_or l.all.items k d);
}
