use Rattle.std.proofs.Common.{◌≡◌, ℕ, ◌<◌, ◌≤◌, length, drop, slice_index_or}
use Rattle.cell_words.proofs.Names.{with_portions, IsToken, IsDealt, CountSeat}
use Rattle.cell_words.proofs.countdown.Countdown.deal.Given as goal

abbrev pub invariant-loop-k : goal.invariant-loop-k
invariant-loop-k l = record {
  token : IsToken l.self l.place;
  view : l.place.me.0 ≡ with_portions l.fn.place.me.0 (drop l.k l.fn.place.me.0.portions);
  len : length l.seats ≡ length l.fn.seats;
  dealt : (j : ℕ) (d : CountSeat) → j < l.k → IsDealt l.self l.fn.place.me.0 (slice_index_or l.fn.seats j d) (slice_index_or l.seats j d);
  left : (j : ℕ) (d : CountSeat) → l.k ≤ j → slice_index_or l.seats j d ≡ slice_index_or l.fn.seats j d;
}
