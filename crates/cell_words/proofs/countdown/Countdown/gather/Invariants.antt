use Rattle.std.proofs.Common.{◌≡◌, ℕ, ◌≤◌, take, slice_index_or}
use Rattle.cell_words.proofs.Names.{IsToken, AreTaken, IsGathered, CountSeat}
use Rattle.cell_words.proofs.countdown.Countdown.gather.Given as goal

abbrev pub invariant-loop-k : goal.invariant-loop-k
invariant-loop-k l = record {
  token : IsToken l.self l.place;
  gathered : IsGathered l.self.base.plan (take l.k l.fn.seats) l.place.me.0;
  taken : AreTaken l.fn.seats l.seats;
  left : (j : ℕ) (d : CountSeat) → l.k ≤ j → slice_index_or l.seats j d ≡ slice_index_or l.fn.seats j d;
}
