-- What a seat of a countdown board knows.
use Rattle.std.specs.Prelude.{ℕ}
use Rattle.cell_words.specs.Countdown.{Known}
use Rattle.cell_words.specs.Seats.{view_of}
use Rattle.cell_words.specs.declared.countdown.CountSeat.{CountSeat}

abbrev pub Knows : CountSeat → ℕ → Type 0
Knows s r = Known (view_of s) r
