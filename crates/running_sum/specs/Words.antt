-- A fraction of words.
use Rattle.std.specs.Prelude.{◌*◌, ◌<◌, ◌^◌}
use Rattle.airy_math.specs.Rational.{ℚ, ◌/ℚ◌}
use Rattle.running_sum.specs.declared.words.Word.TheInside.{Inside}

pub record AreWords (a : Inside) : Type 0 where
  pub odd_above : 0 < a.odd
  pub twos_fit : a.twos < 64

abbrev pub the_word : Inside → ℚ
the_word a = a.num /ℚ (a.odd * 2 ^ a.twos)
