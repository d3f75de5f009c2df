-- Readings of words, each by computation.
use mathlib.Core.Path.{◌≡◌, refl}
use Rattle.std.specs.Prelude.{ℕ, [], ◌∷◌, codes}
use Rattle.airy_math.specs.declared.Family.TheVariants.{Wk}
use Rattle.airy_math.specs.Keys.{key_of, euler, ordered, ordered_with, insert}
use Rattle.command_words.specs.declared.line.Line.TheVariants.{Ask, Finish, Grow}
use Rattle.command_words.specs.Words.{Named, Text, Table, Session, Number, Bulk, Refused}
use Rattle.command_words.specs.Bounds.{is_bound, reach}
use Rattle.command_words.specs.Scripts.{line_of_word}
use Rattle.command_words.specs.Options.{worded_of, reading_of}

-- To name this on an `unfolding` line opens all that reads words.
unfoldable pub words_compute : ℕ → ℕ
unfolding euler ordered ordered_with insert key_of line_of_word worded_of reading_of
words_compute n = n

none : reading_of [] ≡ Refused 1
unfolding words_compute
none = refl

no_bound : reading_of (codes "table" ∷ codes "wk" ∷ []) ≡ Refused 3
unfolding words_compute
no_bound = refl

no_kind : reading_of (codes "table" ∷ codes "xx" ∷ codes "1" ∷ []) ≡ Refused 2
unfolding words_compute
no_kind = refl

many_workers : reading_of (codes "table" ∷ codes "wk" ∷ codes "2" ∷ codes "--workers" ∷ codes "17" ∷ []) ≡ Refused 5
unfolding words_compute
many_workers = refl

workers_first : reading_of (codes "table" ∷ codes "--workers=8" ∷ codes "wk" ∷ codes "10" ∷ []) ≡ Table (Named Wk) 10 8
unfolding words_compute
workers_first = refl

finish_twice : reading_of (codes "session" ∷ codes "wk" ∷ codes "1" ∷ codes "finish" ∷ codes "finish" ∷ []) ≡ Refused 5
unfolding words_compute
finish_twice = refl

unstable : reading_of (codes "session" ∷ codes "wk" ∷ codes "1" ∷ codes "ask:0:0,0" ∷ []) ≡ Refused 4
unfolding words_compute
unstable = refl

a_session : reading_of (codes "session" ∷ codes "wk" ∷ codes "3" ∷ codes "--workers=4" ∷ codes "finish" ∷ codes "ask:0:1,0,0,0" ∷ [])
    ≡ Session (Named Wk) 3 4 (Finish ∷ Ask (key_of 0 (0 ∷ 0 ∷ 0 ∷ 1 ∷ [])) ∷ [])
unfolding words_compute
a_session = refl

grows : reading_of (codes "session" ∷ codes "wk" ∷ codes "1" ∷ codes "finish" ∷ codes "grow:02" ∷ codes "finish" ∷ [])
    ≡ Session (Named Wk) 1 2 (Finish ∷ Grow 2 ∷ Finish ∷ [])
unfolding words_compute
grows = refl

-- a word may have a bound that a table hasn't
grows_far : reading_of (codes "session" ∷ codes "-" ∷ codes "2" ∷ codes "grow:25" ∷ codes "grow:999999999" ∷ [])
    ≡ Session Text 2 2 (Grow 25 ∷ Grow 999999999 ∷ [])
unfolding words_compute
grows_far = refl

no_growth : reading_of (codes "session" ∷ codes "wk" ∷ codes "2" ∷ codes "grow:2" ∷ []) ≡ Refused 4
unfolding words_compute
no_growth = refl

same_growth : reading_of (codes "session" ∷ codes "wk" ∷ codes "2" ∷ codes "grow:3" ∷ codes "grow:3" ∷ []) ≡ Refused 5
unfolding words_compute
same_growth = refl

long_growth : reading_of (codes "session" ∷ codes "wk" ∷ codes "2" ∷ codes "grow:1000000000" ∷ []) ≡ Refused 4
unfolding words_compute
long_growth = refl

finish_twice_behind : reading_of (codes "session" ∷ codes "wk" ∷ codes "1" ∷ codes "grow:2" ∷ codes "finish" ∷ codes "finish" ∷ [])
    ≡ Refused 6
unfolding words_compute
finish_twice_behind = refl

far : reach 2 (Grow 25 ∷ Grow 999999999 ∷ []) ≡ 25
unfolding reach is_bound
far = refl

greatest : reach 2 (Finish ∷ Grow 3 ∷ Grow 7 ∷ []) ≡ 7
unfolding reach is_bound
greatest = refl

dashes : reading_of (codes "table" ∷ codes "--" ∷ codes "-" ∷ codes "1" ∷ []) ≡ Table Text 1 2
unfolding words_compute
dashes = refl

a_number : reading_of (codes "number" ∷ codes "wk" ∷ codes "1" ∷ codes "2" ∷ codes "--" ∷ codes "0" ∷ [])
    ≡ Number Wk (key_of 1 (0 ∷ 2 ∷ []))
unfolding words_compute
a_number = refl

no_family : reading_of (codes "number" ∷ codes "wp" ∷ codes "1" ∷ codes "0" ∷ []) ≡ Refused 2
unfolding words_compute
no_family = refl

unstable_key : reading_of (codes "number" ∷ codes "wk" ∷ codes "0" ∷ codes "0" ∷ codes "0" ∷ []) ≡ Refused 6
unfolding words_compute
unstable_key = refl

unstable_pair : reading_of (codes "volume" ∷ codes "0" ∷ codes "2" ∷ []) ≡ Refused 4
unfolding words_compute
unstable_pair = refl

many_places : reading_of (codes "volume" ∷ codes "0" ∷ codes "27" ∷ []) ≡ Refused 3
unfolding words_compute
many_places = refl

a_bulk : reading_of (codes "bulk" ∷ codes "1" ∷ codes "2" ∷ codes "--workers=0" ∷ codes "3" ∷ []) ≡ Bulk 1 2 3 0
unfolding words_compute
a_bulk = refl

no_dim : reading_of (codes "bulk" ∷ codes "1" ∷ codes "9" ∷ codes "1" ∷ []) ≡ Refused 3
unfolding words_compute
no_dim = refl
