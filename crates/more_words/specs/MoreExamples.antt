-- Readings of words, each by computation.
use mathlib.Core.Path.{◌≡◌, refl}
use Rattle.std.specs.Prelude.{ℕ, [], ◌∷◌, codes, pos, neg_ℤ}
use Rattle.airy_math.specs.Rational.{◌/ℚ◌}
use Rattle.airy_math.specs.declared.Family.TheVariants.{Wp}
use Rattle.command_words.specs.Words.{Named, Text}
use Rattle.more_words.specs.MoreWords.{Curve, CurveRelations, Brackets, Quick, Json, Verify, Refused, read_behind, reading_of}
use Rattle.tensor_text.specs.Examples.{text_computes}

-- To name this on an `unfolding` line opens all that reads words.
unfoldable pub words_compute : ℕ → ℕ
unfolding text_computes reading_of read_behind
words_compute n = n

none : reading_of [] ≡ Refused 1
unfolding words_compute
none = refl

no_command : reading_of (codes "table" ∷ codes "wk" ∷ codes "1" ∷ []) ≡ Refused 1
unfolding words_compute
no_command = refl

a_curve : reading_of (codes "curve" ∷ codes "02" ∷ codes "2" ∷ codes "-2/3" ∷ codes "+04/030" ∷ [])
    ≡ Curve 2 2 ((neg_ℤ (pos 2) /ℚ 3) ∷ (pos 2 /ℚ 15) ∷ [])
unfolding words_compute
a_curve = refl

no_bound : reading_of (codes "curve" ∷ []) ≡ Refused 2
unfolding words_compute
no_bound = refl

many_workers : reading_of (codes "curve" ∷ codes "1" ∷ codes "17" ∷ codes "1" ∷ []) ≡ Refused 3
unfolding words_compute
many_workers = refl

no_value : reading_of (codes "curve" ∷ codes "1" ∷ codes "0" ∷ codes "1/0" ∷ []) ≡ Refused 4
unfolding words_compute
no_value = refl

no_number : reading_of (codes "curve" ∷ codes "24" ∷ codes "16" ∷ []) ≡ Curve 24 16 []
unfolding words_compute
no_number = refl

some_relations : reading_of (codes "curve-relations" ∷ codes "032" ∷ codes "1" ∷ []) ≡ CurveRelations 32 ((pos 1 /ℚ 1) ∷ [])
unfolding words_compute
some_relations = refl

no_places : reading_of (codes "curve-relations" ∷ codes "0" ∷ []) ≡ Refused 2
unfolding words_compute
no_places = refl

brackets : reading_of (codes "brackets" ∷ []) ≡ Brackets
unfolding words_compute
brackets = refl

one_word_more : reading_of (codes "brackets" ∷ codes "1" ∷ []) ≡ Refused 2
unfolding words_compute
one_word_more = refl

a_quick_table : reading_of (codes "quick" ∷ codes "999999999" ∷ codes "000" ∷ []) ≡ Quick 999999999 0
unfolding words_compute
a_quick_table = refl

no_workers : reading_of (codes "quick" ∷ codes "1" ∷ []) ≡ Refused 3
unfolding words_compute
no_workers = refl

many_words : reading_of (codes "quick" ∷ codes "1" ∷ codes "1" ∷ codes "1" ∷ []) ≡ Refused 4
unfolding words_compute
many_words = refl

a_document : reading_of (codes "json" ∷ codes "wp" ∷ codes "03" ∷ codes "2" ∷ []) ≡ Json (Named Wp) 3 2
unfolding words_compute
a_document = refl

of_a_text : reading_of (codes "json" ∷ codes "-" ∷ codes "0" ∷ codes "16" ∷ []) ≡ Json Text 0 16
unfolding words_compute
of_a_text = refl

no_kind : reading_of (codes "json" ∷ codes "kdv" ∷ codes "1" ∷ codes "0" ∷ []) ≡ Refused 2
unfolding words_compute
no_kind = refl

verify : reading_of (codes "verify" ∷ []) ≡ Verify
unfolding words_compute
verify = refl

verify_what : reading_of (codes "verify" ∷ codes "-" ∷ []) ≡ Refused 2
unfolding words_compute
verify_what = refl
