-- Small texts, each by computation.
use Rattle.std.specs.Prelude.{◌≡◌, refl, ℕ, [], ◌∷◌, codes, pos, negsuc, neg_ℤ, Some, None, true, false}
use Rattle.airy_math.specs.Rational.{◌/ℚ◌, ℚ_computes}
use Rattle.airy_math.specs.RationalLaws.{0ℚ, 1ℚ}
use Rattle.airy_math.specs.Shapes.{eq_z, per_g, per_n}
use Rattle.airy_math.specs.Tensors.{is_zero}
use Rattle.airy_math.specs.declared.Shape.TheVariants.{All, Exact, AtMost}
use Rattle.sparse_tensor.specs.Entries.{no_entries, is_taken, is_given, same_place, place_before, with_entry, with_value}
use Rattle.sparse_tensor.specs.Grades.{keeps, keeps_a, keeps_b, keeps_c, keeps_d}
use Rattle.sparse_tensor.specs.Puts.{with_a, with_b, with_c, with_d}
use Rattle.tensor_text.specs.Lines.{onto_first, parts, lines, nonempty, words}
use Rattle.tensor_text.specs.Values.{number_on, number_of, below, not_zero, index_of, dim_of, short_of, signed_of}
use Rattle.tensor_text.specs.Values.{whole_of, before_stroke, from_stroke, denominator_of, quotient_of, size_of, read_value_of}
use Rattle.tensor_text.specs.Grammar.{Read, Refused, is_note, is_skipped, counted, only_word, two_words, place_words}
use Rattle.tensor_text.specs.Grammar.{version_of, header_line, dim_line, law_by, law_of, all_shape, exact_shape}
use Rattle.tensor_text.specs.Grammar.{letter_given, at_most_by, at_most_shape, shape_words, shape_line, checked, stored}
use Rattle.tensor_text.specs.Grammar.{place_line, index_line, end_line, letter_of, said_by, said, after_end, then_read}
use Rattle.tensor_text.specs.Grammar.{entries_from, shape_read, shape_from, dim_read, dim_from, header_read, header_from, reading_of}
use Rattle.sparse_tensor.specs.Puts.{keeps_in, taken_in, with_in}
use Rattle.tensor_text.specs.declared.refusals.LineKind.TheVariants.{Header, Dim, Shape, Word, Count}
use Rattle.tensor_text.specs.declared.refusals.LineKind.TheVariants.{Index, Number, Grade, Twice, NoEnd, After}

-- To name this on an `unfolding` line opens the grammar there, for `refl` at texts.
unfoldable pub text_computes : ℕ → ℕ
unfolding ℚ_computes 0ℚ 1ℚ is_zero eq_z per_g per_n keeps keeps_a keeps_b keeps_c keeps_d no_entries is_taken is_given same_place
    place_before with_entry with_value with_a with_b with_c with_d onto_first parts lines nonempty words number_on number_of below
    not_zero index_of dim_of short_of signed_of whole_of before_stroke from_stroke denominator_of quotient_of size_of read_value_of
    is_note is_skipped counted only_word two_words place_words version_of header_line dim_line law_by law_of all_shape exact_shape
    letter_given at_most_by at_most_shape shape_words shape_line checked stored keeps_in taken_in with_in place_line index_line end_line
    letter_of said_by said after_end then_read entries_from shape_read shape_from dim_read dim_from header_read header_from reading_of
text_computes n = n

words_of_a_line : words (codes "  A 0\t1  ") ≡ codes "A" ∷ codes "0" ∷ codes "1" ∷ []
unfolding text_computes
words_of_a_line = refl

lines_of_a_text : lines (codes "a\r\n\n b\r") ≡ codes "a" ∷ [] ∷ codes " b" ∷ []
unfolding text_computes
lines_of_a_text = refl

a_value : read_value_of (codes "-04/8") ≡ Some (neg_ℤ (pos 1) /ℚ 2)
unfolding text_computes
a_value = refl

a_negative_zero : read_value_of (codes "-0") ≡ Some 0ℚ
unfolding text_computes
a_negative_zero = refl

the_greatest_value : read_value_of (codes "+170141183460469231731687303715884105727")
    ≡ Some (pos 170141183460469231731687303715884105727 /ℚ 1)
unfolding text_computes
the_greatest_value = refl

beyond_the_greatest : read_value_of (codes "170141183460469231731687303715884105728") ≡ None
unfolding text_computes
beyond_the_greatest = refl

no_denominator : read_value_of (codes "2/") ≡ None
unfolding text_computes
no_denominator = refl

-- one entry each
a_whole_text : reading_of (codes "airy 1\ndim 1\nA 0 0 0 1\nB 0 0 0 1\nC 0 0 0 1\nD 0 1/8\nend\n") ≡ Read (record {
  dim = 1;
  shape = All;
  letter = false;
  a = record { i = 0; j = 0; k = 0; v = pos 1 /ℚ 1 } ∷ [];
  b = record { i = 0; j = 0; k = 0; v = pos 1 /ℚ 1 } ∷ [];
  c = record { i = 0; j = 0; k = 0; v = pos 1 /ℚ 1 } ∷ [];
  d = (0, pos 1 /ℚ 8) ∷ [];
})
unfolding text_computes
a_whole_text = refl

no_lines : reading_of [] ≡ Refused 1 Header
unfolding text_computes
no_lines = refl

another_header : reading_of (codes "airy 3\ndim 1\nend\n") ≡ Refused 1 Header
unfolding text_computes
another_header = refl

no_dim : reading_of (codes "airy 1") ≡ Refused 2 Dim
unfolding text_computes
no_dim = refl

a_great_dim : reading_of (codes "airy 1\ndim 33\nend\n") ≡ Refused 2 Dim
unfolding text_computes
a_great_dim = refl

no_end : reading_of (codes "airy 1\ndim 1\n") ≡ Refused 3 NoEnd
unfolding text_computes
no_end = refl

an_unknown_word : reading_of (codes "airy 1\ndim 1\na 0 0 0 1\nend\n") ≡ Refused 3 Word
unfolding text_computes
an_unknown_word = refl

a_word_too_few : reading_of (codes "airy 1\ndim 1\nA 0 1 1\nend\n") ≡ Refused 3 Count
unfolding text_computes
a_word_too_few = refl

a_great_index : reading_of (codes "airy 1\ndim 1\nA 0 0 001 x\nend\n") ≡ Refused 3 Index
unfolding text_computes
a_great_index = refl

a_denominator_of_0 : reading_of (codes "airy 1\ndim 1\nA 0 0 0 2/0\nend\n") ≡ Refused 3 Number
unfolding text_computes
a_denominator_of_0 = refl

behind_the_end : reading_of (codes "airy 1\ndim 1\nend\n# note\n\nend\n") ≡ Refused 6 After
unfolding text_computes
behind_the_end = refl

-- a note, an empty line, carriage returns, and one place named in both orders
a_place_twice : reading_of (codes "airy 1\r\n# note\r\n\r\ndim 2\r\nC 0 0 1 1/2\r\nC 0 1 0 1/2\r\nend\r\n") ≡ Refused 6 Twice
unfolding text_computes
a_place_twice = refl

a_place_once : reading_of (codes "airy 1\r\n# note\r\n\r\ndim 2\r\nC 0 1 0 1/2\r\nend\r\n") ≡ Read (record {
  dim = 2;
  shape = All;
  letter = false;
  a = [];
  b = [];
  c = record { i = 0; j = 0; k = 1; v = pos 1 /ℚ 2 } ∷ [];
  d = [];
})
unfolding text_computes
a_place_once = refl

-- a value of 0 stores nothing
a_zero_beside : reading_of (codes "airy 1\ndim 1\nD 0 4/8\nD 0 -0\nend") ≡ Read (record {
  dim = 1;
  shape = All;
  letter = false;
  a = [];
  b = [];
  c = [];
  d = (0, pos 1 /ℚ 2) ∷ [];
})
unfolding text_computes
a_zero_beside = refl

-- ---- the numbers of a law

a_plus_sign : signed_of (codes "+7") ≡ Some (pos 7)
unfolding text_computes
a_plus_sign = refl

a_negative_number : signed_of (codes "-09") ≡ Some (negsuc 8)
unfolding text_computes
a_negative_number = refl

a_signed_zero : signed_of (codes "-0") ≡ Some (pos 0)
unfolding text_computes
a_signed_zero = refl

three_digits : signed_of (codes "+007") ≡ None
unfolding text_computes
three_digits = refl

no_digit : signed_of (codes "-") ≡ None
unfolding text_computes
no_digit = refl

-- ---- texts with a shape

-- a law that indices keep at most, and a letter
at_most_and_a_letter : reading_of (codes "airy 2\ndim 2\nshape atmost 3 1 letter\nA 0 0 0 1\nD 0 1/12\nD 1 1/8\nend\n") ≡ Read (record {
  dim = 2;
  shape = AtMost (record { per_g = pos 3; per_n = pos 1 });
  letter = true;
  a = record { i = 0; j = 0; k = 0; v = pos 1 /ℚ 1 } ∷ [];
  b = [];
  c = [];
  d = (0, pos 1 /ℚ 12) ∷ (1, pos 1 /ℚ 8) ∷ [];
})
unfolding text_computes
at_most_and_a_letter = refl

at_most_alone : reading_of (codes "airy 2\ndim 1\nshape atmost +1 -2\nend\n")
    ≡ Read (no_entries 1 (AtMost (record { per_g = pos 1; per_n = negsuc 1 })) false)
unfolding text_computes
at_most_alone = refl

exact_of_0 : reading_of (codes "airy 2\ndim 1\nshape exact 0 0\nC 0 0 0 1\nend\n") ≡ Read (record {
  dim = 1;
  shape = Exact (record { per_g = pos 0; per_n = pos 0 });
  letter = false;
  a = [];
  b = [];
  c = record { i = 0; j = 0; k = 0; v = pos 1 /ℚ 1 } ∷ [];
  d = [];
})
unfolding text_computes
exact_of_0 = refl

-- the same entries as without a shape line
every_shape : reading_of (codes "airy 2\ndim 1\nshape all\nD 0 1/8\nend\n") ≡ reading_of (codes "airy 1\ndim 1\nD 0 1/8\nend\n")
unfolding text_computes
every_shape = refl

breaks_the_grading : reading_of (codes "airy 2\ndim 2\nshape exact 3 1\nB 0 0 0 1\nend\n") ≡ Refused 4 Grade
unfolding text_computes
breaks_the_grading = refl

-- a value of 0 stores nothing, whatever the grading
a_zero_keeps_any_grading : reading_of (codes "airy 2\ndim 2\nshape exact 3 1\nB 0 0 0 0/7\nend\n")
    ≡ Read (no_entries 2 (Exact (record { per_g = pos 3; per_n = pos 1 })) false)
unfolding text_computes
a_zero_keeps_any_grading = refl

no_shape_line : reading_of (codes "airy 2\ndim 1\nA 0 0 0 1\nend\n") ≡ Refused 3 Shape
unfolding text_computes
no_shape_line = refl

no_third_line : reading_of (codes "airy 2\ndim 1\n# note") ≡ Refused 4 Shape
unfolding text_computes
no_third_line = refl

a_letter_without_a_law : reading_of (codes "airy 2\ndim 1\nshape all letter\nend\n") ≡ Refused 3 Shape
unfolding text_computes
a_letter_without_a_law = refl

a_letter_of_exact : reading_of (codes "airy 2\ndim 1\nshape exact 3 1 letter\nend\n") ≡ Refused 3 Shape
unfolding text_computes
a_letter_of_exact = refl

a_long_number : reading_of (codes "airy 2\ndim 1\nshape exact 003 1\nend\n") ≡ Refused 3 Shape
unfolding text_computes
a_long_number = refl

-- `airy 1` has no shape line
a_shape_line_of_airy_1 : reading_of (codes "airy 1\ndim 1\nshape all\nend\n") ≡ Refused 3 Word
unfolding text_computes
a_shape_line_of_airy_1 = refl
