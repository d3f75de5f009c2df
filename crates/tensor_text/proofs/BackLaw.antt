-- The grammar reads the canonical text of tensors as the same tensors.
use Rattle.std.proofs.Common.{ltb-true, ◌≡◌, ℕ, suc, ◌+◌, ◌<◌, ◌≤◌, Bool, true, false, cond, List, [], ◌∷◌, ◌++◌, length, refl, ap, ◌∙◌, arith, append_assoc, Some, decimal, codes}
use Rattle.std.specs.Fmt.{signed_decimal}
use Rattle.std.specs.List.{flat_map}
use Rattle.airy_math.specs.Rational.{ℚ}
use Rattle.airy_math.specs.declared.Law.{Law}
use Rattle.airy_math.specs.declared.Shape.{Shape}
use Rattle.airy_math.specs.declared.Shape.TheVariants.{All, Exact, AtMost}
use Rattle.sparse_tensor.specs.Entries.{Entries, Entry, no_entries}
use Rattle.sparse_tensor.specs.Grades.{ArePlaced, IsSmallLaw, IsAtMost, IsAscendingByIndex, keeps_d, AreStored, AreOrdered, AreStoredByIndex, AreInRange, AreInRangeByIndex, AreEntries}
use Rattle.sparse_tensor.specs.declared.parts.Part.{Part}
use Rattle.sparse_tensor.specs.declared.parts.Part.TheVariants.{A, B, C}
use Rattle.tensor_text.specs.Lines.{lines, parts}
use Rattle.tensor_text.specs.Grammar.{Read, Lines, Line, End, counted, is_skipped, is_note, only_word, two_words, version_of, header_line, dim_line, law_by, law_of, exact_shape, letter_given, at_most_by, at_most_shape, shape_words, shape_line, letter_of, end_line, said_by, said, after_end, then_read, entries_from, shape_read, shape_from, dim_read, dim_from, header_read, header_from, reading_of}
use Rattle.sparse_tensor.specs.Puts.{keeps_in}
use Rattle.tensor_text.specs.Canonical.{place_text, index_text, dim_text, header_text, shape_text, first_text, entries_text, canonical_text}
use Rattle.tensor_text.specs.Pieces.{entries_of, first_in}
use Rattle.tensor_text.proofs.PieceLaw.{rises}
use Rattle.tensor_text.proofs.BackValues.{dim_back, signed_back}
use Rattle.tensor_text.proofs.BackLines.{AreWords, word_by_test, joined_line, decimal_word, law_are_words, law_words, letter_words, letter_are_words, dim_is, exact_is, at_most_is}
use Rattle.tensor_text.proofs.BackEntries.{with_list, with_values, IsReadable, IsReadableAt, Climb, read_places, read_indices}
use Rattle.airy_math.proofs.SumLemmas.{Each, Each-from_all}

-- ---- the header and the dim

version_1 : (rest : List ℕ) → header_from (counted 1 (lines (codes "airy 1\n" ++ rest))) ≡ dim_from false (counted 2 (lines rest))
unfolding header_from header_read header_line version_of only_word is_skipped is_note
version_1 rest = ap header_from (joined_line 1 (codes "airy" ∷ codes "1" ∷ []) rest (word_by_test (codes "airy") refl (omega arith), (word_by_test (codes "1") refl (omega arith), tt)) refl)

version_2 : (rest : List ℕ) → header_from (counted 1 (lines (codes "airy 2\n" ++ rest))) ≡ dim_from true (counted 2 (lines rest))
unfolding header_from header_read header_line version_of only_word is_skipped is_note
version_2 rest = ap header_from (joined_line 1 (codes "airy" ∷ codes "2" ∷ []) rest (word_by_test (codes "airy") refl (omega arith), (word_by_test (codes "2") refl (omega arith), tt)) refl)

dim_found : (has_shape : Bool) (dim : ℕ) (rest : Lines) → 0 < dim → dim ≤ 32
    → dim_from has_shape (Line 2 (codes "dim" ∷ decimal dim ∷ []) rest) ≡ cond has_shape (shape_from dim rest) (entries_from (no_entries dim All false) rest)
unfolding dim_from dim_read dim_line only_word
dim_found has_shape dim rest p h = rw (dim_back dim p h) refl

dim_counts : (dim : ℕ) → is_skipped (codes "dim" ∷ decimal dim ∷ []) ≡ false
unfolding is_skipped is_note
dim_counts dim = refl

dim_is_read : (has_shape : Bool) (dim : ℕ) (rest : List ℕ) → 0 < dim → dim ≤ 32
    → dim_from has_shape (counted 2 (lines (dim_text dim ++ rest))) ≡ cond has_shape (shape_from dim (counted 3 (lines rest))) (entries_from (no_entries dim All false) (counted 3 (lines rest)))
dim_is_read has_shape dim rest p h =
    let are : AreWords (codes "dim" ∷ decimal dim ∷ []) = (word_by_test (codes "dim") refl (omega arith), (decimal_word dim (omega arith), tt)) in
    ap (λ x. dim_from has_shape (counted 2 (lines x))) (dim_is dim rest) ∙ ap (dim_from has_shape) (joined_line 2 (codes "dim" ∷ decimal dim ∷ []) rest are (dim_counts dim))
    ∙ dim_found has_shape dim (counted 3 (lines rest)) p h

-- ---- the shape line

law_back : (l : Law) → IsSmallLaw (Exact l) → law_of (signed_decimal l.per_g) (signed_decimal l.per_n) ≡ Some l
unfolding IsSmallLaw law_of law_by
law_back l s = rw (signed_back l.per_g s.0 s.1, signed_back l.per_n s.2 s.3) refl

exact_found : (dim : ℕ) (l : Law) (rest : Lines) → IsSmallLaw (Exact l) → shape_from dim (Line 3 (codes "shape" ∷ codes "exact" ∷ law_words l []) rest) ≡ entries_from (no_entries dim (Exact l) false) rest
unfolding shape_from shape_read shape_line shape_words exact_shape two_words only_word
exact_found dim l rest s = rw (law_back l s) refl

at_most_found : (dim : ℕ) (l : Law) (letter : Bool) (rest : Lines) → IsSmallLaw (AtMost l)
    → shape_from dim (Line 3 (codes "shape" ∷ codes "atmost" ∷ law_words l (letter_words letter)) rest) ≡ entries_from (no_entries dim (AtMost l) letter) rest
unfolding IsSmallLaw shape_from shape_read shape_line shape_words at_most_shape at_most_by letter_given
at_most_found dim l true rest s = rw (law_back l s) refl
at_most_found dim l false rest s = rw (law_back l s) refl

exact_counts : (l : Law) → is_skipped (codes "shape" ∷ codes "exact" ∷ law_words l []) ≡ false
unfolding is_skipped is_note
exact_counts l = refl

at_most_counts : (l : Law) (more : List (List ℕ)) → is_skipped (codes "shape" ∷ codes "atmost" ∷ law_words l more) ≡ false
unfolding is_skipped is_note
at_most_counts l more = refl

exact_is_read : (dim : ℕ) (l : Law) (rest : List ℕ) → IsSmallLaw (Exact l)
    → shape_from dim (counted 3 (lines (shape_text (Exact l) false ++ rest))) ≡ entries_from (no_entries dim (Exact l) false) (counted 4 (lines rest))
unfolding IsSmallLaw
exact_is_read dim l rest s =
    let are : AreWords (codes "shape" ∷ codes "exact" ∷ law_words l []) = (word_by_test (codes "shape") refl (omega arith), (word_by_test (codes "exact") refl (omega arith), law_are_words l [] s tt)) in
    ap (λ x. shape_from dim (counted 3 (lines x))) (exact_is l rest) ∙ ap (shape_from dim) (joined_line 3 (codes "shape" ∷ codes "exact" ∷ law_words l []) rest are (exact_counts l))
    ∙ exact_found dim l (counted 4 (lines rest)) s

at_most_is_read : (dim : ℕ) (l : Law) (letter : Bool) (rest : List ℕ) → IsSmallLaw (AtMost l)
    → shape_from dim (counted 3 (lines (shape_text (AtMost l) letter ++ rest))) ≡ entries_from (no_entries dim (AtMost l) letter) (counted 4 (lines rest))
unfolding IsSmallLaw
at_most_is_read dim l letter rest s =
    let more = letter_words letter in
    let are : AreWords (codes "shape" ∷ codes "atmost" ∷ law_words l more) = (word_by_test (codes "shape") refl (omega arith), (word_by_test (codes "atmost") refl (omega arith), law_are_words l more s (letter_are_words letter))) in
    ap (λ x. shape_from dim (counted 3 (lines x))) (at_most_is l letter rest) ∙ ap (shape_from dim) (joined_line 3 (codes "shape" ∷ codes "atmost" ∷ law_words l more) rest are (at_most_counts l more))
    ∙ at_most_found dim l letter (counted 4 (lines rest)) s

-- ---- the first lines together, and the last

-- the number of the line behind the first lines
abbrev pub first_behind : Shape → ℕ
first_behind All = 3
first_behind (Exact l) = 4
first_behind (AtMost l) = 4

first_read : (s : Shape) (letter : Bool) (dim : ℕ) (rest : List ℕ) → 0 < dim → dim ≤ 32 → IsSmallLaw s → (letter ≡ true → IsAtMost s)
    → header_from (counted 1 (lines (header_text s ++ (dim_text dim ++ (shape_text s letter ++ rest))))) ≡ entries_from (no_entries dim s letter) (counted (first_behind s) (lines rest))
unfolding header_text shape_text IsAtMost
first_read All true dim rest p h small most = absurd (most refl)
first_read All false dim rest p h small most = version_1 _ ∙ dim_is_read false dim rest p h
first_read (Exact l) true dim rest p h small most = absurd (most refl)
first_read (Exact l) false dim rest p h small most = version_2 _ ∙ dim_is_read true dim _ p h ∙ exact_is_read dim l rest small
first_read (AtMost l) letter dim rest p h small most = version_2 _ ∙ dim_is_read true dim _ p h ∙ at_most_is_read dim l letter rest small

end_counted : (n : ℕ) → counted n (lines (codes "end\n")) ≡ Line n (codes "end" ∷ []) (End (suc n))
unfolding is_skipped is_note counted lines parts
end_counted n =
    let are : AreWords (codes "end" ∷ []) = (((omega arith, (omega arith, (omega arith, tt))), omega arith), tt) in
    joined_line n (codes "end" ∷ []) [] are refl

end_read : (t : Entries) (n : ℕ) → entries_from t (counted n (lines (codes "end\n"))) ≡ Read t
unfolding entries_from then_read said said_by letter_of end_line after_end
end_read t n = ap (entries_from t) (end_counted n)

-- ---- stored entries are readable

readable : (letter : Part) (shape : Shape) (dim : ℕ) (grade : ℕ → ℕ → ℕ → Bool) (es : List Entry) → dim ≤ 72 → ((i j k : ℕ) → grade i j k ≡ true → keeps_in letter shape i j k ≡ true)
    → AreStored grade dim es → Each (λ e. first_in letter e.j ≤ e.k) es → AreInRange es → Each (IsReadable shape dim letter) es
unfolding AreStored AreInRange
readable letter shape dim grade [] h keeps s o r = tt
readable letter shape dim grade (e ∷ es) h keeps s o r =
    (record { i = s.0.0; j = s.0.1; k = s.0.2; first = o.0; some = s.0.3; graded = keeps e.i e.j e.k s.0.4; range = r.0; small = h }, readable letter shape dim grade es h keeps s.1 o.1 r.1)

indices_readable : (shape : Shape) (dim : ℕ) (es : List (ℕ × ℚ)) → dim ≤ 72 → AreStoredByIndex (keeps_d shape) dim es → AreInRangeByIndex es → Each (IsReadableAt shape dim) es
unfolding AreStoredByIndex AreInRangeByIndex
indices_readable shape dim [] h s r = tt
indices_readable shape dim (e ∷ es) h s r = (record { i = s.0.0; some = s.0.1; graded = s.0.2; range = r.0; small = h }, indices_readable shape dim es h s.1 r.1)

climb_from : (n : ℕ) (x : ℕ × ℚ) (es : List (ℕ × ℚ)) → n ≤ x.0 → IsAscendingByIndex (x ∷ es) → Climb n (x ∷ es)
unfolding IsAscendingByIndex
climb_from n x [] h a = (h, tt)
climb_from n x (y ∷ es) h a = (h, climb_from (suc x.0) y es (omega (arith, ltb-true x.0 y.0 a.0)) a.1)

climbs : (es : List (ℕ × ℚ)) → IsAscendingByIndex es → Climb 0 es
climbs [] a = tt
climbs (x ∷ es) a = climb_from 0 x es (omega arith) a

-- ---- the whole text

-- the entries so far, after each kind of lines
unfoldable read_so_far : Entries → List Entry → List Entry → List Entry → List (ℕ × ℚ) → Entries
read_so_far t a b c d = record { dim = t.dim; shape = t.shape; letter = t.letter; a = a; b = b; c = c; d = d }

start_is : (t : Entries) → no_entries t.dim t.shape t.letter ≡ read_so_far t [] [] [] []
unfolding no_entries read_so_far
start_is t = refl

-- what the list of a part keeps, and the entries before its lines
ordered_in : (letter : Part) (t : Entries) → AreEntries t → Each (λ e. first_in letter e.j ≤ e.k) (entries_of letter t)
unfolding AreOrdered
ordered_in A t s = s.a_ordered
ordered_in B t s = Each-from_all _ t.b (λ e. omega arith)
ordered_in C t s = s.c_ordered

placed_in : (letter : Part) (t : Entries) → AreEntries t → ArePlaced (keeps_in letter t.shape) t.dim (entries_of letter t)
unfolding keeps_in
placed_in A t s = s.a
placed_in B t s = s.b
placed_in C t s = s.c

part_read : (letter : Part) (t before : Entries) (n : ℕ) (more : List ℕ) → AreEntries t → before.dim ≡ t.dim → before.shape ≡ t.shape → entries_from (with_list letter before []) (counted n (lines (flat_map (place_text letter) (entries_of letter t) ++ more))) ≡ entries_from (with_list letter before (entries_of letter t)) (counted (n + length (entries_of letter t)) (lines more))
part_read letter t before n more s d e =
    let p = placed_in letter t s in
    read_places letter before [] (entries_of letter t) 0 n more tt (rises _ t.dim _ s.most p.ascend p.stored)
    (rw (d, e) (readable letter t.shape t.dim (keeps_in letter t.shape) _ s.most (λ i j k h. h) p.stored (ordered_in letter t s) p.in_range))

d_read : (t : Entries) (n : ℕ) (more : List ℕ) → AreEntries t → entries_from (read_so_far t t.a t.b t.c []) (counted n (lines (flat_map index_text t.d ++ more))) ≡ entries_from (read_so_far t t.a t.b t.c t.d) (counted (n + length t.d) (lines more))
unfolding read_so_far with_values
d_read t n more s = read_indices (read_so_far t t.a t.b t.c []) [] t.d 0 n more tt (climbs t.d s.d.ascend) (indices_readable t.shape t.dim t.d s.most s.d.stored s.d.in_range)

same_tensors : (t : Entries) → read_so_far t t.a t.b t.c t.d ≡ t
unfolding read_so_far
same_tensors t = refl

entries_read : (t : Entries) (n : ℕ) → AreEntries t → entries_from (no_entries t.dim t.shape t.letter) (counted n (lines (entries_text t))) ≡ Read t
unfolding entries_text read_so_far with_list
entries_read t n s =
    let b = flat_map (place_text B) t.b in
    let c = flat_map (place_text C) t.c in
    let d = flat_map index_text t.d in
    let last = codes "end\n" in
    ap (λ u. entries_from u (counted n (lines (flat_map (place_text A) t.a ++ (b ++ (c ++ (d ++ last))))))) (start_is t)
    ∙ part_read A t (read_so_far t [] [] [] []) n (b ++ (c ++ (d ++ last))) s refl refl
    ∙ part_read B t (read_so_far t t.a [] [] []) _ (c ++ (d ++ last)) s refl refl
    ∙ part_read C t (read_so_far t t.a t.b [] []) _ (d ++ last) s refl refl
    ∙ d_read t _ last s
    ∙ end_read (read_so_far t t.a t.b t.c t.d) _
    ∙ ap Read (same_tensors t)

regroup : (a b c rest : List ℕ) → (a ++ (b ++ c)) ++ rest ≡ a ++ (b ++ (c ++ rest))
regroup a b c rest = append_assoc a (b ++ c) rest ∙ ap (λ w. a ++ w) (append_assoc b c rest)

pub back : (t : Entries) → AreEntries t → t.dim ≤ 32 → reading_of (canonical_text t) ≡ Read t
unfolding reading_of canonical_text first_text
back t s h =
    ap (λ x. header_from (counted 1 (lines x))) (regroup (header_text t.shape) (dim_text t.dim) (shape_text t.shape t.letter) (entries_text t))
    ∙ first_read t.shape t.letter t.dim (entries_text t) s.some h s.law s.letter
    ∙ entries_read t _ s
