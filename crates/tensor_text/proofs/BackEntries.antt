-- The lines of entries are read as these entries, one behind the other.
use Rattle.std.proofs.Common.{◌≡◌, ℕ, suc, ◌+◌, ◌<◌, ◌≤◌, Bool, true, false, List, [], ◌∷◌, ◌++◌, length, refl, ap, ap₂, ◌∙◌, arith, append_assoc, append-nil, min, max, decimal, codes}
use Rattle.std.specs.List.{flat_map}
use Rattle.std.proofs.lemmas.Bool.{false_from_ne_true, ne_eqb, le-ltb}
use Rattle.airy_math.specs.Rational.{ℚ}
use Rattle.airy_math.specs.RationalLaws.{0ℚ}
use Rattle.airy_math.specs.declared.Shape.{Shape}
use Rattle.airy_math.specs.Obtained.{IsInRange}
use Rattle.frac128.specs.Fraction.{fraction_text}
use Rattle.sparse_tensor.specs.Entries.{Entries, Entry, is_taken, is_given, place_before, with_entry, with_value}
use Rattle.sparse_tensor.specs.Grades.{keeps_d}
use Rattle.sparse_tensor.specs.Puts.{with_a, with_b, with_c, with_d}
use Rattle.sparse_tensor.specs.declared.parts.Part.{Part}
use Rattle.sparse_tensor.specs.declared.parts.Part.TheVariants.{A, B, C}
use Rattle.tensor_text.specs.Lines.{lines}
use Rattle.tensor_text.specs.Grammar.{Stored, counted, is_skipped, is_note, only_word, two_words, place_words, checked, stored, place_line, index_line, letter_of, said_by, said, entries_from}
use Rattle.sparse_tensor.specs.Puts.{keeps_in, taken_in, with_in}
use Rattle.tensor_text.specs.Canonical.{letter_text, place_text, index_text}
use Rattle.tensor_text.specs.Pieces.{first_in}
use Rattle.tensor_text.proofs.PieceLaw.{number, number_at, Rise, number-behind, apart}
use Rattle.tensor_text.proofs.GrammarLemmas.{entries_stored}
use Rattle.tensor_text.proofs.BackValues.{index_back, value_back}
use Rattle.tensor_text.proofs.BackLines.{Ink, AreWords, joined, joined_line, decimal_word, fraction_word, place_line_words, place_is, index_is}
use Rattle.airy_math.proofs.SumLemmas.{Each, Each-weaken}
use Rattle.sparse_tensor.proofs.SoundLaw.{is_zero-some}
use Rattle.sparse_tensor.proofs.PutFacts.{ordered_ends}

-- ---- an entry behind all others

-- every number is below n
abbrev pub Below : ℕ → List Entry → Type 0
Below n es = Each (λ e. (number e < n) × (e.j < 72) × (e.k < 72)) es

put-last : (x : Entry) (es : List Entry) → x.j < 72 → x.k < 72 → Below (number x) es → with_entry x es ≡ es ++ x ∷ []
unfolding with_entry
put-last x [] p q b = refl
put-last x (e ∷ es) p q b =
    let later : place_before x e ≡ false = false_from_ne_true (place_before x e) (λ h. let m = number-behind x e p q b.0.1 b.0.2 h in omega (arith, b.0.0)) in
    rw later (ap (λ w. e ∷ w) (put-last x es p q b.1))

free-last : (x : Entry) (es : List Entry) → Below (number x) es → is_taken es x.i x.j x.k ≡ false
unfolding is_taken number
free-last x [] b = refl
free-last x (e ∷ es) b = rw (apart x.i x.j x.k e (other x e b.0.0)) (free-last x es b.1)
  where
    other : (x e : Entry) → number e < number x → number e ≡ number_at x.i x.j x.k → ⊥
    other x e h s = omega arith

Below-push : (n : ℕ) (x : Entry) (es : List Entry) → x.j < 72 → x.k < 72 → n ≤ number x → Below n es → Below (suc (number x)) (es ++ x ∷ [])
Below-push n x [] p q h b = ((omega arith, p, q), tt)
Below-push n x (e ∷ es) p q h b = ((omega (arith, b.0.0), b.0.1, b.0.2), Below-push n x es p q h b.1)

-- ---- one line of A, B or C

-- the tensors with these entries of a letter
unfoldable pub with_list : Part → Entries → List Entry → Entries
with_list A t es = record t { a = es }
with_list B t es = record t { b = es }
with_list C t es = record t { c = es }

-- what the text of an entry needs to be read: indices below dim, the grading kept, and both numbers in range
pub record IsReadable (shape : Shape) (dim : ℕ) (letter : Part) (e : Entry) : Type 0 where
  pub i : e.i < dim
  pub j : e.j < dim
  pub k : e.k < dim
  pub first : first_in letter e.j ≤ e.k
  pub some : e.v ≡ 0ℚ → ⊥
  pub graded : keeps_in letter shape e.i e.j e.k ≡ true
  pub range : IsInRange e.v
  pub small : dim ≤ 72

still_readable : (letter : Part) (t : Entries) (es : List Entry) (e : Entry) → IsReadable t.shape t.dim letter e → IsReadable (with_list letter t es).shape (with_list letter t es).dim letter e
unfolding with_list
still_readable A t es e r = r
still_readable B t es e r = r
still_readable C t es e r = r

place_read : (letter : Part) (t : Entries) (e : Entry) → IsReadable t.shape t.dim letter e
    → place_line letter t (decimal e.i ∷ decimal e.j ∷ decimal e.k ∷ fraction_text e.v ∷ []) ≡ stored true (taken_in letter t e.i e.j e.k) e.v (with_in letter t e.i e.j e.k e.v)
unfolding place_line place_words two_words only_word checked
place_read letter t e r = rw (index_back t.dim e.i r.i r.small, index_back t.dim e.j r.j r.small, index_back t.dim e.k r.k r.small, value_back e.v r.range, r.graded) refl

letter_read : (letter : Part) (t : Entries) (more : List (List ℕ)) → said t (letter_text letter ∷ more) ≡ place_line letter t more
unfolding said said_by letter_of
letter_read A t more = refl
letter_read B t more = refl
letter_read C t more = refl

stored_new : (taken : Bool) (v : ℚ) (t : Entries) → (v ≡ 0ℚ → ⊥) → taken ≡ false → stored true taken v t ≡ Stored t
unfolding stored
stored_new taken v t some e = rw (is_zero-some v some, e) refl

taken_last : (letter : Part) (t : Entries) (done : List Entry) (e : Entry) → first_in letter e.j ≤ e.k → Below (number e) done → taken_in letter (with_list letter t done) e.i e.j e.k ≡ false
unfolding taken_in with_list
taken_last A t done e h b = let m = ordered_ends e.j e.k h in rw (m.0, m.1) (free-last e done b)
taken_last B t done e h b = free-last e done b
taken_last C t done e h b = let m = ordered_ends e.j e.k h in rw (m.0, m.1) (free-last e done b)

with_last : (letter : Part) (t : Entries) (done : List Entry) (e : Entry) → first_in letter e.j ≤ e.k → (e.v ≡ 0ℚ → ⊥) → e.j < 72 → e.k < 72 → Below (number e) done
    → with_in letter (with_list letter t done) e.i e.j e.k e.v ≡ with_list letter t (done ++ e ∷ [])
unfolding with_in with_list with_a with_b with_c
with_last A t done e h some p q b = let m = ordered_ends e.j e.k h in rw (is_zero-some e.v some, m.0, m.1, put-last e done p q b) refl
with_last B t done e h some p q b = rw (is_zero-some e.v some, put-last e done p q b) refl
with_last C t done e h some p q b = let m = ordered_ends e.j e.k h in rw (is_zero-some e.v some, m.0, m.1, put-last e done p q b) refl

said_last : (letter : Part) (t : Entries) (done : List Entry) (e : Entry) → IsReadable t.shape t.dim letter e → Below (number e) done
    → said (with_list letter t done) (place_line_words letter e) ≡ Stored (with_list letter t (done ++ e ∷ []))
said_last letter t done e r b =
    let u = with_list letter t done in
    let j : e.j < 72 = omega (arith, r.j, r.small) in
    let k : e.k < 72 = omega (arith, r.k, r.small) in
    letter_read letter u _ ∙ place_read letter u e (still_readable letter t done e r) ∙ stored_new _ e.v _ r.some (taken_last letter t done e r.first b)
    ∙ ap Stored (with_last letter t done e r.first r.some j k b)

letter_ink : (letter : Part) → Ink (letter_text letter) × (0 < length (letter_text letter))
letter_ink A = ((omega arith, tt), omega arith)
letter_ink B = ((omega arith, tt), omega arith)
letter_ink C = ((omega arith, tt), omega arith)

words_of : (letter : Part) (shape : Shape) (dim : ℕ) (e : Entry) → IsReadable shape dim letter e → AreWords (place_line_words letter e)
words_of letter shape dim e r =
    let word : (n : ℕ) → n < dim → Ink (decimal n) × (0 < length (decimal n)) = λ n h. decimal_word n (omega (arith, h, r.small)) in
    (letter_ink letter, (word e.i r.i, (word e.j r.j, (word e.k r.k, (fraction_word e.v r.range, tt)))))

counts : (letter : Part) (e : Entry) → is_skipped (place_line_words letter e) ≡ false
unfolding is_skipped is_note
counts A e = refl
counts B e = refl
counts C e = refl

-- ---- the lines of A, B or C

pub read_places : (letter : Part) (t : Entries) (done es : List Entry) (m n : ℕ) (more : List ℕ) → Below m done → Rise m es → Each (IsReadable t.shape t.dim letter) es
    → entries_from (with_list letter t done) (counted n (lines (flat_map (place_text letter) es ++ more))) ≡ entries_from (with_list letter t (done ++ es)) (counted (n + length es) (lines more))
unfolding Rise
read_places letter t done [] m n more b r p =
    let size : n + 0 ≡ n = omega arith in
    rw (append-nil done, size) refl
read_places letter t done (e ∷ es) m n more b r p =
    let text : (place_text letter e ++ flat_map (place_text letter) es) ++ more ≡ joined (place_line_words letter e) ++ 10 ∷ (flat_map (place_text letter) es ++ more) =
    append_assoc (place_text letter e) (flat_map (place_text letter) es) more ∙ place_is letter e (flat_map (place_text letter) es ++ more) in
    let line = joined_line n (place_line_words letter e) (flat_map (place_text letter) es ++ more) (words_of letter t.shape t.dim e p.0) (counts letter e) in
    let here = said_last letter t done e p.0 (Each-weaken _ (λ x. (number x < number e) × (x.j < 72) × (x.k < 72)) done (λ x q. (omega (arith, q.0, r.0.0), q.1, q.2)) b) in
    let j : e.j < 72 = omega (arith, p.0.j, p.0.small) in
    let k : e.k < 72 = omega (arith, p.0.k, p.0.small) in
    let behind = read_places letter t (done ++ e ∷ []) es (suc (number e)) (suc n) more (Below-push m e done j k r.0.0 b) r.1 p.1 in
    let size : suc n + length es ≡ n + suc (length es) = omega arith in
    ap (λ x. entries_from (with_list letter t done) (counted n (lines x))) text
    ∙ entries_stored (with_list letter t done) (with_list letter t (done ++ e ∷ [])) n (place_line_words letter e) _ _ line here
    ∙ behind
    ∙ ap₂ (λ x k. entries_from (with_list letter t x) (counted k (lines more))) (append_assoc done (e ∷ []) es) size

-- ---- the lines of D

unfoldable pub with_values : Entries → List (ℕ × ℚ) → Entries
with_values t es = record t { d = es }

abbrev pub BelowIndex : ℕ → List (ℕ × ℚ) → Type 0
BelowIndex n es = Each (λ e. e.0 < n) es

-- indices that ascend from n on
abbrev pub Climb : ℕ → List (ℕ × ℚ) → Type 0
Climb n [] = Unit {0}
Climb n (e ∷ es) = (n ≤ e.0) × Climb (suc e.0) es

put-last-value : (x : ℕ × ℚ) (es : List (ℕ × ℚ)) → BelowIndex x.0 es → with_value x.0 x.1 es ≡ es ++ x ∷ []
unfolding with_value
put-last-value x [] b = refl
put-last-value x (e ∷ es) b = rw (le-ltb x.0 e.0 (omega (arith, b.0))) (ap (λ w. e ∷ w) (put-last-value x es b.1))

free-last-value : (x : ℕ × ℚ) (es : List (ℕ × ℚ)) → BelowIndex x.0 es → is_given es x.0 ≡ false
unfolding is_given
free-last-value x [] b = refl
free-last-value x (e ∷ es) b = rw (ne_eqb x.0 e.0 (λ s. omega (arith, b.0))) (free-last-value x es b.1)

BelowIndex-push : (n : ℕ) (x : ℕ × ℚ) (es : List (ℕ × ℚ)) → n ≤ x.0 → BelowIndex n es → BelowIndex (suc x.0) (es ++ x ∷ [])
BelowIndex-push n x [] h b = (omega arith, tt)
BelowIndex-push n x (e ∷ es) h b = (omega (arith, b.0), BelowIndex-push n x es h b.1)

pub record IsReadableAt (shape : Shape) (dim : ℕ) (e : ℕ × ℚ) : Type 0 where
  pub i : e.0 < dim
  pub some : e.1 ≡ 0ℚ → ⊥
  pub graded : keeps_d shape e.0 ≡ true
  pub range : IsInRange e.1
  pub small : dim ≤ 72

abbrev pub index_words : ℕ × ℚ → List (List ℕ)
index_words e = codes "D" ∷ decimal e.0 ∷ fraction_text e.1 ∷ []

index_read : (t : Entries) (e : ℕ × ℚ) → IsReadableAt t.shape t.dim e → said t (index_words e) ≡ stored true (is_given t.d e.0) e.1 (with_d t e.0 e.1)
unfolding said said_by letter_of index_line two_words only_word checked
index_read t e r = rw (index_back t.dim e.0 r.i r.small, value_back e.1 r.range, r.graded) refl

with_last_value : (t : Entries) (done : List (ℕ × ℚ)) (e : ℕ × ℚ) → (e.1 ≡ 0ℚ → ⊥) → BelowIndex e.0 done → with_d (with_values t done) e.0 e.1 ≡ with_values t (done ++ e ∷ [])
unfolding with_values with_d
with_last_value t done e some b = rw (is_zero-some e.1 some, put-last-value e done b) refl

taken_last_value : (t : Entries) (done : List (ℕ × ℚ)) (e : ℕ × ℚ) → BelowIndex e.0 done → is_given (with_values t done).d e.0 ≡ false
unfolding with_values
taken_last_value t done e b = free-last-value e done b

still_readable_at : (t : Entries) (es : List (ℕ × ℚ)) (e : ℕ × ℚ) → IsReadableAt t.shape t.dim e → IsReadableAt (with_values t es).shape (with_values t es).dim e
unfolding with_values
still_readable_at t es e r = r

said_last_value : (t : Entries) (done : List (ℕ × ℚ)) (e : ℕ × ℚ) → IsReadableAt t.shape t.dim e → BelowIndex e.0 done → said (with_values t done) (index_words e) ≡ Stored (with_values t (done ++ e ∷ []))
said_last_value t done e r b =
    index_read (with_values t done) e (still_readable_at t done e r) ∙ stored_new _ e.1 _ r.some (taken_last_value t done e b) ∙ ap Stored (with_last_value t done e r.some b)

index_counts : (e : ℕ × ℚ) → is_skipped (index_words e) ≡ false
unfolding is_skipped is_note
index_counts e = refl

index_words_are : (shape : Shape) (dim : ℕ) (e : ℕ × ℚ) → IsReadableAt shape dim e → AreWords (index_words e)
index_words_are shape dim e r = (((omega arith, tt), omega arith), (decimal_word e.0 (omega (arith, r.i, r.small)), (fraction_word e.1 r.range, tt)))

pub read_indices : (t : Entries) (done es : List (ℕ × ℚ)) (m n : ℕ) (more : List ℕ) → BelowIndex m done → Climb m es → Each (IsReadableAt t.shape t.dim) es
    → entries_from (with_values t done) (counted n (lines (flat_map index_text es ++ more))) ≡ entries_from (with_values t (done ++ es)) (counted (n + length es) (lines more))
read_indices t done [] m n more b r p =
    let size : n + 0 ≡ n = omega arith in
    rw (append-nil done, size) refl
read_indices t done (e ∷ es) m n more b r p =
    let text : (index_text e ++ flat_map index_text es) ++ more ≡ joined (index_words e) ++ 10 ∷ (flat_map index_text es ++ more) =
    append_assoc (index_text e) (flat_map index_text es) more ∙ index_is e (flat_map index_text es ++ more) in
    let line = joined_line n (index_words e) (flat_map index_text es ++ more) (index_words_are t.shape t.dim e p.0) (index_counts e) in
    let here = said_last_value t done e p.0 (Each-weaken _ (λ x. x.0 < e.0) done (λ x q. omega (arith, q, r.0)) b) in
    let behind = read_indices t (done ++ e ∷ []) es (suc e.0) (suc n) more (BelowIndex-push m e done r.0 b) r.1 p.1 in
    let size : suc n + length es ≡ n + suc (length es) = omega arith in
    ap (λ x. entries_from (with_values t done) (counted n (lines x))) text
    ∙ entries_stored (with_values t done) (with_values t (done ++ e ∷ [])) n (index_words e) _ _ line here
    ∙ behind
    ∙ ap₂ (λ x k. entries_from (with_values t x) (counted k (lines more))) (append_assoc done (e ∷ []) es) size
