-- Words that are joined by spaces and ended by a line feed are one line, and these words.
use Rattle.std.proofs.Common.{◌≡◌, ℕ, suc, ◌-◌, ◌<◌, ◌^◌, ◌≤◌, Bool, true, false, cond, eqb, ltb, List, [], ◌∷◌, ◌++◌, length, get_or, map, refl, ap, ◌∙◌, arith, append_assoc, length-append, ℤ, pos, negsuc, nat_abs}
use Rattle.std.specs.Prelude.{decimal, codes, ◌==◌, ◌≤ℤ◌}
use Rattle.std.specs.Fmt.{signed_decimal}
use Rattle.std.specs.List.{AllByRecursion}
use Rattle.std.specs.Str.Lines.{strip_carriage_return}
use Rattle.std.proofs.lemmas.Int.{ints}
use Rattle.std.proofs.lemmas.Bool.{ne_eqb, ltb-true}
use Rattle.std.proofs.lemmas.Bool.Decides.{nat_tests}
use Rattle.std.proofs.lemmas.List.Elements.{All-from_recursion}
use Rattle.airy_math.specs.Rational.{ℚ}
use Rattle.airy_math.specs.Obtained.{IsInRange}
use Rattle.airy_math.specs.declared.Law.{Law}
use Rattle.airy_math.specs.declared.Shape.TheVariants.{Exact, AtMost}
use Rattle.frac128.specs.Fraction.{fraction_text}
use Rattle.sparse_tensor.specs.Entries.{Entry}
use Rattle.sparse_tensor.specs.Grades.{IsSmallLaw}
use Rattle.sparse_tensor.specs.declared.parts.Part.{Part}
use Rattle.tensor_text.specs.Lines.{onto_first, parts, is_feed, is_blank, lines, nonempty, words}
use Rattle.tensor_text.specs.Grammar.{Line, counted, is_skipped}
use Rattle.tensor_text.specs.Canonical.{letter_text, place_text, index_text, dim_text, shape_text}
use Rattle.tensor_text.proofs.LineLemmas.{nonempty-some}
use Rattle.tensor_text.proofs.CountLemmas.{counted_line}
use Rattle.tensor_text.proofs.BackValues.{Digits, decimal_spells}

-- no space and no control
abbrev pub Ink : List ℕ → Type 0
Ink w = AllByRecursion (λ c. 32 < c) w

-- a byte above the space at each place
abbrev pub is_inked : List ℕ → Bool
is_inked [] = true
is_inked (c ∷ cs) = cond (ltb 32 c) (is_inked cs) false

ink_by_test : (w : List ℕ) → is_inked w ≡ true → Ink w
ink_by_test [] e = tt
ink_by_test (c ∷ cs) e = by (ltb 32 c) refl (ink_by_test cs) e
  where
    by : (t : Bool) → ltb 32 c ≡ t → (is_inked cs ≡ true → Ink cs) → cond t (is_inked cs) false ≡ true → (32 < c) × Ink cs
    by true p more q = (ltb-true 32 c p, more q)
    by false p more q = cc

-- a word, by computation
pub word_by_test : (w : List ℕ) → is_inked w ≡ true → 0 < length w → Ink w × (0 < length w)
word_by_test w e h = (ink_by_test w e, h)

-- no control
abbrev pub Plain : List ℕ → Type 0
Plain w = AllByRecursion (λ c. 31 < c) w

not-blank : (c : ℕ) → 32 < c → is_blank c ≡ false
not-blank c h = grind (arith, nat_tests)

not-feed : (c : ℕ) → 31 < c → is_feed c ≡ false
not-feed c h = ne_eqb c 10 (λ e. omega arith)

word-part : (w rest : List ℕ) → Ink w → parts is_blank (w ++ 32 ∷ rest) ≡ w ∷ parts is_blank rest
unfolding parts onto_first
word-part [] rest p = refl
word-part (c ∷ cs) rest p = rw (not-blank c p.0) (ap (onto_first c) (word-part cs rest p.1))

last-part : (w : List ℕ) → 0 < length w → Ink w → parts is_blank w ≡ w ∷ []
unfolding parts onto_first
last-part [] h p = absurd (omega arith)
last-part (c ∷ []) h p = rw (not-blank c p.0) refl
last-part (c ∷ d ∷ ds) h p = rw (not-blank c p.0) (ap (onto_first c) (last-part (d ∷ ds) (omega arith) p.1))

line-part : (line rest : List ℕ) → Plain line → parts is_feed (line ++ 10 ∷ rest) ≡ line ∷ parts is_feed rest
unfolding parts onto_first
line-part [] rest p = refl
line-part (c ∷ cs) rest p = rw (not-feed c p.0) (ap (onto_first c) (line-part cs rest p.1))

no-return : (line : List ℕ) → Plain line → strip_carriage_return line ≡ line
no-return [] p = refl
no-return (c ∷ cs) p =
    let last : 31 < get_or (c ∷ cs) (length (c ∷ cs) - 1) 0 = All-from_recursion (λ c. 31 < c) (c ∷ cs) p (length (c ∷ cs) - 1) 0 (omega arith) in
    let other : eqb (get_or (c ∷ cs) (length (c ∷ cs) - 1) 0) 13 ≡ false = ne_eqb _ 13 (λ e. omega arith) in
    rw other refl

plain-line : (line rest : List ℕ) → Plain line → lines (line ++ 10 ∷ rest) ≡ line ∷ lines rest
unfolding lines
plain-line line rest p = ap (map strip_carriage_return) (line-part line rest p) ∙ ap (λ l. l ∷ map strip_carriage_return (parts is_feed rest)) (no-return line p)

-- ---- words in a line

-- the words, parted by one space
abbrev pub joined : List (List ℕ) → List ℕ
joined [] = []
joined (w ∷ []) = w
joined (w ∷ v ∷ ws) = w ++ 32 ∷ joined (v ∷ ws)

abbrev pub AreWords : List (List ℕ) → Type 0
AreWords ws = AllByRecursion (λ w. Ink w × (0 < length w)) ws

words-joined : (ws : List (List ℕ)) → AreWords ws → words (joined ws) ≡ ws
unfolding words parts nonempty
words-joined [] p = refl
words-joined (w ∷ []) p = ap nonempty (last-part w p.0.1 p.0.0) ∙ nonempty-some w [] p.0.1
words-joined (w ∷ v ∷ ws) p = ap nonempty (word-part w (joined (v ∷ ws)) p.0.0) ∙ nonempty-some w (parts is_blank (joined (v ∷ ws))) p.0.1 ∙ ap (λ x. w ∷ x) (words-joined (v ∷ ws) p.1)

Plain-ink : (w : List ℕ) → Ink w → Plain w
Plain-ink [] p = tt
Plain-ink (c ∷ cs) p = (omega (arith, p.0), Plain-ink cs p.1)

Plain-append : (v w : List ℕ) → Plain v → Plain w → Plain (v ++ w)
Plain-append [] w p q = q
Plain-append (c ∷ cs) w p q = (p.0, Plain-append cs w p.1 q)

Plain-joined : (ws : List (List ℕ)) → AreWords ws → Plain (joined ws)
Plain-joined [] p = tt
Plain-joined (w ∷ []) p = Plain-ink w p.0.0
Plain-joined (w ∷ v ∷ ws) p = Plain-append w (32 ∷ joined (v ∷ ws)) (Plain-ink w p.0.0) (omega arith, Plain-joined (v ∷ ws) p.1)

-- a line of words that isn't skipped counts
pub joined_line : (n : ℕ) (ws : List (List ℕ)) (rest : List ℕ) → AreWords ws → is_skipped ws ≡ false → counted n (lines (joined ws ++ 10 ∷ rest)) ≡ Line n ws (counted (suc n) (lines rest))
joined_line n ws rest p s =
    let w = words-joined ws p in
    counted_line n (lines (joined ws ++ 10 ∷ rest)) (lines rest) (joined ws) ws (plain-line (joined ws) rest (Plain-joined ws p)) w (ap is_skipped w ∙ s)

-- ---- numbers and fractions are words

Ink-digits : (ds : List ℕ) → Digits ds → Ink ds
Ink-digits [] p = tt
Ink-digits (d ∷ ds) p = (omega (arith, p.0.0), Ink-digits ds p.1)

Ink-append : (v w : List ℕ) → Ink v → Ink w → Ink (v ++ w)
Ink-append [] w p q = q
Ink-append (c ∷ cs) w p q = (p.0, Ink-append cs w p.1 q)

pub decimal_word : (n : ℕ) → n < 10 ^ 64 → Ink (decimal n) × (0 < length (decimal n))
decimal_word n h = let p = decimal_spells n h in (Ink-digits (decimal n) p.digits, p.some)

signed_word : (z : ℤ) → nat_abs z < 2 ^ 127 → Ink (signed_decimal z) × (0 < length (signed_decimal z))
signed_word (pos n) h = decimal_word n (omega arith)
signed_word (negsuc n) h = let p = decimal_word (suc n) (omega arith) in ((omega arith, p.0), omega arith)

denominator_ink : (t : Bool) (d : ℕ) → d < 2 ^ 127 → Ink (cond t [] (47 ∷ decimal d))
denominator_ink true d h = tt
denominator_ink false d h = (omega arith, (decimal_word d (omega arith)).0)

pub fraction_word : (v : ℚ) → IsInRange v → Ink (fraction_text v) × (0 < length (fraction_text v))
fraction_word v r =
    let p = signed_word v.num r.num in
    (Ink-append (signed_decimal v.num) _ p.0 (denominator_ink (v.den == 1) v.den r.den), omega (arith, p.1, length-append (signed_decimal v.num) (cond (v.den == 1) [] (47 ∷ decimal v.den))))

-- ---- the written lines as words

abbrev pub place_line_words : Part → Entry → List (List ℕ)
place_line_words letter e = letter_text letter ∷ decimal e.i ∷ decimal e.j ∷ decimal e.k ∷ fraction_text e.v ∷ []

pub place_is : (letter : Part) (e : Entry) (rest : List ℕ) → place_text letter e ++ rest ≡ joined (place_line_words letter e) ++ 10 ∷ rest
unfolding place_text
place_is letter e rest = simp append_assoc

pub index_is : (e : ℕ × ℚ) (rest : List ℕ) → index_text e ++ rest ≡ joined (codes "D" ∷ decimal e.0 ∷ fraction_text e.1 ∷ []) ++ 10 ∷ rest
unfolding index_text
index_is e rest = regroup (codes "D") (decimal e.0) (fraction_text e.1) rest
  where
    regroup : (a b c rest : List ℕ) → ((((a ++ 32 ∷ b) ++ 32 ∷ []) ++ c) ++ 10 ∷ []) ++ rest ≡ (a ++ 32 ∷ (b ++ 32 ∷ c)) ++ 10 ∷ rest
    regroup a b c rest = append_assoc (((a ++ 32 ∷ b) ++ 32 ∷ []) ++ c) (10 ∷ []) rest ∙ ap (λ w. w ++ 10 ∷ rest) (append_assoc (a ++ 32 ∷ b) (32 ∷ []) c ∙ append_assoc a (32 ∷ b) (32 ∷ c))

-- ---- the shape line

abbrev pub law_words : Law → List (List ℕ) → List (List ℕ)
law_words l more = signed_decimal l.per_g ∷ signed_decimal l.per_n ∷ more

abbrev pub letter_words : Bool → List (List ℕ)
letter_words letter = cond letter (codes "letter" ∷ []) []

small_size : (z : ℤ) → negsuc 98 ≤ℤ z → z ≤ℤ pos 99 → nat_abs z < 2 ^ 127
small_size (pos n) l h = let small : n ≤ 99 = omega (arith, ints) in omega arith
small_size (negsuc n) l h = let small : suc n ≤ 99 = omega (arith, ints) in omega arith

pub law_are_words : (l : Law) (more : List (List ℕ)) → IsSmallLaw (Exact l) → AreWords more → AreWords (law_words l more)
unfolding IsSmallLaw
law_are_words l more s p = (signed_word l.per_g (small_size l.per_g s.0 s.1), (signed_word l.per_n (small_size l.per_n s.2 s.3), p))

pub letter_are_words : (letter : Bool) → AreWords (letter_words letter)
letter_are_words true = (word_by_test (codes "letter") refl (omega arith), tt)
letter_are_words false = tt

pub exact_is : (l : Law) (rest : List ℕ) → shape_text (Exact l) false ++ rest ≡ joined (codes "shape" ∷ codes "exact" ∷ law_words l []) ++ 10 ∷ rest
unfolding shape_text
exact_is l rest = simp append_assoc

pub at_most_is : (l : Law) (letter : Bool) (rest : List ℕ) → shape_text (AtMost l) letter ++ rest ≡ joined (codes "shape" ∷ codes "atmost" ∷ law_words l (letter_words letter)) ++ 10 ∷ rest
unfolding shape_text
at_most_is l true rest = simp append_assoc
at_most_is l false rest = simp append_assoc

pub dim_is : (dim : ℕ) (rest : List ℕ) → dim_text dim ++ rest ≡ joined (codes "dim" ∷ decimal dim ∷ []) ++ 10 ∷ rest
unfolding dim_text
dim_is dim rest = simp append_assoc
