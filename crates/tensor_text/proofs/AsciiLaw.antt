-- The canonical text of tensors is ASCII, and so UTF-8.
use Rattle.std.proofs.Common.{ℕ, suc, ◌≤◌, Bool, true, false, List, [], ◌∷◌, ◌++◌, refl, arith, ℤ, pos, negsuc, IsUtf8, decimal, codes, ◌≤ℤ◌}
use Rattle.std.specs.Fmt.{signed_decimal}
use Rattle.std.specs.List.{flat_map}
use Rattle.std.proofs.lemmas.Int.{ints}
use Rattle.airy_math.specs.Rational.{ℚ}
use Rattle.airy_math.specs.Obtained.{IsInRange}
use Rattle.airy_math.specs.declared.Law.{Law}
use Rattle.airy_math.specs.declared.Shape.{Shape}
use Rattle.airy_math.specs.declared.Shape.TheVariants.{All, Exact, AtMost}
use Rattle.frac128.specs.Fraction.{fraction_text}
use Rattle.sparse_tensor.specs.Entries.{Entries, Entry}
use Rattle.sparse_tensor.specs.Grades.{IsSmallLaw, AreStored, AreStoredByIndex, AreInRange, AreInRangeByIndex, AreEntries}
use Rattle.sparse_tensor.specs.declared.parts.Part.{Part}
use Rattle.sparse_tensor.specs.declared.parts.Part.TheVariants.{A, B, C}
use Rattle.tensor_text.specs.Canonical.{letter_text, spaced, place_text, index_text, dim_text, header_text, law_text, letter_word, shape_text, first_text, entries_text, canonical_text}
use Rattle.tensor_text.proofs.PlainLemmas.{are_ascii, AreAscii, joined, word, of-plain, utf8-ascii, plain-decimal, plain-signed, plain-fraction}

of-spaced : (n : ℕ) → n ≤ 72 → AreAscii (spaced n)
unfolding are_ascii
of-spaced n h = joined (word (codes " ") refl) (of-plain (decimal n) (plain-decimal n (omega arith)))

of-fraction : (v : ℚ) → IsInRange v → AreAscii (fraction_text v)
of-fraction v r = of-plain (fraction_text v) (plain-fraction v r)

of-letter : (letter : Part) → AreAscii (letter_text letter)
unfolding are_ascii
of-letter A = word (codes "A") refl
of-letter B = word (codes "B") refl
of-letter C = word (codes "C") refl

-- a space, a value and the end of the line
of-value : {text : List ℕ} (v : ℚ) → AreAscii text → IsInRange v → AreAscii (text ++ codes " " ++ fraction_text v ++ codes "\n")
unfolding are_ascii
of-value v p r = joined (joined (joined p (word (codes " ") refl)) (of-fraction v r)) (word (codes "\n") refl)

of-place : (letter : Part) (e : Entry) → e.i ≤ 72 → e.j ≤ 72 → e.k ≤ 72 → IsInRange e.v → AreAscii (place_text letter e)
unfolding place_text
of-place letter e i j k r = of-value e.v (joined (joined (joined (of-letter letter) (of-spaced e.i i)) (of-spaced e.j j)) (of-spaced e.k k)) r

of-index : (e : ℕ × ℚ) → e.0 ≤ 72 → IsInRange e.1 → AreAscii (index_text e)
unfolding index_text are_ascii
of-index e i r = of-value e.1 (joined (word (codes "D") refl) (of-spaced e.0 i)) r

of-places : (letter : Part) (grade : ℕ → ℕ → ℕ → Bool) (dim : ℕ) (es : List Entry) → dim ≤ 72 → AreStored grade dim es → AreInRange es → AreAscii (flat_map (place_text letter) es)
unfolding AreStored AreInRange are_ascii
of-places letter grade dim [] most s r = word [] refl
of-places letter grade dim (e ∷ es) most s r =
    let i = s.0.0 in
    let j = s.0.1 in
    let k = s.0.2 in
    joined (of-place letter e (omega arith) (omega arith) (omega arith) r.0) (of-places letter grade dim es most s.1 r.1)

of-indices : (grade : ℕ → Bool) (dim : ℕ) (es : List (ℕ × ℚ)) → dim ≤ 72 → AreStoredByIndex grade dim es → AreInRangeByIndex es → AreAscii (flat_map index_text es)
unfolding AreStoredByIndex AreInRangeByIndex are_ascii
of-indices grade dim [] most s r = word [] refl
of-indices grade dim (e ∷ es) most s r = let i = s.0.0 in joined (of-index e (omega arith) r.0) (of-indices grade dim es most s.1 r.1)

of-signed : (z : ℤ) → negsuc 98 ≤ℤ z → z ≤ℤ pos 99 → AreAscii (signed_decimal z)
of-signed (pos n) l h = let small : n ≤ 99 = omega (arith, ints) in of-plain (signed_decimal (pos n)) (plain-signed (pos n) (omega arith))
of-signed (negsuc n) l h = let small : suc n ≤ 99 = omega (arith, ints) in of-plain (signed_decimal (negsuc n)) (plain-signed (negsuc n) (omega arith))

of-law : (l : Law) → IsSmallLaw (Exact l) → AreAscii (law_text l)
unfolding IsSmallLaw are_ascii
of-law l s = joined (joined (joined (word (codes " ") refl) (of-signed l.per_g s.0 s.1)) (word (codes " ") refl)) (of-signed l.per_n s.2 s.3)

of-letter_word : (letter : Bool) → AreAscii (letter_word letter)
unfolding are_ascii
of-letter_word true = word (codes " letter") refl
of-letter_word false = word [] refl

of-header : (s : Shape) → AreAscii (header_text s)
unfolding header_text are_ascii
of-header All = word (codes "airy 1\n") refl
of-header (Exact l) = word (codes "airy 2\n") refl
of-header (AtMost l) = word (codes "airy 2\n") refl

of-shape : (s : Shape) (letter : Bool) → IsSmallLaw s → AreAscii (shape_text s letter)
unfolding shape_text IsSmallLaw are_ascii
of-shape All letter small = word [] refl
of-shape (Exact l) letter small = joined (joined (word (codes "shape exact") refl) (of-law l small)) (word (codes "\n") refl)
of-shape (AtMost l) letter small = joined (joined (joined (word (codes "shape atmost") refl) (of-law l small)) (of-letter_word letter)) (word (codes "\n") refl)

of-dim : (dim : ℕ) → dim ≤ 72 → AreAscii (dim_text dim)
unfolding dim_text are_ascii
of-dim dim h = joined (joined (word (codes "dim") refl) (of-spaced dim h)) (word (codes "\n") refl)

pub ascii-canonical : (t : Entries) → AreEntries t → AreAscii (canonical_text t)
unfolding first_text entries_text canonical_text are_ascii
ascii-canonical t e =
    joined (joined (of-header t.shape) (joined (of-dim t.dim e.most) (of-shape t.shape t.letter e.law)))
    (joined (of-places A _ t.dim t.a e.most e.a.stored e.a.in_range)
    (joined (of-places B _ t.dim t.b e.most e.b.stored e.b.in_range)
    (joined (of-places C _ t.dim t.c e.most e.c.stored e.c.in_range)
    (joined (of-indices _ t.dim t.d e.most e.d.stored e.d.in_range) (word (codes "end\n") refl)))))

pub utf8-canonical : (t : Entries) → AreEntries t → IsUtf8 (canonical_text t)
utf8-canonical t e = utf8-ascii (canonical_text t) (ascii-canonical t e)
