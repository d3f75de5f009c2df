-- The first line of a text and the first word of a line, by the place at which each ends.
use Rattle.std.proofs.Common.{◌≡◌, ℕ, zero, suc, ◌+◌, ◌<◌, Bool, true, false, cond, not, List, [], ◌∷◌, length, take, drop, map, refl, sym, ap, ◌∙◌, arith}
use Rattle.std.specs.List.{position_or_len}
use Rattle.std.specs.Str.Lines.{strip_carriage_return}
use Rattle.tensor_text.specs.Lines.{onto_first, parts, is_feed, is_blank, lines, nonempty, words}

take-nil : (n : ℕ) → take {A = ℕ} n [] ≡ []
take-nil zero = refl
take-nil (suc n) = refl

drop-nil : (n : ℕ) → drop {A = ℕ} n [] ≡ []
drop-nil zero = refl
drop-nil (suc n) = refl

first-cond : (ends : ℕ → Bool) (t : Bool) (n c : ℕ) (cs : List ℕ) → (0 < length cs → parts ends cs ≡ take n cs ∷ parts ends (drop 1 (drop n cs)))
    → cond t ([] ∷ parts ends cs) (onto_first c (parts ends cs)) ≡ take (cond (not t) (1 + n) 0) (c ∷ cs) ∷ parts ends (drop 1 (drop (cond (not t) (1 + n) 0) (c ∷ cs)))
unfolding parts onto_first
first-cond ends true n c cs e = refl
first-cond ends false n c [] e = let s : 1 + n ≡ suc n = omega arith in rw (s, take-nil n, drop-nil n) refl
first-cond ends false n c (d ∷ ds) e = let s : 1 + n ≡ suc n = omega arith in rw (s, e (omega arith)) refl

pub parts_first : (ends : ℕ → Bool) (xs : List ℕ) → 0 < length xs → parts ends xs ≡ take (position_or_len ends xs) xs ∷ parts ends (drop 1 (drop (position_or_len ends xs) xs))
unfolding parts
parts_first ends [] h = absurd (omega arith)
parts_first ends (c ∷ cs) h = first-cond ends (ends c) (position_or_len ends cs) c cs (parts_first ends cs)

pub no_lines : (text : List ℕ) → length text ≡ 0 → lines text ≡ []
unfolding lines parts
no_lines [] h = refl
no_lines (c ∷ cs) h = absurd (omega arith)

pub lines_first : (text front back : List ℕ) → 0 < length text → front ≡ take (position_or_len is_feed text) text → back ≡ drop (position_or_len is_feed text) text → lines text ≡ strip_carriage_return front ∷ lines (drop 1 back)
unfolding lines
lines_first text front back h f b = ap (map strip_carriage_return) (parts_first is_feed text h) ∙ rw (f, b) refl

pub no_words : (line : List ℕ) → length line ≡ 0 → words line ≡ []
unfolding words parts nonempty
no_words [] h = refl
no_words (c ∷ cs) h = absurd (omega arith)

pub nonempty-some : (word : List ℕ) (ps : List (List ℕ)) → 0 < length word → nonempty (word ∷ ps) ≡ word ∷ nonempty ps
unfolding nonempty
nonempty-some [] ps h = absurd (omega arith)
nonempty-some (c ∷ cs) ps h = refl

nonempty-none : (word : List ℕ) (ps : List (List ℕ)) → length word ≡ 0 → nonempty (word ∷ ps) ≡ nonempty ps
unfolding nonempty
nonempty-none [] ps h = refl
nonempty-none (c ∷ cs) ps h = absurd (omega arith)

pub words_first : (line word more : List ℕ) → 0 < length line → 0 < length word → word ≡ take (position_or_len is_blank line) line → more ≡ drop (position_or_len is_blank line) line → words line ≡ word ∷ words (drop 1 more)
unfolding words
words_first line word more h some f b = ap nonempty (parts_first is_blank line h) ∙ rw (← f, ← b) (nonempty-some word (parts is_blank (drop 1 more)) some)

pub words_blank : (line word more : List ℕ) → 0 < length line → length word ≡ 0 → word ≡ take (position_or_len is_blank line) line → more ≡ drop (position_or_len is_blank line) line → words (drop 1 more) ≡ words line
unfolding words
words_blank line word more h none f b = sym (ap nonempty (parts_first is_blank line h) ∙ rw (← f, ← b) (nonempty-none word (parts is_blank (drop 1 more)) none))
