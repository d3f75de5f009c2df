-- The lines that count, from the first line on.
use Rattle.std.proofs.Common.{◌≡◌, ℕ, suc, ◌+◌, true, false, List, [], ◌∷◌, refl, sym, ap, ◌∙◌, add-one}
use Rattle.tensor_text.specs.Lines.{words}
use Rattle.tensor_text.specs.Grammar.{Line, End, is_skipped, counted}

pub counted_none : (n : ℕ) (ls : List (List ℕ)) → ls ≡ [] → counted n ls ≡ End n
unfolding counted
counted_none n ls e = rw e refl

pub counted_skip : (n : ℕ) (ls rest : List (List ℕ)) (line : List ℕ) → ls ≡ line ∷ rest → is_skipped (words line) ≡ true → counted (n + 1) rest ≡ counted n ls
unfolding counted
counted_skip n ls rest line e s = sym (ap (counted n) e ∙ rw (s, ← add-one n) refl)

pub counted_line : (n : ℕ) (ls rest : List (List ℕ)) (line : List ℕ) (ws : List (List ℕ)) → ls ≡ line ∷ rest → words line ≡ ws → is_skipped (words line) ≡ false → counted n ls ≡ Line n ws (counted (suc n) rest)
unfolding counted
counted_line n ls rest line ws e w s = ap (counted n) e ∙ rw (s, w) refl
