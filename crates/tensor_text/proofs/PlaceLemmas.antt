-- The first place at which a test passes, by what a search for it answers.
use Rattle.std.proofs.Common.{◌≡◌, ℕ, ◌≤◌, Bool, true, false, cond, ltb, List, length, arith, sym, ◌∙◌, ap, Some, None, Option, refl, unwrap_or}
use Rattle.std.specs.List.{position_or_len}
use Rattle.std.proofs.lemmas.Bool.{ltb-false}
use Rattle.std.proofs.lemmas.List.Sums.{prefix_len-le-length}

by_test : (b : Bool) (place size : ℕ) → (b ≡ false → place ≡ size) → unwrap_or (cond b (Some place) None) size ≡ place
by_test true place size h = refl
by_test false place size h = sym (h refl)

pub place_within : (test : ℕ → Bool) (bytes : List ℕ) → position_or_len test bytes ≤ length bytes
place_within test bytes = prefix_len-le-length _ bytes

pub place_found : (test : ℕ → Bool) (bytes : List ℕ) (found : Option ℕ) (result : ℕ) → found ≡ cond (ltb (position_or_len test bytes) (length bytes)) (Some (position_or_len test bytes)) None → result ≡ unwrap_or found (length bytes) → result ≡ position_or_len test bytes
place_found test bytes found result e r =
    let within = place_within test bytes in
    r ∙ ap (λ o. unwrap_or o (length bytes)) e ∙ by_test (ltb (position_or_len test bytes) (length bytes)) (position_or_len test bytes) (length bytes) (λ f. let past = ltb-false (position_or_len test bytes) (length bytes) f in omega arith)
