-- Keys of lists that are in order.
use Rattle.std.proofs.Common.{◌≡◌, Bool, true, false, List, refl, sym, ◌∙◌, Result, Ok, Err, OnOk, is_ok, cond}
use Rattle.index_lists.proofs.Words.{KeyErr, NoPlace, TooMany, Unstable}

pub no_error : (e : KeyErr) → (e ≡ NoPlace → ⊥) → (e ≡ TooMany → ⊥) → (e ≡ Unstable → ⊥) → ⊥
no_error NoPlace a b c = a refl
no_error TooMany a b c = b refl
no_error Unstable a b c = c refl

pub added_where_ok : {X T E T' E' : Type 0} (r : Result T E) (s : Result T' E') (xs ys zs added : List X) → is_ok r ≡ is_ok s → xs ≡ cond (is_ok s) ys zs → ys ≡ added → OnOk r (xs ≡ added)
added_where_ok (Err x) s xs ys zs added v e f = tt
added_where_ok (Ok x) s xs ys zs added v e f = e ∙ at (is_ok s) (sym v) ∙ f
  where
    at : (b : Bool) → b ≡ true → cond b ys zs ≡ ys
    at true e = refl
    at false e = cc
