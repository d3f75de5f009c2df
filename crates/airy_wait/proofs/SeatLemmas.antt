-- Seats that are taken from the end of a list, and callers that are put there.
use Rattle.std.proofs.Common.{◌≡◌, ◌⊎◌, inl, inr, ℕ, ◌<◌, ◌≤◌, List, [], ◌∷◌, ◌++◌, map, length, get_or, refl, sym, ap, ◌∙◌, subst, arith}
use Rattle.run_reports.proofs.Names.{EachAt}
use Rattle.std.proofs.lemmas.Bool.{cases_lt}
use Rattle.std.proofs.lemmas.List.{length-append, get_or_append_left}
use Rattle.std.proofs.Math.Seq.{get_or-append_seam}

module _ {X : Type 0} (P : X → Type 0) (xs : List X) (x : X) where
  pub each_before : (ys : List X) → ys ≡ xs ++ x ∷ [] → EachAt P ys → EachAt P xs
  each_before ys e h = λ k d low.
      subst P (ap (λ l. get_or l k d) e ∙ get_or_append_left xs (x ∷ []) d k low) (h k d (omega (arith, low, ap length e, length-append xs (x ∷ []))))

  pub each_last : (ys : List X) → ys ≡ xs ++ x ∷ [] → EachAt P ys → P x
  each_last ys e h =
      subst P (ap (λ l. get_or l (length xs) x) e ∙ get_or-append_seam xs x [] x) (h (length xs) x (omega (arith, ap length e, length-append xs (x ∷ []))))

  pub each_more : EachAt P xs → P x → EachAt P (xs ++ x ∷ [])
  each_more h p = λ k d low. by k d low (cases_lt k (length xs))
    where
      by : (k : ℕ) (d : X) → k < length (xs ++ x ∷ []) → (k < length xs) ⊎ (length xs ≤ k) → P (get_or (xs ++ x ∷ []) k d)
      by k d low (inl before) = subst P (sym (get_or_append_left xs (x ∷ []) d k before)) (h k d before)
      by k d low (inr past) =
          let last : k ≡ length xs = omega (arith, low, past, length-append xs (x ∷ [])) in
          subst P (sym (ap (λ i. get_or (xs ++ x ∷ []) i d) last ∙ get_or-append_seam xs x [] d)) p

pub map_snoc : {X Y : Type 0} (f : X → Y) (xs : List X) (x : X) → map f (xs ++ x ∷ []) ≡ map f xs ++ f x ∷ []
map_snoc f [] x = refl
map_snoc f (y ∷ xs) x = ap (λ l. f y ∷ l) (map_snoc f xs x)
