-- The members of an object and the items of an array.
use Rattle.std.proofs.Common.{◌≡◌, ℕ, suc, ◌+◌, ◌<◌, ◌≤◌, Bool, true, false, ◌&&◌, List, [], ◌∷◌, length, map, drop, get_or, refl, sym, ap, ap₂, ◌∙◌, String}
use Rattle.airy_json.proofs.Common.{count, whole, is_whole, are_indices, length-map, drop_more, drop_all, Data, view, items_view, members_of, members_view}
use Rattle.std.specs.declared.alloc.Global.{Global}
use Rattle.serde_json.specs.declared.value.Value.{Value}
use Rattle.std.proofs.Math.Bool.{and-false}

count_of : (ms : List (String Global × Data)) → count (members_of ms) ≡ length ms
unfolding count
count_of [] = refl
count_of (m ∷ ms) = ap suc (count_of ms)

pub count_is : (ms : List (String Global × Value)) → count (members_view ms) ≡ length ms
count_is ms = count_of (map (λ m. (m.0, view m.1)) ms) ∙ length-map ms (λ m. (m.0, view m.1))

-- another number of items
pub indices-other : (is : List ℕ) (vs : List Value) → (length vs ≡ length is → ⊥) → are_indices is (items_view vs) ≡ false
unfolding are_indices
indices-other [] [] other = absurd (other refl)
indices-other [] (v ∷ vs) other = refl
indices-other (i ∷ is) [] other = refl
indices-other (i ∷ is) (v ∷ vs) other =
    ap (λ b. is_whole i (whole (view v)) && b) (indices-other is vs (λ e. other (ap suc e))) ∙ and-false (is_whole i (whole (view v)))

-- from a place on: by the item there and those behind it
pub indices-at : (is : List ℕ) (vs : List Value) (p : ℕ) (v : Value) (b : Bool) → p < length is → p < length vs → v ≡ get_or vs p v → b ≡ is_whole (get_or is p 0) (whole (view v))
    → are_indices (drop p is) (items_view (drop p vs)) ≡ (b && are_indices (drop (p + 1) is) (items_view (drop (p + 1) vs)))
unfolding are_indices
indices-at is vs p v b h k there test =
    ap₂ (λ js ws. are_indices js (items_view ws)) (drop_more is p 0 h) (drop_more vs p v k)
    ∙ ap (λ w. is_whole (get_or is p 0) (whole (view w)) && are_indices (drop (p + 1) is) (items_view (drop (p + 1) vs))) (sym there)
    ∙ ap (λ c. c && are_indices (drop (p + 1) is) (items_view (drop (p + 1) vs))) (sym test)

pub indices-end : (is : List ℕ) (vs : List Value) (p : ℕ) → length is ≤ p → length vs ≤ p → are_indices (drop p is) (items_view (drop p vs)) ≡ true
unfolding are_indices
indices-end is vs p h k = ap₂ (λ js ws. are_indices js (items_view ws)) (drop_all p is h) (drop_all p vs k)
