-- The places that a check looks at, in their order.
use Prim.Native.Nat.{ℕ, suc, ◌-◌}
use mathlib.Core.List.{List, [], ◌∷◌, map}
use Rattle.airy_math.specs.Sums.{below, count_from, each}
use Rattle.airy_relations.specs.Sides.{Rel, AA, BA, BB, BC, D}

-- A relation with its free indices. An index that the relation lacks is 0.
pub record Place : Type 0 where
  pub rel : Rel
  pub i : ℕ
  pub j : ℕ
  pub k : ℕ
  pub l : ℕ

unfoldable pub indices : Place → List ℕ
indices p = p.i ∷ p.j ∷ p.k ∷ p.l ∷ []

-- How many k there are below N; where there is no k, it is 0 alone.
unfoldable pub choices_k : Rel → ℕ → ℕ
choices_k AA N = N
choices_k BA N = N
choices_k BB N = N
choices_k BC N = N
choices_k D N = 1

-- How many l there are below N; where there is no l, it is 0 alone.
unfoldable pub choices_l : Rel → ℕ → ℕ
choices_l AA N = 1
choices_l BA N = N
choices_l BB N = N
choices_l BC N = N
choices_l D N = 1

-- the numbers from a on that are below b
unfoldable pub from_to : ℕ → ℕ → List ℕ
from_to a b = count_from a (b - a)

-- The places of one relation with i below j, by i, j, k and l ascending.
unfoldable pub places_of : ℕ → Rel → List Place
places_of N rel =
    each (below N) λ i.
    each (from_to (suc i) N) λ j.
    each (below (choices_k rel N)) λ k.
    map (λ l. record { rel = rel; i = i; j = j; k = k; l = l }) (below (choices_l rel N))

-- all places whose free indices are below N
unfoldable pub places : ℕ → List Place
places N = each (AA ∷ BA ∷ BB ∷ BC ∷ D ∷ []) (places_of N)
