-- Where a key stands in a plan, or why it stands nowhere; and the power of the letter at a key.
use Prim.Native.Nat.{ℕ, ◌<◌}
use mathlib.Core.Path.{◌≡◌}
use mathlib.Core.Bool.{Bool, true, ◌&&◌, cond}
use mathlib.Core.List.{List, [], ◌∷◌}
use lib.Dec.{ltb}
use lib.ListN.{length, get_or}
use Rattle.airy_math.specs.Keys.{Key, euler, before}
use Rattle.airy_math.specs.Shapes.{covers}
use Rattle.airy_math.specs.Cuts.{letter_of}
use Rattle.amp_plan.specs.Plans.{Planning, rank_at}
use Rattle.amp_plan.specs.declared.place.Place.{Place}
use Rattle.amp_plan.specs.declared.place.Place.TheVariants.{At, Zero, Beyond, BadIndex}

unfoldable pub are_below : ℕ → List ℕ → Bool
are_below dim [] = true
are_below dim (i ∷ is) = ltb i dim && are_below dim is

-- Beyond the bound; else 0 by the shape; else with an index that isn't below dim; else at its rank
unfoldable pub place_in : Planning → Key → Place
place_in p key =
    cond (ltb p.bound (euler key.g (length key.idx))) Beyond
    (cond (covers p.tensors.shape key) (cond (are_below p.tensors.dim key.idx) (At (rank_at p key)) BadIndex) Zero)

-- the power of the letter at a key, 0 where the tensors carry none
unfoldable pub letter_power : Planning → Key → ℕ
letter_power p key = cond p.tensors.letter (letter_of p.tensors.shape key) 0

-- each key is before all later ones
abbrev pub AreInOrder : List Key → Type 0
AreInOrder keys = (d : Key) (r s : ℕ) → r < s → s < length keys → before (get_or keys r d) (get_or keys s d) ≡ true
