-- Where a key stands in a plan is where it stands in the plan's tensors.
use mathlib.Core.Path.{◌≡◌}
use Rattle.sparse_tensor.specs.Entries.{looked_up}
use Rattle.amp_plan.specs.Plans.{rank_at}
use Rattle.amp_plan.proofs.PlaceLemmas.{rank_within}
use Rattle.amp_plan.specs.declared.place.Place.TheVariants as place
use Rattle.ask_seats.proofs.Names.{ℕ, ◌<◌, true, false, refl, sym, ap, ◌∙◌, subst, ListsPlanned, Key, IsKey, euler_of, Planning, tensors_of, keys_of, Place, place_in, place_at, is_rank, cells}

pub same_place : (p : Planning) (key : Key) → place_in p key ≡ place_at (tensors_of p) p.bound key
unfolding place_in place_at euler_of keys_of tensors_of looked_up rank_at
same_place p key = refl

pub one_rank : (a b : ℕ) → place.At a ≡ place.At b → a ≡ b
one_rank a b e = cc

-- a key at a rank is at one
pub no_idle : (x : Place) (r : ℕ) → x ≡ place.At r → is_rank x ≡ false → ⊥
unfolding is_rank
no_idle x r e f = let clash : true ≡ false = sym (ap is_rank e) ∙ f in cc

-- the rank that a plan finds is one of an equal plan
pub within : (p q : Planning) (key : Key) (r : ℕ) → q ≡ p → ListsPlanned (tensors_of q) q.bound → IsKey key.g key.idx → place_in q key ≡ place.At r → r < cells p
within p q key r e lists k at = subst (λ s. r < cells s) e (rank_within q key r lists k at)
