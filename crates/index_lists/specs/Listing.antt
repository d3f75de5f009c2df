-- The planned keys part by part: of one Euler number, of one genus, and behind the first indices.
use Rattle.std.specs.Prelude.{ℕ, suc, ◌+◌, ◌*◌, ◌-◌, ◌/◌, Bool, ◌&&◌, List, ◌++◌, length, map}
use lib.Dec.{ltb, leb}
use Rattle.airy_math.specs.Keys.{Key, key_of, total}
use Rattle.airy_math.specs.Shapes.{covers}
use Rattle.airy_math.specs.Sums.{below, each, keep}
use Rattle.airy_math.specs.Tensors.{Tensors}
use Rattle.airy_math.specs.Planned.{lists_from}
use Rattle.index_lists.specs.declared.window.Window.{Window}
use Rattle.index_lists.specs.declared.listing.Listing.{Listing}

-- whether the sum is one of the window's
unfoldable pub is_in : Window → ℕ → Bool
is_in w s = leb w.low s && leb s w.high

-- the lists whose sum, with s more, is one of the window's
unfoldable pub reaching : Window → ℕ → List (List ℕ) → List (List ℕ)
reaching w s ls = keep (λ l. is_in w (s + total l)) ls

-- the keys of the genus whose indices are the prefix and then one of the lists
unfoldable pub keys_behind : ℕ → List ℕ → List (List ℕ) → List Key
keys_behind g prefix ls = map (λ l. key_of g (prefix ++ l)) ls

-- the keys that a listing has behind the prefix, whose sum is s: with n more indices, each at least k
unfoldable pub found : Listing → List ℕ → ℕ → ℕ → ℕ → List Key
found l prefix n k s = keys_behind l.genus prefix (reaching l.window s (lists_from n k (l.dim - k)))

-- the planned keys of an Euler number and a genus
unfoldable pub keys_at : Tensors → ℕ → ℕ → List Key
keys_at T e g = keep (λ key. ltb 0 (length key.idx) && covers T.shape key) (map (key_of g) (lists_from (e + 2 - 2 * g) 0 T.dim))

-- the planned keys of an Euler number
unfoldable pub level_keys : Tensors → ℕ → List Key
level_keys T e = each (below (suc (e / 2 + 1))) (keys_at T e)

-- whether n more indices, each at least k, may bring the sum s to one of the window's
unfoldable pub can_reach : Listing → ℕ → ℕ → ℕ → Bool
can_reach l s n k = leb (s + n * k) l.window.high && leb l.window.low (s + n * (l.dim - 1))
