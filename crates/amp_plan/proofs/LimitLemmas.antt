-- The limits, and the Euler number of the key at which there are too many.
use Rattle.std.proofs.Common.{◌≡◌, ℕ, zero, suc, ◌+◌, ◌*◌, ◌-◌, ◌/◌, ◌<◌, ◌≤◌, Bool, true, false, ◌&&◌, List, [], ◌∷◌, ◌++◌, length, map, get_or, refl, sym, ◌∙◌, ap, subst, arith, ltb, leb, ltb-true, cond, Option, Some, None}
use Rattle.amp_plan.proofs.Words.{and_parts, Key, key_of, euler, covers, each, count_from, Tensors, planned, lists_from, no_key, Each, Each-each, Each-below, Each-map, Each-weaken, IsListed, Each-keep, Planning, tensors_of, keys_of, PassesBound, PassesCells, PassesNeeds, limit, limit_of, level_at, need_counts, first_past, keys_at, level_keys}
use Rattle.airy_math.specs.Sums.{below}
use Rattle.airy_math.specs.Ranks.{key_at}
use Rattle.airy_math.proofs.PlannedLaw.{listed, level}
use Rattle.amp_plan.specs.Limits.{Within, past}
use Rattle.index_lists.proofs.LevelLemmas.{each-next}

-- ---- a key's place among the levels

in_part : {A : Type 0} (P : A → Type 0) (d : A) (xs ys zs : List A) (r : ℕ) → Each P ys → length xs ≤ r → r < length xs + length ys → P (get_or (xs ++ (ys ++ zs)) r d)
in_part P d [] [] zs r h p q = absurd (omega arith)
in_part P d [] (y ∷ ys) zs zero h p q = h.0
in_part P d [] (y ∷ ys) zs (suc r) h p q = in_part P d [] ys zs r h.1 (omega arith) (omega arith)
in_part P d (x ∷ xs) ys zs zero h p q = absurd (omega arith)
in_part P d (x ∷ xs) ys zs (suc r) h p q = in_part P d xs ys zs r h (omega arith) (omega arith)

pub level_keys-level : (T : Tensors) (e : ℕ) → Each (λ key. euler key.g (length key.idx) ≡ e) (level_keys T e)
unfolding level_keys keys_at key_of
level_keys-level T e =
    Each-each (λ key. euler key.g (length key.idx) ≡ e) _ (below (suc (e / 2 + 1))) (Each-below _ (suc (e / 2 + 1)) (λ g r.
    Each-keep (λ key. euler key.g (length key.idx) ≡ e) _ (map (key_of g) (lists_from (e + 2 - 2 * g) 0 T.dim)) (Each-map _ (key_of g) (lists_from (e + 2 - 2 * g) 0 T.dim) (Each-weaken (IsListed (e + 2 - 2 * g) 0 T.dim) _ (lists_from (e + 2 - 2 * g) 0 T.dim)
    (λ l i t. level e g (length l) i.long (ltb-true 0 (length l) (and_parts (ltb 0 (length l)) (covers T.shape (key_of g l)) t).0)) (listed (e + 2 - 2 * g) T.dim 0 T.dim (omega arith))))))

pub level_there : (T : Tensors) (e b r : ℕ) (keys all : List Key) → e < b → keys ++ each (count_from e (b - e)) (level_keys T) ≡ all → length keys ≤ r → r < length keys + length (level_keys T e) → level_at all r ≡ e
unfolding level_at key_at
level_there T e b r keys all h i p q =
    subst (λ l. (let key = get_or l r no_key in euler key.g (length key.idx)) ≡ e) (ap (λ l. keys ++ l) (sym (each-next (level_keys T) e b h)) ∙ i)
    (in_part (λ key. euler key.g (length key.idx) ≡ e) no_key keys (level_keys T e) (each (count_from (e + 1) (b - (e + 1))) (level_keys T)) r (level_keys-level T e) p q)

-- ---- limits

pub limit-bound : (p : Planning) → (leb 1 p.bound && leb p.bound 24) ≡ false → limit_of p ≡ PassesBound
unfolding limit_of limit
limit-bound p e = rw e refl

pub range_fact : (X : ℕ) → 0 < X → X ≤ 24 → (leb 1 X && leb X 24) ≡ true
range_fact X p q = grind arith

limit-small : (p : Planning) → 0 < p.bound → p.bound ≤ 24 → length (keys_of p) ≤ 200000 → limit_of p ≡ past (keys_of p) (first_past 4000000 (need_counts (tensors_of p) p.bound))
unfolding limit_of limit keys_of
limit-small p h q few =
    let e = range_fact p.bound h q in
    let f : leb (length (planned (tensors_of p) p.bound)) 200000 ≡ true = grind arith in
    rw (e, f) refl

pub limit-within : (p : Planning) → 0 < p.bound → p.bound ≤ 24 → length (keys_of p) ≤ 200000 → first_past 4000000 (need_counts (tensors_of p) p.bound) ≡ None → limit_of p ≡ Within
unfolding past
limit-within p h q few e = limit-small p h q few ∙ ap (past (keys_of p)) e

pub limit-needs : (p : Planning) (r : ℕ) → 0 < p.bound → p.bound ≤ 24 → length (keys_of p) ≤ 200000 → first_past 4000000 (need_counts (tensors_of p) p.bound) ≡ Some r → limit_of p ≡ PassesNeeds (key_at (keys_of p) r)
unfolding past
limit-needs p r h q few e = limit-small p h q few ∙ ap (past (keys_of p)) e

pub limit-cells : (p : Planning) (e : ℕ) → 0 < p.bound → p.bound ≤ 24 → 200000 < length (keys_of p) → level_at (keys_of p) 200000 ≡ e → limit_of p ≡ PassesCells e
unfolding limit_of limit keys_of
limit-cells p e h q many l = let r = range_fact p.bound h q in let f : leb (length (planned (tensors_of p) p.bound)) 200000 ≡ false = grind arith in rw (r, f) (ap PassesCells l)

pub limit-memory : (p : Planning) → 0 < p.bound → p.bound ≤ 24 → limit_of p ≡ PassesBound → ⊥
unfolding limit_of limit past
limit-memory p h q e =
    by (leb (length (planned (tensors_of p) p.bound)) 200000) (first_past 4000000 (need_counts (tensors_of p) p.bound))
    (sym (ap (λ b. cond b (cond (leb (length (planned (tensors_of p) p.bound)) 200000) (past (planned (tensors_of p) p.bound) (first_past 4000000 (need_counts (tensors_of p) p.bound))) (PassesCells (level_at (planned (tensors_of p) p.bound) 200000))) PassesBound) (range_fact p.bound h q)) ∙ e)
  where
    by : (t : Bool) (o : Option ℕ) → cond t (past (planned (tensors_of p) p.bound) o) (PassesCells (level_at (planned (tensors_of p) p.bound) 200000)) ≡ PassesBound → ⊥
    by true None e = cc
    by true (Some r) e = cc
    by false o e = cc
