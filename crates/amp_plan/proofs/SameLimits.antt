-- Tensors with the same entries below dim have plans with the same limits.
use Rattle.std.proofs.Common.{◌≡◌, ℕ, ◌<◌, refl, sym, ap, ◌∙◌, arith, List, length, map, cond, ◌&&◌, leb}
use Rattle.amp_plan.proofs.Words.{Key, count_from, keep, Tensors, needs, planned, IsPlanned, place_of, PlanLaw, has, named_ranks, needs_rank, needed, need_counts, first_past, PassesBound, PassesCells, limit, level_at}
use Rattle.airy_math.specs.Sums.{below}
use Rattle.airy_math.specs.Ranks.{key_at}
use Rattle.airy_math.specs.BelowDim.{SameBelowDim, BelowDimLaw}
use Rattle.amp_plan.specs.Limits.{past}
use Rattle.amp_plan.specs.SameLimits.{SameLimitsLaw}
use Rattle.airy_math.proofs.KeyLemmas.{map-count_cong}

-- how many ranks the keys have, each counted once
count_of : List Key → List Key → ℕ
count_of plan named = length (keep (λ q. has q (map (λ key. place_of key plan) named)) (below (length plan)))

count_is : (T : Tensors) (X r : ℕ) → length (needed T X r) ≡ count_of (planned T X) (needs T (key_at (planned T X) r))
unfolding needed needs_rank named_ranks count_of
count_is T X r = refl

pub counts_same : (T T' : Tensors) (X : ℕ) → PlanLaw → SameBelowDim T T' → need_counts T X ≡ need_counts T' X
unfolding need_counts below
counts_same T T' X once same =
    map-count_cong (λ r. length (needed T X r)) (λ r. length (needed T' X r)) 0 (length (planned T X)) (λ r p q. one r (omega arith))
    ∙ ap (λ plan. map (λ r. length (needed T' X r)) (count_from 0 (length plan))) (same.plan X)
  where
    one : (r : ℕ) → r < length (planned T X) → length (needed T X r) ≡ length (needed T' X r)
    one r h =
        let p : IsPlanned T X (key_at (planned T X) r) = (once T X).only r h in
        count_is T X r
        ∙ ap (count_of (planned T X)) ((same.keys (key_at (planned T X) r) p.sorted).needs p.places)
        ∙ ap (λ plan. count_of plan (needs T' (key_at plan r))) (same.plan X)
        ∙ sym (count_is T' X r)

pub limit_same : (T T' : Tensors) (X : ℕ) → PlanLaw → SameBelowDim T T' → limit T X ≡ limit T' X
unfolding limit
limit_same T T' X once same =
    ap (λ plan. cond (leb 1 X && leb X 24) (cond (leb (length plan) 200000) (past plan (first_past 4000000 (need_counts T X))) (PassesCells (level_at plan 200000))) PassesBound) (same.plan X)
    ∙ ap (λ counts. cond (leb 1 X && leb X 24) (cond (leb (length (planned T' X)) 200000) (past (planned T' X) (first_past 4000000 counts)) (PassesCells (level_at (planned T' X) 200000))) PassesBound) (counts_same T T' X once same)

pub same_limits : PlanLaw → BelowDimLaw → SameLimitsLaw
same_limits once below T T' same X = limit_same T T' X once (below T T' same)
