-- For private functions and for proofs: no public contract rests on this file.
-- The verdict on some of the places: those of one relation at which one index or more are given.
use Prim.Native.Nat.{ℕ, suc}
use Rattle.airy_math.specs.Sums.{below}
use Rattle.airy_math.specs.Tensors.{Tensors}
use Rattle.airy_relations.specs.Sides.{Rel}
use Rattle.airy_relations.specs.Places.{Place, choices_k, choices_l, from_to}
use Rattle.airy_relations.specs.Verdicts.{Verdict, verdict_at, first_over}

unfoldable pub place : Rel → ℕ → ℕ → ℕ → ℕ → Place
place rel i j k l = record { rel = rel; i = i; j = j; k = k; l = l }

unfoldable pub over_l : Tensors → ℕ → Rel → ℕ → ℕ → ℕ → Verdict
over_l T N rel i j k = first_over (below (choices_l rel N)) λ l. verdict_at T (place rel i j k l)

unfoldable pub over_k : Tensors → ℕ → Rel → ℕ → ℕ → Verdict
over_k T N rel i j = first_over (below (choices_k rel N)) λ k. over_l T N rel i j k

unfoldable pub over_j : Tensors → ℕ → Rel → ℕ → Verdict
over_j T N rel i = first_over (from_to (suc i) N) λ j. over_k T N rel i j

unfoldable pub over_i : Tensors → ℕ → Rel → Verdict
over_i T N rel = first_over (below N) λ i. over_j T N rel i
