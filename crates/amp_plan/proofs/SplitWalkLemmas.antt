-- The two lists of a split make keys in their genera.
use Rattle.std.proofs.Common.{◌≡◌, ℕ, suc, ◌+◌, ◌^◌, ◌<◌, ◌≤◌, Bool, true, false, List, [], ◌∷◌, ◌++◌, length, map, get_or, refl, sym, ap, subst, arith, lit≤, nat_eq}
use Rattle.amp_plan.proofs.Words.{AllByRecursion, pow-le-pow_right, times, total, IsSortedFrom, Split, splits, Tensors, AllBelow, ascending, splits_law, HasRoom, IsPartOf}
use Rattle.airy_math.specs.Keys.{more}
use Rattle.airy_math.proofs.PlannedLaw.{small}
use Rattle.airy_index.specs.SplitLaw.{IsSplitOf}
use Rattle.airy_math.proofs.PlanLemmas.{sorted_small}
use Rattle.airy_index.proofs.SplitLaw.{times-first}

-- the elements are bytes
pub sorted_bytes : (k m : ℕ) (xs : List ℕ) → IsSortedFrom k m xs → ((i : ℕ) → get_or xs i 0 < 256) → IsSortedFrom k 256 xs
unfolding IsSortedFrom
sorted_bytes k m [] s b = tt
sorted_bytes k m (x ∷ xs) s b = (s.0, b 0, sorted_bytes x m xs s.2 (λ i. b (suc i)))

stands_below : (a m : ℕ) (xs : List ℕ) → AllBelow m xs → 0 < times a xs → a < m
unfolding times
stands_below a m [] h p = absurd (omega arith)
stands_below a m (x ∷ xs) h p = by (nat_eq a x) refl p (stands_below a m xs h.1)
  where
    by : (t : Bool) → nat_eq a x ≡ t → 0 < more t (times a xs) → (0 < times a xs → a < m) → a < m
    by true e p r = let s : a ≡ x = grind arith in omega (arith, s, h.0)
    by false e p r = r p

times-tail : (a x : ℕ) (xs : List ℕ) → times a xs ≤ times a (x ∷ xs)
unfolding times
times-tail a x xs = by (nat_eq a x)
  where
    by : (t : Bool) → times a xs ≤ more t (times a xs)
    by true = omega arith
    by false = omega arith

below_by_times : (m : ℕ) (ys xs : List ℕ) → ((a : ℕ) → times a ys ≤ times a xs) → AllBelow m xs → AllBelow m ys
below_by_times m [] xs h b = tt
below_by_times m (y ∷ ys) xs h b =
    (stands_below y m xs b (omega (arith, h y, times-first y ys)), below_by_times m ys xs (λ a. omega (arith, h a, times-tail a y ys)) b)

all_at : {A : Type 0} (P : A → Type 0) (xs ys : List A) (x : A) → AllByRecursion P (xs ++ x ∷ ys) → P x
all_at P [] ys x h = h.0
all_at P (z ∷ xs) ys x h = all_at P xs ys x h.1

pub total_at : {A : Type 0} (f : A → ℕ) (xs ys : List A) (x : A) → f x ≤ total (map f (xs ++ x ∷ ys))
unfolding total
total_at f [] ys x = omega arith
total_at f (z ∷ xs) ys x = omega (arith, total_at f xs ys x)

part_below : (m : ℕ) (I part rest : List ℕ) → ((a : ℕ) → times a part + times a rest ≡ times a I) → IsSortedFrom 0 m I → IsSortedFrom 0 256 part → IsSortedFrom 0 m part
part_below m I part rest h s p = sorted_small 0 m part (ascending 0 256 part p) (below_by_times m part I (λ a. omega (arith, h a)) (small 0 m I s))

rest_below : (m : ℕ) (I part rest : List ℕ) → ((a : ℕ) → times a part + times a rest ≡ times a I) → IsSortedFrom 0 m I → IsSortedFrom 0 256 rest → IsSortedFrom 0 m rest
rest_below m I part rest h s p = sorted_small 0 m rest (ascending 0 256 rest p) (below_by_times m rest I (λ a. omega (arith, h a)) (small 0 m I s))

few_ways : (n w : ℕ) → n ≤ 25 → w ≤ 2 ^ n → w < 2 ^ 63
few_ways n w h l =
    let p : 2 ^ n ≤ 2 ^ 25 = pow-le-pow_right (lit≤ tt) h in
    omega (arith, p, l)

-- a split of the list that is left of a planned key
pub part_of : (T : Tensors) (X g k : ℕ) (I : List ℕ) (before after : List Split) (s : Split) → HasRoom T X g I → length I ≤ 25 → IsSortedFrom 0 256 I → k ≤ g → before ++ s ∷ after ≡ splits I → IsPartOf T X g k s
part_of T X g k I before after s room few bytes le e =
    let is : IsSplitOf I s = all_at (IsSplitOf I) before after s (subst (AllByRecursion (IsSplitOf I)) (sym e) (splits_law.each I bytes)) in
    record {
      part = record { sorted = part_below T.dim I s.part s.rest is.times room.sorted is.part_sorted; level = omega (arith, room.level, is.lengths) };
      rest = record { sorted = rest_below T.dim I s.part s.rest is.times room.sorted is.rest_sorted; level = omega (arith, room.level, is.lengths) };
      ways = few_ways (length I) s.ways few (omega (arith, total_at (λ s. s.ways) before after s, ap (λ l. total (map (λ s. s.ways) l)) e, splits_law.ways I));
    }
