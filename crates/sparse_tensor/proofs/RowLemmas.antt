-- Rows by one index and by two: a search in an ascending row, and one more entry.
use Rattle.std.proofs.Common.{◌≡◌, ℕ, true, false, ltb, eqb, List, length, arith, Result, Ok, Err, nat_cmp, Ordering}
use Rattle.std.specs.Ordering.{ordering_then}
use Rattle.std.specs.List.Sorted.{IsBinarySearchResult, IsSearchInRange}
use Rattle.std.proofs.lemmas.Bool.Decides.{nat_tests}
use Rattle.airy_math.specs.Rational.{ℚ}
use Rattle.airy_math.proofs.SumLemmas.{Each-weaken}
use Rattle.sparse_tensor.specs.Entries.{value_of, is_given, with_value}
use Rattle.sparse_tensor.specs.Grades.{IsAscendingByIndex}
use Rattle.sparse_tensor.specs.Rows.{pair_before, same_pair, pair_value, has_pair, with_pair, IsAscendingByPair, Finds, FindsPair}
use Rattle.sparse_tensor.proofs.ItemLemmas.{none-picked, ascends-put, IsOrder, rises-along, found, gap}

index_order : (k : ℕ) → IsOrder (λ (x y : ℕ × ℚ). ltb x.0 y.0) (λ e. eqb k e.0) (λ e. ltb k e.0) (λ e. nat_cmp e.0 k)
index_order k = record {
  trans = λ x y z p q. grind (arith, nat_tests);
  apart = λ x y p q. grind (arith, nat_tests);
  equal = λ x p. grind (arith, nat_tests);
  less = λ x p. (grind (arith, nat_tests), grind (arith, nat_tests));
  greater = λ x p. (grind (arith, nat_tests), grind (arith, nat_tests));
  rises = λ x y p. grind (arith, nat_tests);
}

pub finds : (k : ℕ) (es : List (ℕ × ℚ)) (r : Result ℕ ℕ) → IsAscendingByIndex es → IsSearchInRange r (length es) → IsBinarySearchResult (λ y. nat_cmp y.0 k) es r → Finds k es r
unfolding IsAscendingByIndex is_given value_of with_value
finds k es (Ok n) h l p = found _ _ _ _ (index_order k) (λ e. e.1) es n h l p
finds k es (Err n) h l p =
    let cut = p (λ n m d a b. rises-along _ _ _ _ (index_order k) es n m d h a b) in
    gap _ _ _ _ (index_order k) (λ e. e.1) (λ v. (k, v)) es n l (λ m d q. cut.0 m d (omega arith) q) cut.1

pub ascending-with_value : (k : ℕ) (v : ℚ) (es : List (ℕ × ℚ)) → IsAscendingByIndex es → is_given es k ≡ false → IsAscendingByIndex (with_value k v es)
unfolding IsAscendingByIndex is_given with_value
ascending-with_value k v es h n =
    ascends-put (λ x y. ltb x.0 y.0) (k, v) es (Each-weaken (λ e. eqb k e.0 ≡ false) _ es (λ e p q. grind (arith, nat_tests)) (none-picked (λ e. eqb k e.0) es n)) h

-- how the pair of an item stands to j and k
compared : ℕ → ℕ → (ℕ × ℕ × ℚ) → Ordering
compared j k x = ordering_then (nat_cmp x.0 j) (nat_cmp x.1 k)

pair_order : (j k : ℕ) → IsOrder (λ (x y : ℕ × ℕ × ℚ). pair_before x.0 x.1 y) (same_pair j k) (pair_before j k) (compared j k)
unfolding pair_before same_pair compared
pair_order j k = record {
  trans = λ x y z p q. grind (arith, nat_tests);
  apart = λ x y p q. grind (arith, nat_tests);
  equal = λ x p. grind (arith, nat_tests);
  less = λ x p. (grind (arith, nat_tests), grind (arith, nat_tests));
  greater = λ x p. (grind (arith, nat_tests), grind (arith, nat_tests));
  rises = λ x y p. grind (arith, nat_tests);
}

pub finds-pair : (j k : ℕ) (es : List (ℕ × ℕ × ℚ)) (r : Result ℕ ℕ) → IsAscendingByPair es → IsSearchInRange r (length es) → IsBinarySearchResult (λ y. ordering_then (nat_cmp y.0 j) (nat_cmp y.1 k)) es r → FindsPair j k es r
unfolding IsAscendingByPair has_pair pair_value with_pair compared
finds-pair j k es (Ok n) h l p = found _ _ _ _ (pair_order j k) (λ e. e.2) es n h l p
finds-pair j k es (Err n) h l p =
    let cut = p (λ n m d a b. rises-along _ _ _ _ (pair_order j k) es n m d h a b) in
    gap _ _ _ _ (pair_order j k) (λ e. e.2) (λ v. (j, k, v)) es n l (λ m d q. cut.0 m d (omega arith) q) cut.1

pairs-total : (j k : ℕ) (x : ℕ × ℕ × ℚ) (v : ℚ) → same_pair j k x ≡ false → pair_before j k x ≡ false → pair_before x.0 x.1 (j, k, v) ≡ true
unfolding pair_before same_pair
pairs-total j k x v p q = grind (arith, nat_tests)

pub ascending-with_pair : (j k : ℕ) (v : ℚ) (es : List (ℕ × ℕ × ℚ)) → IsAscendingByPair es → has_pair es j k ≡ false → IsAscendingByPair (with_pair j k v es)
unfolding IsAscendingByPair has_pair with_pair
ascending-with_pair j k v es h n =
    ascends-put (λ x y. pair_before x.0 x.1 y) (j, k, v) es (Each-weaken (λ e. same_pair j k e ≡ false) _ es (λ e. pairs-total j k e v) (none-picked (same_pair j k) es n)) h
