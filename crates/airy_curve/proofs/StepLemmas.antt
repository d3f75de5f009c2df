-- The steps for the numbers of a curve, one at a time.
use Rattle.std.proofs.Common.{◌≡◌, ℕ, zero, suc, ◌+◌, ◌-◌, ◌<◌, ◌≤◌, ◌⊎◌, inl, inr, List, [], ◌∷◌, get_or, replicate, length, refl, sym, ap, ap₂, ◌∙◌, arith}
use Rattle.std.specs.Prelude.{Option, Some, None, set}
use Rattle.std.proofs.lemmas.Bool.{cases_eq, cases_lt}
use Rattle.std.proofs.lemmas.List.{length-set, length-replicate, get_or-set_same, get_or-set_other, get_or_read, get_or_past}
use Rattle.airy_math.specs.Rational.{ℚ, ◌+ℚ◌, ◌*ℚ◌, neg_ℚ}
use Rattle.airy_math.specs.RationalLaws.{0ℚ, 1ℚ, +ℚ_assoc, 0ℚ_idl}
use Rattle.airy_math.specs.Obtained.{obtained_from, obtained_sum, obtained_product, both_obtained}
use Rattle.airy_math.proofs.ObtainedLaw.{sum_exact, product_exact, none_stays, self_exact}
use Rattle.airy_math.proofs.SumLemmas.{0ℚ_idr}
use Rattle.airy_math.specs.Curves.{paired, numbers_down, first_or_zero, number_of, of_list}
use Rattle.airy_curve.specs.Numbers.{held, downwards, Holds, Begins}
use Rattle.airy_curve.specs.Steps.{obtained_products, negative, next_number, unless_obtained, or_else, first_answer, number_refusal, entry_refusal, tensors_refusal}
use Rattle.airy_curve.specs.Storing.{Names}
use Rattle.airy_curve.specs.declared.making.CurveErr.{CurveErr}
use Rattle.airy_curve.specs.declared.making.CurveErr.TheVariants.{Over, NoMemory}

-- ---- the first answer

pub first_none : (f : ℕ → Option ℕ) (a n : ℕ) → ((x : ℕ) → a ≤ x → x < a + n → f x ≡ None) → first_answer a n f ≡ None
unfolding first_answer or_else
first_none f a zero h = refl
first_none f a (suc n) h = rw (h a (omega arith) (omega arith)) (first_none f (suc a) n (λ x p q. h x (omega arith) (omega arith)))

pub first_is : (f : ℕ → Option ℕ) (a n i k : ℕ) → a ≤ i → i < a + n → ((x : ℕ) → a ≤ x → x < i → f x ≡ None) → f i ≡ Some k → first_answer a n f ≡ Some k
unfolding first_answer or_else
first_is f a zero i k p q h s = absurd (omega arith)
first_is f a (suc n) i k p q h s = elim (cases_eq a i) [
  | inl e ↦ let here : f a ≡ Some k = ap f e ∙ s in rw here refl
  | inr e ↦ rw (h a (omega arith) (omega (arith, e))) (first_is f (suc a) n i k (omega (arith, e)) (omega arith) (λ x l m. h x (omega arith) m) s)
]

-- None before a, and at a
pub fine_next : (f : ℕ → Option ℕ) (b a : ℕ) → ((x : ℕ) → b ≤ x → x < a → f x ≡ None) → f a ≡ None → (x : ℕ) → b ≤ x → x < a + 1 → f x ≡ None
fine_next f b a h n x p q = elim (cases_eq x a) [
  | inl e ↦ ap f e ∙ n
  | inr e ↦ h x p (omega (arith, e))
]

-- an error that names what the first steps name, names what all steps name
names_first : (err : CurveErr) (o later : Option ℕ) → Names err o → Names err (or_else o later)
unfolding Names or_else
names_first (Over k) (Some n) later e = e
names_first (Over k) None later e = cc
names_first NoMemory o later e = tt

pub names_entry : (err : CurveErr) (f : ℕ → ℚ) (dim most : ℕ) → Names err (entry_refusal f dim most) → Names err (tensors_refusal f dim most)
unfolding tensors_refusal
names_entry err f dim most h = names_first err (entry_refusal f dim most) _ h

-- ---- the sum of c_k

-- what is left to add when a sum comes to l
abbrev pub rest : (ℕ → ℚ) → (ℕ → ℚ) → ℕ → ℕ → List (Option ℚ)
rest u c k l = obtained_products u l (downwards c (k + 1 - l))

module _ (u c : ℕ → ℚ) where
  rest-next : (k l : ℕ) → l ≤ k → rest u c k l ≡ obtained_product (u l) (c (k - l)) ∷ rest u c k (l + 1)
  unfolding obtained_products downwards
  rest-next k l h = ap (λ m. obtained_products u l (downwards c m)) more ∙ ap₂ (λ m n. obtained_product (u l) (c (k - l)) ∷ obtained_products u m (downwards c n)) next same
    where
      more : k + 1 - l ≡ suc (k - l)
      more = omega arith

      same : k - l ≡ k + 1 - (l + 1)
      same = omega arith

      next : suc l ≡ l + 1
      next = omega arith

  pub sum_goes : (k l : ℕ) (s p s' : ℚ) → l ≤ k → obtained_product (u l) (c (k - l)) ≡ Some p → obtained_sum s p ≡ Some s' → obtained_from (Some s) (rest u c k l) ≡ obtained_from (Some s') (rest u c k (l + 1))
  unfolding obtained_from both_obtained
  sum_goes k l s p s' h product sum =
      ap (obtained_from (Some s)) (rest-next k l h ∙ ap (λ o. o ∷ rest u c k (l + 1)) product) ∙ ap (λ o. obtained_from o (rest u c k (l + 1))) sum

  pub product_stops : (k l : ℕ) (s : ℚ) → l ≤ k → obtained_product (u l) (c (k - l)) ≡ None → obtained_from (Some s) (rest u c k l) ≡ None
  unfolding obtained_from both_obtained
  product_stops k l s h product =
      ap (obtained_from (Some s)) (rest-next k l h ∙ ap (λ o. o ∷ rest u c k (l + 1)) product) ∙ none_stays (rest u c k (l + 1))

  pub sum_stops : (k l : ℕ) (s p : ℚ) → l ≤ k → obtained_product (u l) (c (k - l)) ≡ Some p → obtained_sum s p ≡ None → obtained_from (Some s) (rest u c k l) ≡ None
  unfolding obtained_from both_obtained
  sum_stops k l s p h product sum =
      ap (obtained_from (Some s)) (rest-next k l h ∙ ap (λ o. o ∷ rest u c k (l + 1)) product) ∙ ap (λ o. obtained_from o (rest u c k (l + 1))) sum ∙ none_stays (rest u c k (l + 1))

  pub rest-none : (k l : ℕ) → k < l → rest u c k l ≡ []
  unfolding obtained_products downwards
  rest-none k l h = ap (λ m. obtained_products u l (downwards c m)) none ∙ empty
    where
      none : k + 1 - l ≡ 0
      none = omega arith

      empty : obtained_products u l (downwards c 0) ≡ []
      empty = refl

  pub rest-all : (k : ℕ) → rest u c k 1 ≡ obtained_products u 1 (downwards c k)
  rest-all k = ap (λ m. obtained_products u 1 (downwards c m)) all
    where
      all : k + 1 - 1 ≡ k
      all = omega arith

-- ---- what is obtained is exact

none-some : (w : ℚ) → ◌≡◌ {A = Option ℚ} None (Some w) → ⊥
none-some w e = cc

module _ (u : ℕ → ℚ) where
  from-exact : (xs : List ℚ) (l : ℕ) (s w : ℚ) → obtained_from (Some s) (obtained_products u l xs) ≡ Some w → w ≡ s +ℚ paired u l xs
  unfolding obtained_from obtained_products paired both_obtained
  from-exact [] l s w e = self_exact s w e ∙ sym (0ℚ_idr s)
  from-exact (x ∷ xs) l s w e = by (λ z. from-exact xs (suc l) z w) (obtained_product (u l) x) refl e
    where
      ts : List (Option ℚ)
      ts = obtained_products u (suc l) xs

      Rest : Type 0
      Rest = (z : ℚ) → obtained_from (Some z) ts ≡ Some w → w ≡ z +ℚ paired u (suc l) xs

      more : Rest → (y : ℚ) → y ≡ u l *ℚ x → (t : Option ℚ) → obtained_sum s y ≡ t → obtained_from t ts ≡ Some w → w ≡ s +ℚ (u l *ℚ x +ℚ paired u (suc l) xs)
      more r y is None q h = absurd (none-some w (sym (none_stays ts) ∙ h))
      more r y is (Some z) q h = r z h ∙ ap (λ t. t +ℚ paired u (suc l) xs) (sum_exact s y z q ∙ ap (λ t. s +ℚ t) is) ∙ +ℚ_assoc _ _ _

      by : Rest → (o : Option ℚ) → obtained_product (u l) x ≡ o → obtained_from (both_obtained obtained_sum (Some s) o) ts ≡ Some w → w ≡ s +ℚ (u l *ℚ x +ℚ paired u (suc l) xs)
      by r None q h = absurd (none-some w (sym (none_stays ts) ∙ h))
      by r (Some y) q h = more r y (product_exact (u l) x y q) (obtained_sum s y) refl h

  pub next-exact : (xs : List ℚ) (w : ℚ) → next_number u xs ≡ Some w → w ≡ neg_ℚ (paired u 1 xs)
  unfolding next_number negative
  next-exact xs w e = by (obtained_from (Some 0ℚ) (obtained_products u 1 xs)) refl e
    where
      by : (o : Option ℚ) → obtained_from (Some 0ℚ) (obtained_products u 1 xs) ≡ o → negative o ≡ Some w → w ≡ neg_ℚ (paired u 1 xs)
      by None q h = absurd (none-some w h)
      by (Some y) q h = self_exact (neg_ℚ y) w h ∙ ap neg_ℚ (from-exact xs 1 0ℚ y q ∙ 0ℚ_idl _)

  -- c_k, where it is obtained of the numbers before it
  pub number-exact : (k : ℕ) (w : ℚ) → 0 < k → next_number u (numbers_down u (k - 1)) ≡ Some w → w ≡ number_of u k
  unfolding number_of numbers_down first_or_zero
  number-exact zero w h e = absurd (omega arith)
  number-exact (suc k) w h e = next-exact (numbers_down u k) w (ap (λ n. next_number u (numbers_down u n)) (sym less) ∙ e)
    where
      less : suc k - 1 ≡ k
      less = omega arith

  pub number_first : number_of u 0 ≡ 1ℚ
  unfolding number_of numbers_down first_or_zero
  number_first = refl

  -- the numbers before c_k, as the array holds them
  pub before-held : (k : ℕ) (cs : List ℚ) → 0 < k → Holds (number_of u) k cs → downwards (held cs) k ≡ numbers_down u (k - 1)
  unfolding downwards numbers_down number_of first_or_zero
  before-held zero cs h holds = absurd (omega arith)
  before-held (suc k) cs h holds = all k (λ m p. holds.at m (omega arith)) ∙ ap (numbers_down u) less
    where
      less : k ≡ suc k - 1
      less = omega arith

      all : (k : ℕ) → ((m : ℕ) → m ≤ k → held cs m ≡ number_of u m) → downwards (held cs) (suc k) ≡ numbers_down u k
      all zero at = ap (λ x. x ∷ []) (at 0 (omega arith))
      all (suc k) at = ap₂ ◌∷◌ (at (suc k) (omega arith)) (all k (λ m p. at m (omega arith)))

-- the products read u only at the places of the list
pub products-agree : (u v : ℕ → ℚ) (xs : List ℚ) (l : ℕ) → ((m : ℕ) → l ≤ m → m < l + length xs → u m ≡ v m) → obtained_products u l xs ≡ obtained_products v l xs
unfolding obtained_products
products-agree u v [] l at = refl
products-agree u v (x ∷ xs) l at = ap₂ ◌∷◌ (ap (λ t. obtained_product t x) (at l (omega arith) (omega arith))) (products-agree u v xs (suc l) (λ m p q. at m (omega arith) (omega arith)))

-- so does c_k at the places up to k
pub next-agree : (u v c : ℕ → ℚ) (k : ℕ) → ((m : ℕ) → m ≤ k → u m ≡ v m) → next_number u (downwards c k) ≡ next_number v (downwards c k)
unfolding next_number downwards
next-agree u v c k at = ap (λ ts. negative (obtained_from (Some 0ℚ) ts)) (products-agree u v (downwards c k) 1 (λ m p q. at m (omega (arith, long k))))
  where
    long : (k : ℕ) → length (downwards c k) ≡ k
    long zero = refl
    long (suc k) = ap suc (long k)

-- ---- arrays

-- what is read of an array
pub held-read : (xs : List ℚ) (k : ℕ) (x : ℚ) → k < length xs → x ≡ get_or xs k x → held xs k ≡ x
unfolding held
held-read xs k x h is = sym (get_or_read xs k x h is 0ℚ)

-- the array with one number more
pub holds-next : (f : ℕ → ℚ) (n : ℕ) (xs : List ℚ) (x : ℚ) → n < 73 → Holds f n xs → x ≡ f n → Holds f (n + 1) (set xs n x)
unfolding held
holds-next f n xs x h holds e = record {
  places = length-set xs n x ∙ holds.places;
  at = λ k p. by k (cases_eq k n) p;
}
  where
    by : (k : ℕ) → (k ≡ n) ⊎ (k ≡ n → ⊥) → k < n + 1 → get_or (set xs n x) k 0ℚ ≡ f k
    by k (inl same) p = ap (λ m. get_or (set xs n x) m 0ℚ) same ∙ get_or-set_same xs n x 0ℚ (omega (arith, holds.places)) ∙ e ∙ ap f (sym same)
    by k (inr other) p = get_or-set_other xs n k x 0ℚ other ∙ holds.at k (omega arith)

-- an array that begins with x
pub holds-start : (f : ℕ → ℚ) (x : ℚ) → x ≡ f 0 → Holds f 1 (replicate 73 x)
unfolding held
holds-start f x e = record {
  places = length-replicate 73 x;
  at = λ k p. ap (λ m. get_or (replicate 73 x) m 0ℚ) (none k p) ∙ e ∙ ap f (sym (none k p));
}
  where
    none : (k : ℕ) → k < 1 → k ≡ 0
    none k p = omega arith

-- ---- the sequence of a list

pub begins-start : (list : List ℚ) (zero' one : ℚ) → zero' ≡ 0ℚ → one ≡ 1ℚ → Begins list 0 (set (replicate 73 zero') 0 one)
unfolding held
begins-start list zero' one e e' = record {
  places = long;
  first = get_or-set_same (replicate 73 zero') 0 one 0ℚ (omega (arith, length-replicate 73 zero')) ∙ e';
  numbers = λ k p. absurd (omega arith);
  others = λ k p. get_or-set_other (replicate 73 zero') 0 (suc k) one 0ℚ (λ z. omega arith) ∙ zeros 73 (suc k);
}
  where
    long : length (set (replicate 73 zero') 0 one) ≡ 73
    long = length-set (replicate 73 zero') 0 one ∙ length-replicate 73 zero'

    zeros : (n k : ℕ) → get_or (replicate n zero') k 0ℚ ≡ 0ℚ
    zeros zero k = refl
    zeros (suc n) zero = e
    zeros (suc n) (suc k) = zeros n k

pub begins-next : (list : List ℚ) (n : ℕ) (xs : List ℚ) (x : ℚ) → n < 24 → n < length list → x ≡ get_or list n x → Begins list n xs → Begins list (n + 1) (set xs (n + 1) x)
unfolding held
begins-next list n xs x h p is begins = record {
  places = length-set xs (n + 1) x ∙ begins.places;
  first = get_or-set_other xs (n + 1) 0 x 0ℚ (λ z. omega arith) ∙ begins.first;
  numbers = λ k q. by k (cases_eq k n) q;
  others = λ k q. get_or-set_other xs (n + 1) (suc k) x 0ℚ (λ z. omega arith) ∙ begins.others k (omega arith);
}
  where
    by : (k : ℕ) → (k ≡ n) ⊎ (k ≡ n → ⊥) → k < n + 1 → get_or (set xs (n + 1) x) (suc k) 0ℚ ≡ get_or list k 0ℚ
    by k (inl same) q = ap (get_or′ (set xs (n + 1) x)) place ∙ get_or-set_same xs (n + 1) x 0ℚ (omega (arith, begins.places)) ∙ get_or_read list n x p is 0ℚ ∙ ap (λ m. get_or list m 0ℚ) (sym same)
      where
        get_or′ : List ℚ → ℕ → ℚ
        get_or′ ys m = get_or ys m 0ℚ

        place : suc k ≡ n + 1
        place = omega arith
    by k (inr other) q = get_or-set_other xs (n + 1) (suc k) x 0ℚ (λ z. other (omega arith)) ∙ begins.numbers k (omega arith)

pub begins-all : (list xs : List ℚ) (n : ℕ) → length list ≤ n → Begins list n xs → held xs ≡ of_list list
unfolding of_list
begins-all list xs n h begins = λ i k. by k i
  where
    by : (k : ℕ) → held xs k ≡ of_list list k
    by zero = begins.first
    by (suc k) = at (cases_lt k n)
      where
        at : (k < n) ⊎ (n ≤ k) → held xs (suc k) ≡ get_or list k 0ℚ
        at (inl p) = begins.numbers k p
        at (inr p) = begins.others k p ∙ sym (get_or_past list k 0ℚ (omega arith))

-- ---- what is named

pub number_fine : (u : ℕ → ℚ) (k : ℕ) (x : ℚ) → next_number u (numbers_down u (k - 1)) ≡ Some x → number_refusal u k ≡ None
unfolding number_refusal unless_obtained
number_fine u k x e = rw e refl

pub number_refused : (u : ℕ → ℚ) (k : ℕ) → next_number u (numbers_down u (k - 1)) ≡ None → number_refusal u k ≡ Some k
unfolding number_refusal unless_obtained
number_refused u k e = rw e refl
