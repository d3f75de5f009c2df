-- Cells that are read one after another.
use Rattle.std.proofs.Common.{◌≡◌, ℕ, zero, suc, ◌+◌, ◌<◌, ◌≤◌, List, [], ◌∷◌, ◌++◌, length, drop, get_or, Option, Some, None, option_map, refl, sym, ap, ap₂, ◌∙◌, subst, arith, cond, is_some, append_assoc, append-nil}
use Rattle.airy_json.proofs.Common.{ℚ, Key, no_key, Planning, keys_of, Kind, AreOfKind, IsPlanOf, cell_value, first_bad, cell_values, with_value, Gives, cells_answer, bound_answer, AreCells, JsonErr, ReadFault, TooLong, NotJson, Form, Bound, Make, Plan, Cell, NoMemory, drop_more, drop_all, Items, no_items, item, view, items_view, IsGiven, Refuses, IsBadCell}
use Rattle.serde_json.specs.declared.value.Value.{Value}
use Rattle.airy_json.specs.declared.refusals.JsonErr.TheVariants as json

-- The cells before place p are those of the keys there, with these values.
pub record ReadUpTo (keys : List Key) (vs : List Value) (p : ℕ) (values : List ℚ) : Type 0 where
  pub bad : first_bad keys (items_view vs) ≡ option_map (λ i. p + i) (first_bad (drop p keys) (items_view (drop p vs)))
  pub read : values ++ cell_values (drop p keys) (items_view (drop p vs)) ≡ cell_values keys (items_view vs)
  pub within : p ≤ length vs

same_option : (o : Option ℕ) → o ≡ option_map (λ i. 0 + i) o
same_option None = refl
same_option (Some i) = ap Some (omega arith)

one_more : (p : ℕ) (o : Option ℕ) → option_map (λ i. p + i) (option_map suc o) ≡ option_map (λ i. p + 1 + i) o
one_more p None = refl
one_more p (Some i) = ap Some (omega arith)

some_left : {A : Type 0} (xs : List A) (p : ℕ) → p < length xs → (x : A) × (rest : List A) × (drop p xs ≡ x ∷ rest)
some_left [] p h = let never : ⊥ = omega arith in absurd never
some_left (x ∷ xs) zero h = (x, xs, refl)
some_left (x ∷ xs) (suc p) h = some_left xs p (omega arith)

pub start : (keys : List Key) (vs : List Value) → ReadUpTo keys vs 0 []
start keys vs = record { bad = same_option (first_bad keys (items_view vs)); read = refl; within = omega arith }

module _ (keys : List Key) (vs : List Value) (p : ℕ) (values : List ℚ) (done : ReadUpTo keys vs p values) where
  bad-at : (o : Option ℕ) → first_bad (drop p keys) (items_view (drop p vs)) ≡ o → first_bad keys (items_view vs) ≡ option_map (λ i. p + i) o
  bad-at o e = done.bad ∙ ap (option_map (λ i. p + i)) e

  bad-here : first_bad (drop p keys) (items_view (drop p vs)) ≡ Some 0 → first_bad keys (items_view vs) ≡ Some p
  bad-here e = bad-at (Some 0) e ∙ ap Some (omega arith)

  -- the keys go on where the cells end
  pub short : p < length keys → p ≡ length vs → first_bad keys (items_view vs) ≡ Some p
  unfolding first_bad
  short h end = bad-here (ap₂ (λ ks ws. first_bad ks (items_view ws)) (drop_more keys p no_key h) (drop_all p vs (omega arith)))

  -- the cells go on where the keys end
  pub long : p ≡ length keys → p < length vs → first_bad keys (items_view vs) ≡ Some (length keys)
  unfolding first_bad
  long end h =
      let left = some_left vs p h in
      bad-here (ap₂ (λ ks ws. first_bad ks (items_view ws)) (drop_all p keys (omega arith)) left.2) ∙ ap Some end

  -- both end
  pub ended : length keys ≤ p → length vs ≤ p → AreCells keys (items_view vs) values
  unfolding first_bad cell_values
  ended h k = record {
    good = bad-at None (ap₂ (λ ks ws. first_bad ks (items_view ws)) (drop_all p keys h) (drop_all p vs k));
    values_are =
        sym (append-nil values) ∙ ap (λ l. values ++ l) (sym (ap₂ (λ ks ws. cell_values ks (items_view ws)) (drop_all p keys h) (drop_all p vs k))) ∙ done.read;
  }

  module _ (key : Key) (v : Value) (h : p < length keys) (k : p < length vs) (key_there : key ≡ get_or keys p key) (cell_there : v ≡ get_or vs p v) where
    here : {A : Type 0} (f : List Key → List Value → A) → f (drop p keys) (drop p vs) ≡ f (key ∷ drop (p + 1) keys) (v ∷ drop (p + 1) vs)
    here f =
        ap₂ f (drop_more keys p key h) (drop_more vs p v k)
        ∙ ap₂ (λ l w. f (l ∷ drop (p + 1) keys) (w ∷ drop (p + 1) vs)) (sym key_there) (sym cell_there)

    -- no cell of the key
    pub stops : cell_value key (view v) ≡ None → first_bad keys (items_view vs) ≡ Some p
    unfolding first_bad
    stops e = bad-here (here (λ ks ws. first_bad ks (items_view ws)) ∙ rw e refl)

    -- one more cell
    pub goes_on : (x : ℚ) → cell_value key (view v) ≡ Some x → ReadUpTo keys vs (p + 1) (values ++ x ∷ [])
    unfolding first_bad cell_values with_value
    goes_on x e = record {
      bad = bad-at _ (here (λ ks ws. first_bad ks (items_view ws)) ∙ rw e refl) ∙ one_more p (first_bad (drop (p + 1) keys) (items_view (drop (p + 1) vs)));
      read =
          append_assoc values (x ∷ []) _ ∙ ap (λ l. values ++ l) (sym (here (λ ks ws. cell_values ks (items_view ws)) ∙ rw e refl)) ∙ done.read;
      within = omega arith;
    }

-- the refusal of a cell
pub bad_cell : (kind : Kind) (X : ℕ) (vs : List ℚ) (bad : Option ℕ) (e : JsonErr) → IsBadCell e bad → Refuses e (cells_answer kind X vs bad)
unfolding cells_answer
bad_cell kind X vs bad ReadFault h = h
bad_cell kind X vs bad TooLong h = h
bad_cell kind X vs bad NotJson h = absurd h
bad_cell kind X vs bad Form h = absurd h
bad_cell kind X vs bad json.Kind h = absurd h
bad_cell kind X vs bad (Bound got) h = absurd h
bad_cell kind X vs bad (Make k) h = absurd h
bad_cell kind X vs bad (Plan why) h = absurd h
bad_cell kind X vs bad (Cell place) h = ap (cells_answer kind X vs) h
bad_cell kind X vs bad NoMemory h = tt

abbrev IsThere : Option ℕ → Type 0
IsThere None = ⊥
IsThere (Some i) = Unit {0}

-- where no place is bad there is one value for each key
values-length : (keys : List Key) (ds : Items) → first_bad keys ds ≡ None → length (cell_values keys ds) ≡ length keys
unfolding first_bad cell_values with_value
values-length [] no_items e = refl
values-length [] (item d ds) e = absurd (subst IsThere e tt)
values-length (key ∷ keys) no_items e = absurd (subst IsThere e tt)
values-length (key ∷ keys) (item d ds) e = by (cell_value key d) (first_bad keys ds) (values-length keys ds) e
  where
    by : (o : Option ℚ) (b : Option ℕ) → (b ≡ None → length (cell_values keys ds) ≡ length keys) → cond (is_some o) (option_map suc b) (Some 0) ≡ None → length (with_value o (cell_values keys ds)) ≡ suc (length keys)
    by None b f e = absurd (subst IsThere e tt)
    by (Some v) (Some i) f e = absurd (subst IsThere e tt)
    by (Some v) None f e = ap suc (f refl)

-- a plan whose cells are read
pub given : (kind : Kind) (X : ℕ) (plan : Planning) (values : List ℚ) (ds : Items) → 0 < X → IsPlanOf kind X plan
    → bound_answer kind X ds ≡ cells_answer kind X (cell_values (keys_of plan) ds) (first_bad (keys_of plan) ds) → AreCells (keys_of plan) ds values
    → IsGiven plan values (bound_answer kind X ds)
unfolding cells_answer
given kind X plan values ds some of_kind answer cells = record {
  kind = kind;
  gives = answer ∙ ap₂ (cells_answer kind X) (sym cells.values_are) cells.good ∙ ap (λ Y. Gives kind Y values) (sym of_kind.bound_is);
  plan_of = record { bound_is = refl; tensors_are = subst (λ Y. AreOfKind kind Y plan.tensors) (sym of_kind.bound_is) of_kind.tensors_are };
  some = subst (λ Y. 0 < Y) (sym of_kind.bound_is) some;
  one_each = ap length cells.values_are ∙ values-length (keys_of plan) ds cells.good;
}
