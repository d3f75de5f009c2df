-- Rows one after another: what a test picks in one of them, and one more entry in one row.
use Rattle.std.proofs.Common.{◌≡◌, ℕ, zero, suc, ◌+◌, ◌<◌, ◌≤◌, Bool, true, false, List, [], ◌∷◌, ◌++◌, map, length, get_or, take, drop, replicate, refl, sym, ap, subst, ◌∙◌, arith, append_assoc, Result, Ok, Err, IfOk, OnErr, not, if◌then◌else◌, length-take, set}
use Rattle.std.specs.declared.alloc.AllocError.{AllocError}
use Rattle.std.proofs.lemmas.List.{set-get_or}
use Rattle.airy_math.proofs.SumLemmas.{Each, Each-append, Each-map, Each-from_all}
use Rattle.sparse_tensor.specs.Items.{fold_where, put_in_front}
use Rattle.sparse_tensor.specs.Entries.{Entry}
use Rattle.sparse_tensor.specs.Rows.{joined, PutsIn}
use Rattle.sparse_tensor.proofs.ItemLemmas.{fold-behind, fold-before, fold-map, put-behind, put-before, put-map}

joined-set : {R : Type 0} (entries : ℕ → R → List Entry) (n m p : ℕ) (rows : List R) (r : R) → n + m ≡ p → m < length rows → joined entries n (set rows m r) ≡ joined entries n (take m rows) ++ (entries p r ++ joined entries (suc p) (drop (suc m) rows))
unfolding joined
joined-set entries n m p [] s e l = absurd (omega arith)
joined-set entries n zero p (r ∷ rs) s e l =
    let same : n ≡ p = omega arith in
    subst (λ q. entries n s ++ joined entries (suc n) rs ≡ entries q s ++ joined entries (suc q) rs) same refl
joined-set entries n (suc m) p (r ∷ rs) s e l =
    ap (λ t. entries n r ++ t) (joined-set entries (suc n) m p rs s (omega arith) (omega arith))
    ∙ sym (append_assoc (entries n r) (joined entries (suc n) (take m rs)) (entries p s ++ joined entries (suc p) (drop (suc m) rs)))

Each-joined : {R : Type 0} (P : Entry → Type 0) (entries : ℕ → R → List Entry) (n : ℕ) (rows : List R) → ((q : ℕ) (r : R) → n ≤ q → q < n + length rows → Each P (entries q r)) → Each P (joined entries n rows)
unfolding joined
Each-joined P entries n [] h = tt
Each-joined P entries n (r ∷ rs) h =
    Each-append P (entries n r) (joined entries (suc n) rs) (h n r (omega arith) (omega arith))
    (Each-joined P entries (suc n) rs (λ q s a b. h q s (omega arith) (omega arith)))

-- empty rows hold no entries
pub joined-empty : {R : Type 0} (entries : ℕ → R → List Entry) (none : R) → ((q : ℕ) → entries q none ≡ []) → (n k : ℕ) → joined entries n (replicate k none) ≡ []
unfolding joined
joined-empty entries none h n zero = refl
joined-empty entries none h n (suc k) = ap (λ es. es ++ joined entries (suc n) (replicate k none)) (h n) ∙ joined-empty entries none h (suc n) k

-- ---- the row of the number m, where each item of a row stands for an entry

module _ {A : Type 0} (entry : ℕ → A → Entry) (m : ℕ) (rows : List (List A)) (d : List A) (l : m < length rows) where
  split : joined (λ n. map (entry n)) 0 rows ≡ joined (λ n. map (entry n)) 0 (take m rows) ++ (map (entry m) (get_or rows m d) ++ joined (λ n. map (entry n)) (suc m) (drop (suc m) rows))
  split =
      ap (joined (λ n. map (entry n)) 0) (sym (set-get_or rows m d)) ∙ joined-set (λ n. map (entry n)) 0 m m rows (get_or rows m d) (omega arith) l

  front : (P : Entry → Type 0) → ((n : ℕ) (a : A) → n < m → P (entry n a)) → Each P (joined (λ n. map (entry n)) 0 (take m rows))
  front P h =
      Each-joined P (λ n. map (entry n)) 0 (take m rows) (λ n r a b. Each-map P (entry n) r (Each-from_all (λ x. P (entry n x)) r (λ x. h n x (omega (arith, length-take m rows)))))

  back : (P : Entry → Type 0) → ((n : ℕ) (a : A) → m < n → P (entry n a)) → Each P (joined (λ n. map (entry n)) (suc m) (drop (suc m) rows))
  back P h =
      Each-joined P (λ n. map (entry n)) (suc m) (drop (suc m) rows) (λ n r a b. Each-map P (entry n) r (Each-from_all (λ x. P (entry n x)) r (λ x. h n x (omega arith))))

  -- what is picked in that row alone
  pub fold-joined : {B : Type 0} (p : Entry → Bool) (s : Entry → B → B) (z : B) (q : A → Bool) → ((n : ℕ) (a : A) → (n ≡ m → ⊥) → p (entry n a) ≡ false) → ((a : A) → p (entry m a) ≡ q a) → fold_where p s z (joined (λ n. map (entry n)) 0 rows) ≡ fold_where q (λ a r. s (entry m a) r) z (get_or rows m d)
  fold-joined p s z q apart same =
      let behind = joined (λ n. map (entry n)) (suc m) (drop (suc m) rows) in
      ap (fold_where p s z) split
      ∙ fold-behind p s z (joined (λ n. map (entry n)) 0 (take m rows)) (map (entry m) (get_or rows m d) ++ behind) (front (λ e. p e ≡ false) (λ n a less. apart n a (λ e. omega arith)))
      ∙ fold-before p s z (map (entry m) (get_or rows m d)) behind (back (λ e. p e ≡ false) (λ n a more. apart n a (λ e. omega arith)))
      ∙ fold-map p s z (entry m) q same (get_or rows m d)

  -- an entry that belongs there
  pub put-joined : (b : Entry → Bool) (c : A → Bool) (x : A) → ((n : ℕ) (a : A) → n < m → b (entry n a) ≡ false) → ((n : ℕ) (a : A) → m < n → b (entry n a) ≡ true) → ((a : A) → b (entry m a) ≡ c a) → put_in_front b (entry m x) (joined (λ n. map (entry n)) 0 rows) ≡ joined (λ n. map (entry n)) 0 (set rows m (put_in_front c x (get_or rows m d)))
  put-joined b c x before after same =
      let ahead = joined (λ n. map (entry n)) 0 (take m rows) in
      let behind = joined (λ n. map (entry n)) (suc m) (drop (suc m) rows) in
      ap (put_in_front b (entry m x)) split
      ∙ put-behind b (entry m x) ahead (map (entry m) (get_or rows m d) ++ behind) (front (λ e. b e ≡ false) before)
      ∙ ap (λ t. ahead ++ t) (put-before b (entry m x) (map (entry m) (get_or rows m d)) behind (back (λ e. b e ≡ true) after) ∙ ap (λ t. t ++ behind) (put-map b (entry m) c x same (get_or rows m d)))
      ∙ sym (joined-set (λ n. map (entry n)) 0 m m rows (put_in_front c x (get_or rows m d)) (omega arith) l)

-- ---- after a put

pub puts_in : {P : Type 0} (r : Result Bool AllocError) (taken : Bool) (old with new : P) → IfOk r (λ free. free ≡ not taken) → IfOk r (λ free. new ≡ (if free then with else old)) → OnErr r (taken ≡ false) → OnErr r (new ≡ old) → PutsIn r taken old with new
puts_in (Ok true) true old with new f p w s = cc
puts_in (Ok true) false old with new f p w s = (refl, p)
puts_in (Ok false) true old with new f p w s = (refl, p)
puts_in (Ok false) false old with new f p w s = cc
puts_in (Err e) taken old with new f p w s = (w, s)

-- a put in a part of the whole
pub puts-whole : {P Q : Type 0} (whole : P → Q) (r : Result Bool AllocError) (given taken : Bool) (old with new : P) (old' with' : Q) → taken ≡ given → whole old ≡ old' → whole with ≡ with' → PutsIn r given old with new → PutsIn r taken old' with' (whole new)
puts-whole whole (Ok true) given taken old with new old' with' t o w p = (t ∙ p.0, ap whole p.1 ∙ w)
puts-whole whole (Ok false) given taken old with new old' with' t o w p = (t ∙ p.0, ap whole p.1 ∙ o)
puts-whole whole (Err e) given taken old with new old' with' t o w p = (t ∙ p.0, ap whole p.1 ∙ o)
