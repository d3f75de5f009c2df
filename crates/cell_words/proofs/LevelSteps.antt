-- Each step keeps the rule.
use Rattle.std.proofs.Common.{◌/◌, length-append, ◌≡◌, ◌≢◌, ◌⊎◌, ℕ, zero, suc, ◌+◌, ◌*◌, ◌<◌, ◌≤◌, List, [], ◌∷◌, length, set, get_or, refl, sym, ap, ◌∙◌, subst, ⊎_elim, arith, length-set, get_or-set_other, get_or-set_same, le_refl, inl, inr, slice_index}
use Rattle.atomic_table.proofs.Lists.{at_set, at_snoc, at_longer, set_here, set_else, set_again}
use Rattle.airy_math.specs.Planned.{planned}
use Rattle.airy_math.specs.Levels.{level}
use Rattle.airy_math.proofs.PlanOrderLaw.{levels}
use Rattle.cell_words.proofs.Names.{cases_lt, set-get_or, none, some, some-ne-none, some-injective, get_elem?, ℕ_discrete, step, keeps, Allows, Splits, Joins, Planning, tensors_of, IsSized, cells, outcome_at, cells_to, value_word}
use Rattle.cell_words.specs.declared.level_view.View.{View}
use Rattle.cell_words.specs.declared.level_view.Role.{Role}
use Rattle.cell_words.specs.declared.level_view.Role.TheVariants.{Filler, Asker, Spent}
use Rattle.cell_words.proofs.StepLemmas.{short}
use Rattle.cell_words.specs.Levels.{Lawful, Keeps, Fits, FitsAs, settled, looked, wrote, raised, new_asker, spent, joined, joined_as, Looked, Wrote, Raised, Reads, M, first_view}

-- the levels only grow
pub cells_grow : (p : Planning) (a b : ℕ) → a ≤ b → cells_to p a ≤ cells_to p b
unfolding cells_to
cells_grow p a zero h = let none : a ≡ 0 = omega arith in rw none (le_refl (length (planned (tensors_of p) 0)))
cells_grow p a (suc b) h = by (cells_grow p a b) (cases_lt a (suc b))
  where
    next : length (planned (tensors_of p) (suc b)) ≡ length (planned (tensors_of p) b) + length (level (tensors_of p) (suc b))
    next = ap length (levels (tensors_of p) b).next ∙ length-append (planned (tensors_of p) b) (level (tensors_of p) (suc b))

    by : (a ≤ b → length (planned (tensors_of p) a) ≤ length (planned (tensors_of p) b)) → (a < suc b) ⊎ (suc b ≤ a) → length (planned (tensors_of p) a) ≤ length (planned (tensors_of p) (suc b))
    by before (inl l) = let low = before (omega arith) in omega (arith, next, low)
    by before (inr l) = let same : a ≡ suc b = omega arith in rw same (le_refl (length (planned (tensors_of p) (suc b))))

-- every view fits, after one has changed
fits_set : (filler : ℕ) (front : View) (views : List View) (id : ℕ) (w : View) → ((j : ℕ) (u : View) → j ≢ id → get_elem? views j ≡ some u → Fits filler front j u) → Fits filler front id w
    → (j : ℕ) (u : View) → get_elem? (set views id w) j ≡ some u → Fits filler front j u
fits_set filler front views id w others mine j u e =
    ⊎_elim
    (λ (x : (j ≡ id) × (w ≡ u)). subst (λ (y : ℕ × View). Fits filler front y.0 y.1) (λ i. (sym x.0 i, x.1 i)) mine)
    (λ (x : (j ≢ id) × (get_elem? views j ≡ some u)). others j u x.0 x.1)
    (at_set views id j w u e)

apart_roles : Asker ≡ Filler → ⊥
apart_roles e = cc

-- an asker isn't the filler
not_filler : (words : List ℕ) (views : List View) (h : Lawful words views) (id : ℕ) (v : View) → get_elem? views id ≡ some v → v.role ≢ Filler → h.filler ≢ id
not_filler words views h id v at role e = role (ap (λ (x : View). x.role) (some-injective _ _ (sym at ∙ ap (λ k. get_elem? views k) (sym e) ∙ h.here)) ∙ h.fills)

as_asker : (filler : ℕ) (front : View) (id : ℕ) (v : View) → v.role ≡ Asker → Fits filler front id v → (v.plan ≡ front.plan) × (v.count ≤ front.count)
as_asker filler front id v role f = subst (λ r. FitsAs r filler front id v) role f

is_asker : (filler : ℕ) (front : View) (id : ℕ) (v : View) → v.role ≡ Asker → (v.plan ≡ front.plan) × (v.count ≤ front.count) → Fits filler front id v
is_asker filler front id v role f = subst (λ r. FitsAs r filler front id v) (sym role) f

-- the view of an asker changes
asker_moves : (words : List ℕ) (views : List View) (h : Lawful words views) (id : ℕ) (v w : View) → get_elem? views id ≡ some v → v.role ≢ Filler → Fits h.filler h.front id w → Lawful words (set views id w)
asker_moves words views h id v w at role fits = record {
  filler = h.filler;
  front = h.front;
  here = set_else views id h.filler w (not_filler words views h id v at role) ∙ h.here;
  fills = h.fills;
  counted = h.counted;
  stored = h.stored;
  long = h.long;
  inside = h.inside;
  sized = h.sized;
  each = fits_set h.filler h.front views id w (λ j u _ e. h.each j u e) fits;
}

pub looks : (slots id : ℕ) (me : M) → me.0.role ≡ Asker → Allows Keeps slots id me 0 (λ n. n) (Looked (step slots 0 0 0 none) me)
looks slots id me role s h _ at small =
    let v = me.0 in
    let n : ℕ = get_or s.words 0 0 in
    let mine = as_asker h.filler h.front id v role (h.each id v at) in
    let w : View = looked v n in (
      w,
      keeps,
      tt,
      subst (λ ws. Lawful ws (set s.views id w)) (sym (set-get_or s.words 0 0))
          (asker_moves s.words s.views h id v w at (λ e. apart_roles (sym role ∙ e)) (is_asker h.filler h.front id w role (mine.0, (omega (arith, h.counted))))),
      (
        refl,
        (let c = h.counted in let l = mine.1 in omega arith),
        subst (λ (p : Planning). n ≤ p.bound) (sym mine.0) (omega (arith, h.counted, h.inside)),
        λ r low. subst (λ (p : Planning). IsSized (outcome_at p r)) (sym mine.0) (h.sized r (let fewer : r < cells_to h.front.plan h.front.count = subst (λ (p : Planning). r < cells_to p h.front.count) mine.0 (subst (λ k. r < cells_to v.plan k) h.counted low) in omega arith)),
      ),
    )

pub reads : (slots id : ℕ) (me : M) (i : ℕ) → me.0.role ≡ Asker → i < 4 * cells_to me.0.plan me.0.count
    → Allows Keeps slots id me (suc i) (λ n. n) (Reads (step slots (suc i) 0 0 none) me)
reads slots id me i role low s h _ at small =
    let v = me.0 in
    let mine = as_asker h.filler h.front id v role (h.each id v at) in
    let more : cells_to v.plan v.count ≤ cells_to v.plan h.front.count = cells_grow v.plan v.count h.front.count mine.1 in
    let there : i < 4 * cells_to h.front.plan h.front.count + h.front.written = subst (λ p. i < 4 * cells_to p h.front.count + h.front.written) mine.0 (omega arith) in (
      v,
      keeps,
      tt,
      subst (λ ws. Lawful ws (set s.views id v)) (sym (set-get_or s.words (suc i) 0))
          (asker_moves s.words s.views h id v v at (λ e. apart_roles (sym role ∙ e)) (h.each id v at)),
      (refl, h.stored i there ∙ ap (λ (p : Planning). value_word p i) (sym mine.0) ∙ ap (value_word v.plan) (omega arith)),
    )

-- the filler's view and a word change
filler_moves : (words : List ℕ) (views : List View) (h : Lawful words views) (id : ℕ) (v w : View) (new : List ℕ) → get_elem? views id ≡ some v → v.role ≡ Filler → w.role ≡ Filler → w.plan ≡ v.plan → v.count ≤ w.count
    → slice_index new 0 ≡ w.count → ((i : ℕ) → i < settled w → slice_index new (suc i) ≡ value_word w.plan i) → length new ≡ length words → w.count ≤ w.plan.bound → ((r : ℕ) → 4 * r < settled w → IsSized (outcome_at w.plan r)) → Lawful new (set views id w)
filler_moves words views h id v w new at role role' plan le counted stored long inside sized =
    let same : id ≡ h.filler = subst (λ r. FitsAs r h.filler h.front id v) role (h.each id v at) in
    let is : h.front ≡ v = some-injective _ _ (sym h.here ∙ ap (λ k. get_elem? views k) (sym same) ∙ at) in record {
      filler = id;
      front = w;
      here = set_here views id w (short views id v at);
      fills = role';
      counted = counted;
      stored = stored;
      long = long ∙ h.long ∙ ap (λ (p : Planning). suc (4 * cells p)) (ap (λ (x : View). x.plan) is ∙ sym plan);
      inside = inside;
      sized = sized;
      each = fits_set id w views id w (λ j u apart e. other j u apart e same is (h.each j u e)) (subst (λ r. FitsAs r id w id w) (sym role') refl);
    }
  where
    other_as : (r : Role) (j : ℕ) (u : View) → j ≢ id → id ≡ h.filler → h.front ≡ v → FitsAs r h.filler h.front j u → FitsAs r id w j u
    other_as Filler j u apart same is f = absurd (apart (f ∙ sym same))
    other_as Asker j u apart same is f = (f.0 ∙ ap (λ (x : View). x.plan) is ∙ sym plan, (let l = f.1 in let k = ap (λ (x : View). x.count) is in omega arith))
    other_as Spent j u apart same is f = tt

    other : (j : ℕ) (u : View) → j ≢ id → get_elem? views j ≡ some u → id ≡ h.filler → h.front ≡ v → Fits h.filler h.front j u → Fits id w j u
    other j u apart e same is f = other_as u.role j u apart same is f

abbrev mine_as : (words : List ℕ) (views : List View) (h : Lawful words views) (id : ℕ) (v : View) → get_elem? views id ≡ some v → v.role ≡ Filler → h.front ≡ v
mine_as words views h id v at role =
    let same : id ≡ h.filler = subst (λ r. FitsAs r h.filler h.front id v) role (h.each id v at) in
    some-injective _ _ (sym h.here ∙ ap (λ k. get_elem? views k) (sym same) ∙ at)

stays : (words : List ℕ) (v : View) (x i : ℕ) → ((j : ℕ) → j < settled v → slice_index words (suc j) ≡ value_word v.plan j) → settled v < (4 * cells v.plan) → length words ≡ suc ((4 * cells v.plan)) → x ≡ value_word v.plan (settled v) → i < suc (settled v) → Dec (i ≡ settled v)
    → slice_index (set words (suc (settled v)) x) (suc i) ≡ value_word v.plan i
stays words v x i was room long is low (yes e) = rw e (get_or-set_same words (suc (settled v)) x 0 (omega arith) ∙ is)
stays words v x i was room long is low (no n) = get_or-set_other words (suc (settled v)) (suc i) x 0 (λ e. n (omega arith)) ∙ was i (omega arith)

sized_next : (v : View) (r : ℕ) → ((q : ℕ) → 4 * q < settled v → IsSized (outcome_at v.plan q)) → IsSized (outcome_at v.plan (settled v / 4)) → 4 * r < suc (settled v) → (4 * r < settled v) ⊎ (settled v ≤ 4 * r) → IsSized (outcome_at v.plan r)
sized_next v r was is low (inl l) = was r l
sized_next v r was is low (inr l) = let same : settled v / 4 ≡ r = omega arith in subst (λ q. IsSized (outcome_at v.plan q)) same is

-- the next value word of the level
pub writes : (slots id : ℕ) (me : M) (x : ℕ) → me.0.role ≡ Filler → settled me.0 < (4 * cells me.0.plan) → x ≡ value_word me.0.plan (settled me.0) → IsSized (outcome_at me.0.plan (settled me.0 / 4))
    → Allows Keeps slots id me (suc (settled me.0)) (λ _. x) (λ _. Wrote (step slots (suc (settled me.0)) x 0 none) me x)
writes slots id me x role room is sized s h _ at small =
    let v = me.0 in let w : View = wrote v in
    let mine : h.front ≡ v = mine_as s.words s.views h id v at role in
    let h' : (i : ℕ) → i < settled v → slice_index s.words (suc i) ≡ value_word v.plan i = subst (λ (f : View). (i : ℕ) → i < settled f → slice_index s.words (suc i) ≡ value_word f.plan i) mine h.stored in
    let long : length s.words ≡ suc ((4 * cells v.plan)) = subst (λ (f : View). length s.words ≡ suc ((4 * cells f.plan))) mine h.long in (
      w,
      keeps,
      tt,
      filler_moves s.words s.views h id v w (set s.words (suc (settled v)) x) at role role refl (le_refl v.count)
          (get_or-set_other s.words (suc (settled v)) 0 x 0 (λ e. omega arith) ∙ h.counted ∙ ap (λ (f : View). f.count) mine)
          (λ i low. stays s.words v x i h' room long is (omega (arith, low)) (ℕ_discrete i (settled v)))
          (length-set s.words (suc (settled v)) x)
          (subst (λ (f : View). f.count ≤ f.plan.bound) mine h.inside)
          (λ r low. sized_next v r (subst (λ (f : View). (r : ℕ) → 4 * r < settled f → IsSized (outcome_at f.plan r)) mine h.sized) sized (omega (arith, low)) (cases_lt (4 * r) (settled v))),
      refl,
    )

-- the count is raised, where the level is wholly written
pub raises : (slots id : ℕ) (me : M) (x : ℕ) → me.0.role ≡ Filler → settled me.0 ≡ 4 * cells_to me.0.plan (suc me.0.count) → x ≡ suc me.0.count → suc me.0.count ≤ me.0.plan.bound
    → Allows Keeps slots id me 0 (λ _. x) (λ _. Raised (step slots 0 x 0 none) me x)
raises slots id me x role whole is more s h _ at small =
    let v = me.0 in let w : View = raised v in
    let mine : h.front ≡ v = mine_as s.words s.views h id v at role in
    let h' : (i : ℕ) → i < settled v → slice_index s.words (suc i) ≡ value_word v.plan i = subst (λ (f : View). (i : ℕ) → i < settled f → slice_index s.words (suc i) ≡ value_word f.plan i) mine h.stored in
    let long : length s.words ≡ suc ((4 * cells v.plan)) = subst (λ (f : View). length s.words ≡ suc ((4 * cells f.plan))) mine h.long in (
      w,
      keeps,
      tt,
      filler_moves s.words s.views h id v w (set s.words 0 x) at role role refl (omega arith)
          (get_or-set_same s.words 0 x 0 (omega arith) ∙ is)
          (λ i low. get_or-set_other s.words 0 (suc i) x 0 (λ e. omega arith) ∙ h' i (omega (arith, low, whole)))
          (length-set s.words 0 x)
          more
          (λ r low. subst (λ (f : View). (r : ℕ) → 4 * r < settled f → IsSized (outcome_at f.plan r)) mine h.sized r (omega (arith, low, whole))),
      refl,
    )

-- a new asker
pub splits : (id : ℕ) (v : View) → v.role ≢ Spent → Splits Keeps id v v (new_asker v)
splits id v role s h at =
    let fits : (v.plan ≡ h.front.plan) × (v.count ≤ h.front.count) = plan_of v.role refl in record {
      filler = h.filler;
      front = h.front;
      here = at_longer (set s.views id v) (new_asker v ∷ []) h.filler h.front (ap (λ l. get_elem? l h.filler) (set_again s.views id v at) ∙ h.here);
      fills = h.fills;
      counted = h.counted;
      stored = h.stored;
      long = h.long;
      inside = h.inside;
      sized = h.sized;
      each = λ j u e. ⊎_elim
          (λ was. h.each j u (subst (λ l. get_elem? l j ≡ some u) (set_again s.views id v at) was))
          (λ (same : new_asker v ≡ u). subst (Fits h.filler h.front j) same fits)
          (at_snoc (set s.views id v) (new_asker v) u j e);
    }
  where
    plan_of : (r : Role) → v.role ≡ r → (v.plan ≡ h.front.plan) × (v.count ≤ h.front.count)
    plan_of Filler e = let m = mine_as s.words s.views h id v at e in (ap (λ (x : View). x.plan) (sym m), (let k = ap (λ (x : View). x.count) m in omega arith))
    plan_of Asker e = as_asker h.filler h.front id v e (h.each id v at)
    plan_of Spent e = absurd (role e)

joined_keeps : (words : List ℕ) (views : List View) (h : Lawful words views) (id other : ℕ) (v u : View) (r : Role) → v.role ≡ r → u.role ≡ Asker → get_elem? views id ≡ some v → get_elem? views other ≡ some u → Lawful words (set views id (joined_as r v u))
joined_keeps words views h id other v u Filler e e' at there = subst (Lawful words) (sym (set_again views id v at)) h
joined_keeps words views h id other v u Spent e e' at there = subst (Lawful words) (sym (set_again views id v at)) h
joined_keeps words views h id other v u Asker e e' at there =
    let f = as_asker h.filler h.front id v e (h.each id v at) in
    let g = as_asker h.filler h.front other u e' (h.each other u there) in
    asker_moves words views h id v (joined_as Asker v u) at (λ c. apart_roles (sym e ∙ c)) (is_asker h.filler h.front id (joined_as Asker v u) e (f.0, (let a = f.1 in let b = g.1 in omega arith)))

-- an asker's view goes into another
pub joins : (id : ℕ) (v : View) (other : ℕ) (u : View) → u.role ≡ Asker → Joins Keeps id v other u (joined v u) spent
joins id v other u role s h at apart there =
    let was : get_elem? s.views other ≡ some u = ⊎_elim (λ (x : (other ≡ id) × (joined v u ≡ u)). absurd (apart x.0)) (λ (x : (other ≢ id) × (get_elem? s.views other ≡ some u)). x.1) (at_set s.views id other (joined v u) u there) in
    asker_moves s.words (set s.views id (joined v u)) (joined_keeps s.words s.views h id other v u v.role refl role at was) other u spent there (λ c. apart_roles (sym role ∙ c)) tt

at_open : (p : Planning) (j : ℕ) (u : View) → get_elem? (first_view p ∷ []) j ≡ some u → Fits 0 (first_view p) j u
at_open p zero u e = subst (Fits 0 (first_view p) 0) (some-injective _ _ e) refl
at_open p (suc j) u e = absurd (some-ne-none u (sym e))

-- the board at the start
pub begins : (p : Planning) (words : List ℕ) → cells_to p 0 ≡ 0 → slice_index words 0 ≡ 0 → length words ≡ suc (4 * cells p) → Lawful words (first_view p ∷ [])
begins p words none_yet zero_yet long = record {
  filler = 0;
  front = first_view p;
  here = refl;
  fills = refl;
  counted = zero_yet;
  stored = λ i low. absurd (omega (arith, none_yet, low));
  long = long;
  inside = omega arith;
  sized = λ r low. absurd (omega (arith, none_yet, low));
  each = at_open p;
}
