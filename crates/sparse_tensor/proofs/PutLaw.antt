-- What a put answers and leaves.
use Rattle.std.proofs.Common.{◌≡◌, ℕ, ◌<◌, ◌≤◌, Bool, true, false, min, max, ltb, List, refl, sym, ap, subst, ◌∙◌, arith, pos, ◌*ℤ◌, ◌-ℤ◌, Result, Ok, Err}
use Rattle.std.specs.declared.alloc.AllocError.{AllocError}
use Rattle.std.proofs.lemmas.Bool.Decides.{nat_tests}
use Rattle.airy_math.specs.Rational.{ℚ}
use Rattle.airy_math.specs.Tensors.{is_zero}
use Rattle.airy_math.specs.declared.Shape.{Shape}
use Rattle.airy_math.specs.Shapes.{per_g, per_n}
use Rattle.airy_math.specs.Obtained.{IsInRange}
use Rattle.sparse_tensor.specs.declared.parts.Part.{Part}
use Rattle.sparse_tensor.specs.declared.parts.Part.TheVariants.{A, B, C}
use Rattle.sparse_tensor.specs.declared.tensors.PutErr.{PutErr}
use Rattle.sparse_tensor.specs.declared.tensors.PutErr.TheVariants as puts
use Rattle.sparse_tensor.specs.Entries.{Entry, Entries, is_taken, is_given, place_before, with_entry, with_value}
use Rattle.sparse_tensor.specs.Grades.{keeps, keeps_a, keeps_b, keeps_c, keeps_d, AreStored, AreStoredByIndex, AreInRange, AreInRangeByIndex, AreOrdered, ArePlaced, AreIndexed}
use Rattle.sparse_tensor.specs.Puts.{IsAllowed, putting, are_inside, with_in, with_a, with_b, with_c, with_d, IsAdmitted, IsPut}
use Rattle.sparse_tensor.specs.Rows.{Places, PutsIn}
use Rattle.sparse_tensor.specs.Parts.{gathered, AreParts, checked, answered}
use Rattle.sparse_tensor.proofs.ItemLemmas.{each-put}
use Rattle.sparse_tensor.proofs.EntryLemmas.{ascending-with_entry}
use Rattle.sparse_tensor.proofs.RowLemmas.{ascending-with_value}
use Rattle.sparse_tensor.proofs.SoundLaw.{some_number}

-- ---- by what the checks say

pub refused : (inside zero graded taken : Bool) (e : PutErr) (old with : Entries) → checked inside zero graded ≡ Err e → IsPut (Err e) (putting inside zero graded taken) old with old
unfolding putting IsAllowed
refused false zero graded taken e old with h =
    let is : e ≡ puts.Index = cc in
    rw is (record { index = (λ h. refl, λ h. refl); grade = (λ h. cc, λ h. cc); twice = (λ h. cc, λ h. cc); nothing = λ h. cc; allowed = λ h. absurd h; put = tt; same = refl })
refused true true graded taken e old with h = cc
refused true false false taken e old with h =
    let is : e ≡ puts.Grade = cc in
    rw is (record { index = (λ h. cc, λ h. cc); grade = (λ h. refl, λ h. refl); twice = (λ h. cc, λ h. cc); nothing = λ h. cc; allowed = λ h. absurd h; put = tt; same = refl })
refused true false true taken e old with h = cc

-- where there is nothing to store
pub skipped : (inside zero graded taken : Bool) (old with : Entries) → checked inside zero graded ≡ Ok false → (zero ≡ true → old ≡ with) → IsPut (Ok tt) (putting inside zero graded taken) old with old
unfolding putting IsAllowed
skipped false zero graded taken old with h e = cc
skipped true true graded taken old with h e = record { index = (λ h. cc, λ h. cc); grade = (λ h. cc, λ h. cc); twice = (λ h. cc, λ h. cc); nothing = λ h. refl; allowed = λ h. tt; put = e refl; same = tt }
skipped true false false taken old with h e = cc
skipped true false true taken old with h e = cc

pub admitted : (inside zero graded : Bool) → checked inside zero graded ≡ Ok true → IsAdmitted inside zero graded
admitted false zero graded h = cc
admitted true true graded h = cc
admitted true false false h = cc
admitted true false true h = record { inside_true = refl; zero_false = refl; graded_true = refl }

-- where the entry's place is looked at
pub put : (inside zero graded taken : Bool) (r : Result Bool AllocError) (old with new : Entries) → IsAdmitted inside zero graded → PutsIn r taken old with new → IsPut (answered r) (putting inside zero graded taken) old with new
unfolding putting IsAllowed
put inside zero graded taken r old with new a p = rw (a.inside_true, a.zero_false, a.graded_true) (by taken r p)
  where
    by : (taken : Bool) (r : Result Bool AllocError) → PutsIn r taken old with new → IsPut (answered r) (putting true false true taken) old with new
    by true (Ok true) p = let e : true ≡ false = p.0 in cc
    by true (Ok false) p = record { index = (λ h. cc, λ h. cc); grade = (λ h. cc, λ h. cc); twice = (λ h. refl, λ h. refl); nothing = λ h. cc; allowed = λ h. absurd h; put = tt; same = p.1 }
    by true (Err e) p = let e : true ≡ false = p.0 in cc
    by false (Ok true) p = record { index = (λ h. cc, λ h. cc); grade = (λ h. cc, λ h. cc); twice = (λ h. cc, λ h. cc); nothing = λ h. refl; allowed = λ h. tt; put = p.1; same = tt }
    by false (Ok false) p = let e : false ≡ true = p.0 in cc
    by false (Err e) p = record { index = (λ h. cc, λ h. cc); grade = (λ h. cc, λ h. cc); twice = (λ h. cc, λ h. cc); nothing = λ h. cc; allowed = λ h. refl; put = tt; same = p.1 }

-- what holds of the old and of what has the entry too holds of what is left
pub left : {P : Type 0} (Q : P → Type 0) (r : Result Bool AllocError) (taken : Bool) (old with new : P) → PutsIn r taken old with new → Q old → (taken ≡ false → Q with) → Q new
left Q (Ok true) taken old with new p h g = subst Q (sym p.1) (g p.0)
left Q (Ok false) taken old with new p h g = subst Q (sym p.1) h
left Q (Err e) taken old with new p h g = subst Q (sym p.1) h

-- ---- the entries with one more

pub record AreBelow (dim i j k : ℕ) : Type 0 where
  pub first : i < dim
  pub second : j < dim
  pub third : k < dim

pub below : (dim i j k : ℕ) → are_inside dim i j k ≡ true → AreBelow dim i j k
unfolding are_inside
below dim i j k h = record { first = grind (arith, nat_tests); second = grind (arith, nat_tests); third = grind (arith, nat_tests) }

placed-put : (grade : ℕ → ℕ → ℕ → Bool) (dim : ℕ) (x : Entry) (es : List Entry) → x.i < dim → x.j < dim → x.k < dim → is_zero x.v ≡ false → grade x.i x.j x.k ≡ true → IsInRange x.v → is_taken es x.i x.j x.k ≡ false → ArePlaced grade dim es → ArePlaced grade dim (with_entry x es)
unfolding with_entry AreStored AreInRange
placed-put grade dim x es i j k some g r free h = record {
  ascend = ascending-with_entry x es h.ascend free;
  stored = each-put _ (place_before x) x es (i, j, k, some_number x.v some, g) h.stored;
  in_range = each-put _ (place_before x) x es r h.in_range;
}

ordered-put : (x : Entry) (es : List Entry) → x.j ≤ x.k → AreOrdered es → AreOrdered (with_entry x es)
unfolding with_entry AreOrdered
ordered-put x es o h = each-put _ (place_before x) x es o h

indexed-put : (grade : ℕ → Bool) (dim n : ℕ) (v : ℚ) (es : List (ℕ × ℚ)) → n < dim → is_zero v ≡ false → grade n ≡ true → IsInRange v → is_given es n ≡ false → AreIndexed grade dim es → AreIndexed grade dim (with_value n v es)
unfolding with_value AreStoredByIndex AreInRangeByIndex
indexed-put grade dim n v es i some g r free h = record {
  ascend = ascending-with_value n v es h.ascend free;
  stored = each-put _ (λ e. ltb n e.0) (n, v) es (i, some_number v some, g) h.stored;
  in_range = each-put _ (λ e. ltb n e.0) (n, v) es r h.in_range;
}

keeps_a-ordered : (s : Shape) (i j k : ℕ) → keeps_a s i j k ≡ keeps_a s i (min j k) (max j k)
unfolding keeps_a
keeps_a-ordered s i j k = ap (λ n. keeps s (pos n) (pos 3 *ℤ per_n s -ℤ per_g s)) (omega arith)

keeps_c-ordered : (s : Shape) (i j k : ℕ) → keeps_c s i j k ≡ keeps_c s i (min j k) (max j k)
unfolding keeps_c
keeps_c-ordered s i j k = ap (λ n. keeps s (pos i -ℤ pos n) (per_g s -ℤ per_n s)) (omega arith)

-- ---- the parts with one more entry

module _ (dim : ℕ) (shape : Shape) (letter : Bool) (a b c : Places) (d : List (ℕ × ℚ)) (h : AreParts (gathered dim shape letter a b c d) a b c) (i j k : ℕ) (v : ℚ) (r : IsInRange v) where
  pub parts-a : IsAdmitted (are_inside dim i j k) (is_zero v) (keeps_a shape i j k) → is_taken a.entries i (min j k) (max j k) ≡ false → AreParts (gathered dim shape letter (record a { entries = with_entry (record { i = i; j = min j k; k = max j k; v = v }) a.entries }) b c d) (record a { entries = with_entry (record { i = i; j = min j k; k = max j k; v = v }) a.entries }) b c
  parts-a ok free =
      let l = below dim i j k ok.inside_true in
      let more = placed-put (keeps_a shape) dim (record { i = i; j = min j k; k = max j k; v = v }) a.entries l.first (omega arith) (omega arith) ok.zero_false (sym (keeps_a-ordered shape i j k) ∙ ok.graded_true) r free h.entries.a in
      let e = h.entries in
      record { entries = record { some = e.some; most = e.most; law = e.law; letter = e.letter; a = more; b = e.b; c = e.c; d = e.d; a_ordered = ordered-put _ _ (omega arith) e.a_ordered; c_ordered = e.c_ordered }; a_dim = h.a_dim; b_dim = h.b_dim; c_dim = h.c_dim }

  pub parts-b : IsAdmitted (are_inside dim i j k) (is_zero v) (keeps_b shape i j k) → is_taken b.entries i j k ≡ false → AreParts (gathered dim shape letter a (record b { entries = with_entry (record { i = i; j = j; k = k; v = v }) b.entries }) c d) a (record b { entries = with_entry (record { i = i; j = j; k = k; v = v }) b.entries }) c
  parts-b ok free =
      let l = below dim i j k ok.inside_true in
      let more = placed-put (keeps_b shape) dim (record { i = i; j = j; k = k; v = v }) b.entries l.first l.second l.third ok.zero_false ok.graded_true r free h.entries.b in
      let e = h.entries in
      record { entries = record { some = e.some; most = e.most; law = e.law; letter = e.letter; a = e.a; b = more; c = e.c; d = e.d; a_ordered = e.a_ordered; c_ordered = e.c_ordered }; a_dim = h.a_dim; b_dim = h.b_dim; c_dim = h.c_dim }

  pub parts-c : IsAdmitted (are_inside dim i j k) (is_zero v) (keeps_c shape i j k) → is_taken c.entries i (min j k) (max j k) ≡ false → AreParts (gathered dim shape letter a b (record c { entries = with_entry (record { i = i; j = min j k; k = max j k; v = v }) c.entries }) d) a b (record c { entries = with_entry (record { i = i; j = min j k; k = max j k; v = v }) c.entries })
  parts-c ok free =
      let l = below dim i j k ok.inside_true in
      let more = placed-put (keeps_c shape) dim (record { i = i; j = min j k; k = max j k; v = v }) c.entries l.first (omega arith) (omega arith) ok.zero_false (sym (keeps_c-ordered shape i j k) ∙ ok.graded_true) r free h.entries.c in
      let e = h.entries in
      record { entries = record { some = e.some; most = e.most; law = e.law; letter = e.letter; a = e.a; b = e.b; c = more; d = e.d; a_ordered = e.a_ordered; c_ordered = ordered-put _ _ (omega arith) e.c_ordered }; a_dim = h.a_dim; b_dim = h.b_dim; c_dim = h.c_dim }

  pub parts-d : IsAdmitted (ltb i dim) (is_zero v) (keeps_d shape i) → is_given d i ≡ false → AreParts (gathered dim shape letter a b c (with_value i v d)) a b c
  parts-d ok free =
      let inside = ok.inside_true in
      let more = indexed-put (keeps_d shape) dim i v d (grind (arith, nat_tests)) ok.zero_false ok.graded_true r free h.entries.d in
      let e = h.entries in
      record { entries = record { some = e.some; most = e.most; law = e.law; letter = e.letter; a = e.a; b = e.b; c = e.c; d = more; a_ordered = e.a_ordered; c_ordered = e.c_ordered }; a_dim = h.a_dim; b_dim = h.b_dim; c_dim = h.c_dim }

-- ---- what a put leaves of all entries

pub with_a-some : (t : Entries) (i j k : ℕ) (v : ℚ) → is_zero v ≡ false → record t { a = with_entry (record { i = i; j = min j k; k = max j k; v = v }) t.a } ≡ with_a t i j k v
unfolding with_a
with_a-some t i j k v h = rw h refl

pub with_b-some : (t : Entries) (i j k : ℕ) (v : ℚ) → is_zero v ≡ false → record t { b = with_entry (record { i = i; j = j; k = k; v = v }) t.b } ≡ with_b t i j k v
unfolding with_b
with_b-some t i j k v h = rw h refl

pub with_c-some : (t : Entries) (i j k : ℕ) (v : ℚ) → is_zero v ≡ false → record t { c = with_entry (record { i = i; j = min j k; k = max j k; v = v }) t.c } ≡ with_c t i j k v
unfolding with_c
with_c-some t i j k v h = rw h refl

pub with_d-some : (t : Entries) (i : ℕ) (v : ℚ) → is_zero v ≡ false → record t { d = with_value i v t.d } ≡ with_d t i v
unfolding with_d
with_d-some t i v h = rw h refl

pub with_b-zero : (t : Entries) (i j k : ℕ) (v : ℚ) → is_zero v ≡ true → t ≡ with_b t i j k v
unfolding with_b
with_b-zero t i j k v h = rw h refl

pub with_c-zero : (t : Entries) (i j k : ℕ) (v : ℚ) → is_zero v ≡ true → t ≡ with_c t i j k v
unfolding with_c
with_c-zero t i j k v h = rw h refl

pub with_d-zero : (t : Entries) (i : ℕ) (v : ℚ) → is_zero v ≡ true → t ≡ with_d t i v
unfolding with_d
with_d-zero t i v h = rw h refl

pub with_in-zero : (part : Part) (t : Entries) (i j k : ℕ) (v : ℚ) → is_zero v ≡ true → t ≡ with_in part t i j k v
unfolding with_in with_a
with_in-zero A t i j k v h = rw h refl
with_in-zero B t i j k v h = with_b-zero t i j k v h
with_in-zero C t i j k v h = with_c-zero t i j k v h
