-- The texts of cells, of arrays and of the document, part by part.
use Rattle.std.proofs.Common.{◌≡◌, ℕ, zero, suc, ◌+◌, ◌<◌, ◌≤◌, false, true, List, [], ◌∷◌, ◌++◌, length, drop, get_or, Option, Some, None, Result, Ok, Err, OnOk, ◌⊎◌, inl, inr, refl, sym, ap, ap₂, ◌∙◌, subst, arith, append_assoc, decimal, codes, nat_lt, lt-ltb}
use Rattle.airy_json.proofs.Common.{ℚ, IsInRange, Key, no_key, key_at, fraction_text, Outcome, Value, Over, value_of, indices_data, cell_data, cells_data, document_data, document_text, value_in, values_in, drop_more, drop_all, cases_lt, escape_byte, escape, quoted, escape_byte_plain, compact_text, items_text, comma_if, ArePlain, Blocked, first_without, value_of_cell, value_at, never_next}
use Rattle.serde_json.specs.Data.{Data, number, unsigned, Items, no_items, item}

-- ---- a cell

escape-plain : (cs : List ℕ) → ArePlain cs → escape cs ≡ cs
escape-plain [] p = refl
escape-plain (c ∷ cs) p = ap₂ (λ (a b : List ℕ). a ++ b) (escape_byte_plain c p.0.2 p.0.3 p.0.0) (escape-plain cs p.1)

pub quoted-plain : (s : List ℕ) → ArePlain s → quoted s ≡ codes "\"" ++ (s ++ codes "\"")
quoted-plain s p = ap (λ t. 34 ∷ (t ++ 34 ∷ [])) (escape-plain s p)

pub cell_text : (key : Key) (v : ℚ) → compact_text (cell_data key v)
    ≡ codes "{\"g\":" ++ (decimal key.g ++ (codes ",\"i\":[" ++ (items_text false (indices_data key.idx) ++ (codes ",\"v\":" ++ (quoted (fraction_text v) ++ codes "}")))))
unfolding cell_data escape_byte
cell_text key v = refl

pub grown_value : (old t u new : List ℕ) (s : List ℕ) → ArePlain s → t ≡ old ++ codes "\"" → u ≡ t ++ s → new ≡ u ++ codes "\"" → new ≡ old ++ quoted s
grown_value old t u new s p e1 e2 e3 = rw (e3, e2, e1, quoted-plain s p) (simp append_assoc)

pub grown_cell : (old t1 t2 t3 t4 t5 t6 new : List ℕ) (key : Key) (v : ℚ) → t1 ≡ old ++ codes "{\"g\":" → t2 ≡ t1 ++ decimal key.g → t3 ≡ t2 ++ codes ",\"i\":["
    → t4 ≡ t3 ++ items_text false (indices_data key.idx) → t5 ≡ t4 ++ codes ",\"v\":" → t6 ≡ t5 ++ quoted (fraction_text v) → new ≡ t6 ++ codes "}"
    → new ≡ old ++ compact_text (cell_data key v)
grown_cell old t1 t2 t3 t4 t5 t6 new key v e1 e2 e3 e4 e5 e6 e7 = rw (e7, e6, e5, e4, e3, e2, e1, cell_text key v) (simp append_assoc)

-- ---- the document

pub whole_text : (kind : List ℕ) (X : ℕ) (keys : List Key) (vs : List ℚ) → document_text kind X keys vs
    ≡ codes "{\"bound\":" ++ (decimal X ++ (codes ",\"cells\":[" ++ (items_text false (cells_data keys vs) ++ (codes ",\"kind\":" ++ (quoted kind ++ codes "}\n")))))
unfolding document_data document_text escape_byte
whole_text kind X keys vs =
    let cells = items_text false (cells_data keys vs) in
    ap (λ w. codes "{\"bound\":" ++ w) (append_assoc (decimal X) _ (10 ∷ [])
    ∙ ap (λ w. decimal X ++ (codes ",\"cells\":[" ++ w)) (append_assoc cells _ (10 ∷ []) ∙ ap (λ w. cells ++ (codes ",\"kind\":" ++ w)) (append_assoc (quoted kind) (125 ∷ []) (10 ∷ []))))

seven : (t1 t2 t3 t4 t5 t6 new a b c d e f g : List ℕ) → t1 ≡ a → t2 ≡ t1 ++ b → t3 ≡ t2 ++ c → t4 ≡ t3 ++ d → t5 ≡ t4 ++ e → t6 ≡ t5 ++ f → new ≡ t6 ++ g
    → new ≡ a ++ (b ++ (c ++ (d ++ (e ++ (f ++ g)))))
seven t1 t2 t3 t4 t5 t6 new a b c d e f g e1 e2 e3 e4 e5 e6 e7 = rw (e7, e6, e5, e4, e3, e2, e1) (simp append_assoc)

pub grown_document : (t1 t2 t3 t4 t5 t6 new : List ℕ) (kind : List ℕ) (X : ℕ) (keys : List Key) (vs : List ℚ) → t1 ≡ codes "{\"bound\":" → t2 ≡ t1 ++ decimal X → t3 ≡ t2 ++ codes ",\"cells\":["
    → t4 ≡ t3 ++ items_text false (cells_data keys vs) → t5 ≡ t4 ++ codes ",\"kind\":" → t6 ≡ t5 ++ quoted kind → new ≡ t6 ++ codes "}\n"
    → new ≡ document_text kind X keys vs
grown_document t1 t2 t3 t4 t5 t6 new kind X keys vs e1 e2 e3 e4 e5 e6 e7 =
    seven t1 t2 t3 t4 t5 t6 new (codes "{\"bound\":") (decimal X) (codes ",\"cells\":[") (items_text false (cells_data keys vs)) (codes ",\"kind\":") (quoted kind) (codes "}\n") e1 e2 e3 e4 e5 e6 e7
    ∙ sym (whole_text kind X keys vs)

-- ---- the cells in their order

pub drop_values : (cells : List (Option Outcome)) (r : ℕ) → r < length cells → drop r (values_in cells) ≡ value_in cells r ∷ drop (suc r) (values_in cells)
unfolding values_in value_in value_at
drop_values [] r h = absurd (omega arith)
drop_values (cell ∷ cells) zero h = refl
drop_values (cell ∷ cells) (suc r) h = drop_values cells r (omega arith)

pub get_or-values : (cells : List (Option Outcome)) (r : ℕ) (v : ℚ) → r < length cells → get_or (values_in cells) r v ≡ value_in cells r
unfolding values_in value_in value_at
get_or-values [] r v h = absurd (omega arith)
get_or-values (cell ∷ cells) zero v h = refl
get_or-values (cell ∷ cells) (suc r) v h = get_or-values cells r v (omega arith)

pub length-values : (cells : List (Option Outcome)) → length (values_in cells) ≡ length cells
unfolding values_in
length-values [] = refl
length-values (cell ∷ cells) = ap suc (length-values cells)

pub some_value : (cells : List (Option Outcome)) (r : ℕ) → first_without cells ≡ None → r < length cells → value_at cells r ≡ Some (value_in cells r)
unfolding first_without value_at value_in value_of_cell value_of
some_value [] r e h = absurd (omega arith)
some_value (Some (Value v) ∷ cells) zero e h = refl
some_value (Some (Value v) ∷ cells) (suc r) e h = some_value cells r (never_next (first_without cells) e) (omega arith)
some_value (Some Over ∷ cells) r e h = absurd (cc)
some_value (Some (Blocked s) ∷ cells) r e h = absurd (cc)
some_value (None ∷ cells) r e h = absurd (cc)

-- ---- texts that grow

pub on_ok : {T E P Q : Type 0} (r : Result T E) → (P → Q) → OnOk r P → OnOk r Q
on_ok (Ok x) f p = f p
on_ok (Err e) f p = p

-- The items of an array: one more, and the last.
pub next_item : (old comma new whole : List ℕ) (p : ℕ) (d : Data) (ds now : Items) → now ≡ item d ds → comma ≡ old ++ comma_if (nat_lt 0 p) → new ≡ comma ++ compact_text d
    → old ++ items_text (nat_lt 0 p) now ≡ whole → new ++ items_text (nat_lt 0 (p + 1)) ds ≡ whole
next_item old comma new whole p d ds now is e f before =
    let later : nat_lt 0 (p + 1) ≡ true = lt-ltb 0 (p + 1) (omega arith) in
    let c = comma_if (nat_lt 0 p) in
    ap (λ b. new ++ items_text b ds) later ∙ ap (λ w. w ++ items_text true ds) (f ∙ ap (λ w. w ++ compact_text d) e)
    ∙ append_assoc (old ++ c) (compact_text d) (items_text true ds) ∙ append_assoc old c (compact_text d ++ items_text true ds) ∙ ap (λ ds. old ++ items_text (nat_lt 0 p) ds) (sym is) ∙ before

pub last_item : (old new whole : List ℕ) (p : ℕ) (now : Items) → now ≡ no_items → new ≡ old ++ codes "]" → old ++ items_text (nat_lt 0 p) now ≡ whole → new ≡ whole
last_item old new whole p now is e before = e ∙ ap (λ ds. old ++ items_text (nat_lt 0 p) ds) (sym is) ∙ before

pub next_index : (idx : List ℕ) (p : ℕ) → p < length idx → indices_data (drop p idx) ≡ item (number (unsigned (get_or idx p 0))) (indices_data (drop (p + 1) idx))
unfolding indices_data
next_index idx p h = ap indices_data (drop_more idx p 0 h)

pub no_index : (idx : List ℕ) (p : ℕ) → length idx ≤ p → indices_data (drop p idx) ≡ no_items
unfolding indices_data
no_index idx p h = ap indices_data (drop_all p idx h)

pub next_cell : (keys : List Key) (cells : List (Option Outcome)) (p : ℕ) → p < length keys → length cells ≡ length keys
    → cells_data (drop p keys) (drop p (values_in cells)) ≡ item (cell_data (key_at keys p) (value_in cells p)) (cells_data (drop (p + 1) keys) (drop (p + 1) (values_in cells)))
unfolding cells_data key_at
next_cell keys cells p h long =
    let within : p < length cells = omega arith in
    let more : suc p ≡ p + 1 = omega arith in
    ap₂ cells_data (drop_more keys p no_key h) (drop_values cells p within ∙ ap (λ q. value_in cells p ∷ drop q (values_in cells)) more)

pub no_cell : (keys : List Key) (vs : List ℚ) (p : ℕ) → length keys ≤ p → cells_data (drop p keys) (drop p vs) ≡ no_items
unfolding cells_data
no_cell keys vs p h = ap (λ l. cells_data l (drop p vs)) (drop_all p keys h)

pub next_range : (cells : List (Option Outcome)) (p : ℕ) → ((r : ℕ) → r < p → IsInRange (value_in cells r)) → IsInRange (value_in cells p) → (r : ℕ) → r < p + 1 → IsInRange (value_in cells r)
next_range cells p below here r h = by (cases_lt r p)
  where
    by : (r < p) ⊎ (p ≤ r) → IsInRange (value_in cells r)
    by (inl l) = below r l
    by (inr l) = let e : p ≡ r = omega arith in subst (λ q. IsInRange (value_in cells q)) e here
