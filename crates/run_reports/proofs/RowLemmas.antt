-- The lines of a table, one after the other.
use Rattle.std.proofs.Common.{◌≡◌, ℕ, zero, suc, ◌+◌, ◌<◌, ◌≤◌, Bool, List, [], ◌∷◌, ◌++◌, length, take, drop, refl, sym, ap, ap₂, ◌∙◌, subst, arith, append_assoc, append-nil, add-one, Option, Ok, Err}
use Rattle.run_reports.proofs.Names.{Taking, Writes, Key, Shape, key_at, Outcome, value_at, value_of_cell, row_text, rows_text, Appends, AppendsPrefix-more}

-- the lines before a rank, its own, and those behind it
pub rows-split : (letter : Bool) (shape : Shape) (keys : List Key) (cells : List (Option Outcome)) (r : ℕ) → r < length keys → length cells ≡ length keys
    → rows_text letter shape keys cells ≡ rows_text letter shape (take r keys) (take r cells) ++ (row_text letter shape (key_at keys r) (value_at cells r) ++ rows_text letter shape (drop (suc r) keys) (drop (suc r) cells))
unfolding rows_text key_at value_at
rows-split letter shape [] cells r h l = absurd (omega arith)
rows-split letter shape (key ∷ keys) [] r h l = absurd (omega arith)
rows-split letter shape (key ∷ keys) (cell ∷ cells) zero h l = refl
rows-split letter shape (key ∷ keys) (cell ∷ cells) (suc r) h l =
    ap (λ text. row_text letter shape key (value_of_cell cell) ++ text) (rows-split letter shape keys cells r (omega arith) (omega arith)) ∙ sym (append_assoc (row_text letter shape key (value_of_cell cell)) (rows_text letter shape (take r keys) (take r cells)) _)

rows-next : (letter : Bool) (shape : Shape) (keys : List Key) (cells : List (Option Outcome)) (r : ℕ) → r < length keys → length cells ≡ length keys
    → rows_text letter shape (take (suc r) keys) (take (suc r) cells) ≡ rows_text letter shape (take r keys) (take r cells) ++ row_text letter shape (key_at keys r) (value_at cells r)
unfolding rows_text key_at value_at
rows-next letter shape [] cells r h l = absurd (omega arith)
rows-next letter shape (key ∷ keys) [] r h l = absurd (omega arith)
rows-next letter shape (key ∷ keys) (cell ∷ cells) zero h l = append-nil (row_text letter shape key (value_of_cell cell))
rows-next letter shape (key ∷ keys) (cell ∷ cells) (suc r) h l =
    ap (λ text. row_text letter shape key (value_of_cell cell) ++ text) (rows-next letter shape keys cells r (omega arith) (omega arith)) ∙ sym (append_assoc (row_text letter shape key (value_of_cell cell)) (rows_text letter shape (take r keys) (take r cells)) _)

-- one line more
pub rows-more : (letter : Bool) (shape : Shape) (keys : List Key) (cells : List (Option Outcome)) (r : ℕ) → r < length keys → length cells ≡ length keys
    → rows_text letter shape (take (r + 1) keys) (take (r + 1) cells) ≡ rows_text letter shape (take r keys) (take r cells) ++ row_text letter shape (key_at keys r) (value_at cells r)
rows-more letter shape keys cells r h l = rw add-one (rows-next letter shape keys cells r h l)

-- all lines
pub rows-all : (letter : Bool) (shape : Shape) (keys : List Key) (cells : List (Option Outcome)) (r : ℕ) → length keys ≤ r → length cells ≡ length keys
    → rows_text letter shape (take r keys) (take r cells) ≡ rows_text letter shape keys cells
rows-all letter shape keys cells r h l = ap₂ (rows_text letter shape) (Rattle.std.proofs.lemmas.List.take_all r keys h) (Rattle.std.proofs.lemmas.List.take_all r cells (omega arith))

-- ---- what is written of a table

-- the lines before a rank were taken, and its own was cut
pub rows-cut : {T E : Type 0} (letter : Bool) (shape : Shape) (keys : List Key) (cells : List (Option Outcome)) (r : ℕ) (a b c : Taking) (e : E)
    → r < length keys → length cells ≡ length keys → Appends a.taken b.taken (rows_text letter shape (take r keys) (take r cells)) → b.faults ≡ a.faults
    → Writes {T = T} (row_text letter shape (key_at keys r) (value_at cells r)) b c (Err e) → Writes {T = T} (rows_text letter shape keys cells) a c (Err e)
rows-cut letter shape keys cells r a b c e h l before kept own = record {
  written = tt;
  prefix = rw (rows-split letter shape keys cells r h l) (AppendsPrefix-more a.taken b.taken c.taken _ _ _ before own.prefix);
  cause = rw (← kept) own.cause;
}

-- all were taken
pub rows-done : {T E : Type 0} (letter : Bool) (shape : Shape) (keys : List Key) (cells : List (Option Outcome)) (r : ℕ) (a b : Taking) (x : T)
    → length keys ≤ r → length cells ≡ length keys → Appends a.taken b.taken (rows_text letter shape (take r keys) (take r cells)) → b.faults ≡ a.faults
    → Writes {E = E} (rows_text letter shape keys cells) a b (Ok x)
rows-done letter shape keys cells r a b x h l before kept = record {
  written = subst (Appends a.taken b.taken) (rows-all letter shape keys cells r h l) before;
  prefix = tt;
  cause = record { later = omega arith; failed = tt; kept = kept };
}
