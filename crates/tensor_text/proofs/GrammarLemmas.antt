-- One line behind the first lines, by what it gives.
use Rattle.std.proofs.Common.{◌≡◌, ℕ, suc, ◌+◌, List, refl, sym, ap, ap₂, subst, ◌∙◌, add-one, Result, Err}
use Rattle.sparse_tensor.specs.Entries.{Entries}
use Rattle.tensor_text.specs.declared.refusals.LineKind.{LineKind}
use Rattle.tensor_text.specs.declared.refusals.LineKind.TheVariants.{NoEnd}
use Rattle.tensor_text.specs.declared.refusals.TextErr.{TextErr}
use Rattle.tensor_text.specs.declared.entries.Refusal.{Refusal}
use Rattle.tensor_text.specs.declared.entries.Refusal.TheVariants as refusals
use Rattle.tensor_text.specs.Answers.{Gives}
use Rattle.tensor_text.specs.Steps.{IsRefusal, err_at}
use Rattle.tensor_text.specs.Grammar.{TextReading, Refused, Said, Stored, Ended, Fails, Lines, Line, End, counted, said, after_end, then_read, entries_from}

given_stored : (n : ℕ) (given : Said) (t : Entries) (next : Entries → TextReading) (ended : TextReading) → given ≡ Stored t → then_read n given next ended ≡ next t
unfolding then_read
given_stored n given t next ended e = rw e refl

given_ended : (n : ℕ) (given : Said) (next : Entries → TextReading) (ended : TextReading) → given ≡ Ended → then_read n given next ended ≡ ended
unfolding then_read
given_ended n given next ended e = rw e refl

given_fails : (n : ℕ) (given : Said) (kind : LineKind) (next : Entries → TextReading) (ended : TextReading) → given ≡ Fails kind → then_read n given next ended ≡ Refused n kind
unfolding then_read
given_fails n given kind next ended e = rw e refl

pub entries_none : (t : Entries) (n : ℕ) (ls : Lines) → ls ≡ End n → entries_from t ls ≡ Refused n NoEnd
unfolding entries_from
entries_none t n ls e = rw e refl

pub entries_stored : (t u : Entries) (n : ℕ) (ws : List (List ℕ)) (rest ls : Lines) → ls ≡ Line n ws rest → said t ws ≡ Stored u → entries_from t ls ≡ entries_from u rest
unfolding entries_from
entries_stored t u n ws rest ls l e = ap (entries_from t) l ∙ given_stored n (said t ws) u _ _ e

pub entries_ended : (t : Entries) (n : ℕ) (ws : List (List ℕ)) (rest ls : Lines) → ls ≡ Line n ws rest → said t ws ≡ Ended → entries_from t ls ≡ after_end t rest
unfolding entries_from
entries_ended t n ws rest ls l e = ap (entries_from t) l ∙ given_ended n (said t ws) _ _ e

pub entries_fail : (t : Entries) (n : ℕ) (ws : List (List ℕ)) (rest ls : Lines) (kind : LineKind) → ls ≡ Line n ws rest → said t ws ≡ Fails kind → entries_from t ls ≡ Refused n kind
unfolding entries_from
entries_fail t n ws rest ls kind l e = ap (entries_from t) l ∙ given_fails n (said t ws) kind _ _ e

-- a refused line, or want of memory
pub entries_refused : (t : Entries) (n : ℕ) (ws : List (List ℕ)) (rest ls : Lines) (refusal : Refusal) (all : TextReading) → ls ≡ Line n ws rest → IsRefusal refusal (said t ws) → entries_from t ls ≡ all → Gives (Err (err_at n refusal)) all
entries_refused t n ws rest ls (refusals.Kind kind) all l e whole = sym whole ∙ entries_fail t n ws rest ls kind l e
entries_refused t n ws rest ls refusals.NoMemory all l e whole = tt

-- a line that ends the entries
pub entries_last : (t u : Entries) (n : ℕ) (ws : List (List ℕ)) (text : List (List ℕ)) (ls : Lines) (result : Result Entries TextErr) (all : TextReading)
    → ls ≡ Line n ws (counted (suc n) text) → said t ws ≡ Ended → u ≡ t → entries_from t ls ≡ all → Gives result (after_end u (counted (n + 1) text)) → Gives result all
entries_last t u n ws text ls result all l e same whole given =
    let ended : after_end u (counted (n + 1) text) ≡ all = ap₂ (λ v m. after_end v (counted m text)) same (add-one n) ∙ sym (entries_ended t n ws (counted (suc n) text) ls l e) ∙ whole in
    subst (Gives result) ended given
