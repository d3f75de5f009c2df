-- The lines of replies, one after another.
use Rattle.std.proofs.Common.{◌≡◌, ℕ, zero, suc, ◌+◌, ◌≤◌, List, [], ◌∷◌, ◌++◌, length, take, drop, refl, sym, ap, ◌∙◌, subst, arith, append_assoc, append-nil, add-one, Some, Ok, Err, slice_get, Option, None}
use Rattle.run_reports.proofs.Names.{Taking, Writes}
use Rattle.std.specs.Io.KnownBytes.{Appends}
use Rattle.airy_io.proofs.Prefixes.{AppendsPrefix-more}
use Rattle.ask_seats.specs.Replies.{Reply, line_text, lines_text}

-- the lines before a reply, its own, and those behind it
lines-split : (all : List Reply) (k : ℕ) (r : Reply) → slice_get all k ≡ Some r
    → lines_text all ≡ lines_text (take k all) ++ (line_text r ++ lines_text (drop (suc k) all))
unfolding lines_text
lines-split [] k r there = absurd cc
lines-split (q ∷ all) zero r there = ap (λ x. line_text x ++ lines_text all) cc
lines-split (q ∷ all) (suc k) r there = ap (λ t. line_text q ++ t) (lines-split all k r there) ∙ sym (append_assoc (line_text q) (lines_text (take k all)) _)

lines-next : (all : List Reply) (k : ℕ) (r : Reply) → slice_get all k ≡ Some r → lines_text (take (suc k) all) ≡ lines_text (take k all) ++ line_text r
unfolding lines_text
lines-next [] k r there = absurd cc
lines-next (q ∷ all) zero r there = append-nil (line_text q) ∙ ap line_text cc
lines-next (q ∷ all) (suc k) r there = ap (λ t. line_text q ++ t) (lines-next all k r there) ∙ sym (append_assoc (line_text q) (lines_text (take k all)) _)

-- one line more
pub lines-more : (all : List Reply) (k : ℕ) (r : Reply) → slice_get all k ≡ Some r → lines_text (take (k + 1) all) ≡ lines_text (take k all) ++ line_text r
lines-more all k r there = rw add-one (lines-next all k r there)

-- the lines before a reply were taken, and its own was cut
pub lines-cut : {T E : Type 0} (all : List Reply) (k : ℕ) (r : Reply) (a b c : Taking) (e : E) → slice_get all k ≡ Some r
    → Appends a.taken b.taken (lines_text (take k all)) → b.faults ≡ a.faults → Writes {T = T} (line_text r) b c (Err e) → Writes {T = T} (lines_text all) a c (Err e)
lines-cut all k r a b c e there before kept own = record {
  written = tt;
  prefix = rw (lines-split all k r there) (AppendsPrefix-more a.taken b.taken c.taken _ _ _ before own.prefix);
  cause = rw (← kept) own.cause;
}

-- all were taken
pub lines-done : {T E : Type 0} (all : List Reply) (k : ℕ) (a b : Taking) (x : T) → length all ≤ k
    → Appends a.taken b.taken (lines_text (take k all)) → b.faults ≡ a.faults → Writes {E = E} (lines_text all) a b (Ok x)
lines-done all k a b x past before kept = record {
  written = subst (λ l. Appends a.taken b.taken (lines_text l)) (Rattle.std.proofs.lemmas.List.take_all k all past) before;
  prefix = tt;
  cause = record { later = omega arith; failed = tt; kept = kept };
}
