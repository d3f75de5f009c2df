-- Seats of a countdown board before and behind some asks, and the table that the board leaves.
use Rattle.std.proofs.Math.ListN.{get_or-map}
use Rattle.std.proofs.Math.Seq.{get_or-append_seam}
use Rattle.std.proofs.lemmas.List.{length-map, get_or_default}
use Rattle.amp_terms.specs.Outcomes.{outcomes}
use Rattle.amp_terms.specs.declared.Outcome.TheVariants.{Over}
use Rattle.amp_terms.proofs.OutcomeLemmas.{length-all}
use Rattle.cell_words.specs.Countdown.{Known}
use Rattle.cell_words.specs.Deals.{SomeKnows}
use Rattle.cell_words.specs.declared.view.Standing.{Standing}
use Rattle.fill_crew.specs.Crews.{IsBack}
use Rattle.fill_crew.proofs.CrewLemmas.{last_idle, rejoined}
use Rattle.ask_seats.proofs.Names.{◌≡◌, ◌⊎◌, inl, inr, ℕ, ◌<◌, Bool, true, false, List, [], ◌∷◌, ◌++◌, length, length-append, map, get_or, Option, None, Some, arith, refl, sym, ap, ◌∙◌, subst, is_some, cond, Planning, tensors_of, full_table, Carried, Outcome, AreAll, cells, outcome_at, IsPartial, IsSeatOf, standing_of, view_of, Countdown, CountSeat}

module _ (b : Countdown) (s t : CountSeat) (same : standing_of t ≡ standing_of s) where
  pub same_back : s.held ≡ None → IsSeatOf b t → IsBack b s t
  same_back idle seat = record { seat = seat; held = ap (λ (x : Standing). x.held) same ∙ idle; number = ap (λ (x : Standing). x.number) same }

  pub same_done : t.done.items ≡ s.done.items
  same_done = ap (λ (x : Standing). x.done) same

-- the crew that is back, and the seat that asked, are all seats
pub joined_again : (b : Countdown) (crew back : List CountSeat) (seat asked told mine : CountSeat) → AreAll b (crew ++ seat ∷ []) → asked ≡ seat → length back ≡ length crew
    → ((k : ℕ) (d : CountSeat) → k < length crew → IsBack b (get_or crew k d) (get_or back k d)) → IsSeatOf b told → standing_of told ≡ standing_of asked → mine ≡ told → AreAll b (back ++ mine ∷ [])
joined_again b crew back seat asked told mine all e len backs seat_of same is =
    rejoined b (crew ++ seat ∷ []) crew seat all refl back mine len backs
    (subst (IsBack b seat) (sym is) (same_back b seat told (same ∙ ap standing_of e) (last_idle b (crew ++ seat ∷ []) crew seat all refl).1 seat_of))

-- what each of some seats has, the last has
pub last_has : (P : CountSeat → Type 0) (made rest : List CountSeat) (own : CountSeat) → made ≡ rest ++ own ∷ [] → ((j : ℕ) (d : CountSeat) → j < length made → P (get_or made j d)) → P own
last_has P made rest own is each =
    subst P (ap (λ ss. get_or ss (length rest) own) is ∙ get_or-append_seam rest own [] own) (each (length rest) own (omega (arith, ap length is, length-append rest (own ∷ []))))

-- and what the last knows, one of them knows
pub last_known : (ss rest : List CountSeat) (own : CountSeat) (r : ℕ) → ss ≡ rest ++ own ∷ [] → Known (view_of own) r → SomeKnows ss r
last_known ss rest own r is k = (
  length rest,
  omega (arith, ap length is, length-append rest (own ∷ [])),
  λ d. subst (λ s. Known (view_of s) r) (sym (ap (λ xs. get_or xs (length rest) d) is ∙ get_or-append_seam rest own [] d)) k,
)

-- ---- a full table

full_at : (p : Planning) (t : List (Option Outcome)) → t ≡ full_table (tensors_of p) p.bound → (r : ℕ) → r < cells p → get_or t r None ≡ Some (outcome_at p r)
unfolding full_table outcome_at
full_at p t e r l =
    let os = outcomes (tensors_of p) p.bound in
    let many : length (map (λ o. Some o) os) ≡ cells p = length-map os (λ o. Some o) ∙ length-all p in
    ap (λ u. get_or u r None) e ∙ get_or_default (map (λ o. Some o) os) r None (Some Over) (omega (arith, l, many)) ∙ get_or-map (λ o. Some o) os r Over

-- it is one of a plan,
pub full_partial : (p : Planning) (t : List (Option Outcome)) → t ≡ full_table (tensors_of p) p.bound → IsPartial p t
unfolding full_table
full_partial p t e = record {
  long = ap length e ∙ length-map (outcomes (tensors_of p) p.bound) (λ o. Some o) ∙ length-all p;
  each = λ r l. inr (full_at p t e r l);
}

-- and carries every rank
pub full_carries : (p : Planning) (t : List (Option Outcome)) → t ≡ full_table (tensors_of p) p.bound → (r : ℕ) → r < cells p → Carried t r
full_carries p t e r l = ap is_some (full_at p t e r l)
