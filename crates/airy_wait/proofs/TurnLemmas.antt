-- The turns of the callers.
use Rattle.std.proofs.Common.{◌≡◌, ◌⊎◌, inl, inr, ℕ, ◌+◌, ◌-◌, ◌*◌, ◌/◌, ◌%◌, ◌<◌, ◌≤◌, List, [], ◌∷◌, ◌++◌, map, length, get_or, refl, sym, ap, ◌∙◌, subst, arith, Option, Some, slice_get, slice_index_or, option_map}
use Rattle.run_reports.proofs.Names.{Key, Planning}
use Rattle.std.proofs.lemmas.Bool.{cases_lt}
use Rattle.std.proofs.lemmas.List.{length-append, length-map, get_or_append_left}
use Rattle.std.proofs.lemmas.Option.{slice_get-get_or, slice_get-map, slice_get_within}
use Rattle.std.proofs.Math.Seq.{get_or-append_seam}
use Rattle.std.proofs.Math.Nat.{mod-lt, mod-add-div}
use Rattle.ask_seats.specs.Replies.{Reply, NotYet}
use Rattle.ask_seats.specs.Talks.{told_of}
use Rattle.airy_wait.specs.Waits.{told_reply}
use Rattle.airy_wait.specs.declared.waits.Told.{Told}
use Rattle.airy_wait.specs.declared.callers.Caller.{Caller}
use Rattle.airy_wait.specs.Words.{key_of_word}
use Rattle.airy_wait.specs.Asked.{keys_of, AreKeys}
use Rattle.airy_wait.specs.Turns.{plan_replies, told_to, AreTold, AreTurns}
use Rattle.airy_wait.proofs.KeyLemmas.{key_there}

-- ---- a list with one item more

get_before : {X : Type 0} (xs : List X) (x : X) (i : ℕ) → i < length xs → slice_get (xs ++ x ∷ []) i ≡ slice_get xs i
get_before xs x i low =
    slice_get-get_or (xs ++ x ∷ []) i x (omega (arith, low, length-append xs (x ∷ [])))
    ∙ ap Some (get_or_append_left xs (x ∷ []) x i low) ∙ sym (slice_get-get_or xs i x low)

get_last : {X : Type 0} (xs : List X) (x : X) → slice_get (xs ++ x ∷ []) (length xs) ≡ Some x
get_last xs x = slice_get-get_or (xs ++ x ∷ []) (length xs) x (omega (arith, length-append xs (x ∷ []))) ∙ ap Some (get_or-append_seam xs x [] x)

-- ---- one caller's asks

-- What was told so far, where the next ask is that with the number `at`.
pub record IsGoing (step first : ℕ) (all own : List Reply) (at : ℕ) : Type 0 where
  pub next : at ≡ first + step * length own
  pub told : (j : ℕ) → j < length own → slice_get own j ≡ slice_get all (first + step * j)

pub begins : (step first : ℕ) (all own : List Reply) → own ≡ [] → IsGoing step first all own first
begins step first all own none = record { next = omega (arith, ap (λ (l : List Reply). step * length l) none); told = λ j low. absurd (omega (arith, low, ap length none)) }

pub goes : (step first : ℕ) (all own : List Reply) (at : ℕ) (r : Reply) → IsGoing step first all own at → slice_get all at ≡ Some r
    → IsGoing step first all (own ++ r ∷ []) (at + step)
goes step first all own at r h there = record {
  next = omega (arith, h.next, ap (λ n. step * n) (length-append own (r ∷ [])));
  told = λ j low. by j low (cases_lt j (length own));
}
  where
    by : (j : ℕ) → j < length (own ++ r ∷ []) → (j < length own) ⊎ (length own ≤ j) → slice_get (own ++ r ∷ []) j ≡ slice_get all (first + step * j)
    by j low (inl before) = get_before own r j before ∙ h.told j before
    by j low (inr past) =
        let last : j ≡ length own = omega (arith, low, past, length-append own (r ∷ [])) in
        ap (slice_get (own ++ r ∷ [])) last ∙ get_last own r ∙ sym there ∙ ap (slice_get all) (h.next ∙ ap (λ n. first + step * n) (sym last))

pub ends : (step first : ℕ) (all own : List Reply) (at : ℕ) → IsGoing step first all own at → length all ≤ at → AreTurns step first all own
ends step first all own at h past j low = by (cases_lt j (length own))
  where
    by : (j < length own) ⊎ (length own ≤ j) → slice_get own j ≡ slice_get all (first + step * j)
    by (inl before) = h.told j before
    by (inr more) =
        let e : j ≡ length own + (j - length own) = omega (arith, more) in
        absurd (omega (arith, low, past, h.next, ap (λ n. step * n) e))

some_same : {X : Type 0} (x y : X) → Some x ≡ Some y → x ≡ y
some_same x y e = cc

-- what there is to tell of the key that a word is, at its place
pub told_there : (p : Planning) (ws : List (List ℕ)) (i : ℕ) (w : List ℕ) (key : Key) (r : Reply) → AreKeys ws → slice_get ws i ≡ Some w
    → key_of_word w ≡ Some key → r ≡ told_of p key → slice_get (plan_replies p (keys_of ws)) i ≡ Some r
told_there p ws i w key r are there reads tells =
    let k = key_there ws i w are there in
    slice_get-map (told_of p) (keys_of ws) i ∙ ap (option_map (told_of p)) k.2
    ∙ ap Some (ap (told_of p) (some_same k.0 key (sym k.1 ∙ reads)) ∙ sym tells)

pub a_key : (ws : List (List ℕ)) (i : ℕ) (w : List ℕ) → AreKeys ws → slice_get ws i ≡ Some w → (key : Key) × (key_of_word w ≡ Some key)
a_key ws i w are there = let k = key_there ws i w are there in (k.0, k.1)

-- ---- all callers

-- the ask k is the next of the caller whose place is k modulo the callers
pub turn_of : (all : List Reply) (cs : List Caller) (k : ℕ) (d : Caller) → AreTold all cs → k < length all
    → slice_get (told_to (slice_index_or cs (k % length cs) d)) (k / length cs) ≡ slice_get all k
turn_of all cs k d h low =
    let e = mod-add-div k (length cs) in
    h.each (k % length cs) d (mod-lt k h.some) (k / length cs) (subst (λ n. n < length all) (sym e) low) ∙ ap (slice_get all) e

-- it was told
pub turn_within : (all : List Reply) (cs : List Caller) (k : ℕ) (d : Caller) → AreTold all cs → k < length all
    → k / length cs < length (slice_index_or cs (k % length cs) d).told.items
turn_within all cs k d h low =
    let own = slice_index_or cs (k % length cs) d in
    let e : slice_get (told_to own) (k / length cs) ≡ Some (get_or all k NotYet) = turn_of all cs k d h low ∙ slice_get-get_or all k NotYet low in
    omega (arith, slice_get_within (told_to own) (k / length cs) (get_or all k NotYet) e, length-map own.told.items told_reply)

pub turn_told : (all : List Reply) (cs : List Caller) (k : ℕ) (d : Caller) (t : Told) → AreTold all cs → k < length all
    → slice_get (slice_index_or cs (k % length cs) d).told.items (k / length cs) ≡ Some t → slice_get all k ≡ Some (told_reply t)
turn_told all cs k d t h low there =
    let own = slice_index_or cs (k % length cs) d in
    sym (turn_of all cs k d h low) ∙ slice_get-map told_reply own.told.items (k / length cs) ∙ ap (option_map told_reply) there
