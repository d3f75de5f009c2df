-- Words of scripts, cut at a letter and read.
use Rattle.std.proofs.Common.{◌≡◌, ◌≢◌, ℕ, suc, ◌+◌, ◌-◌, ◌<◌, ◌≤◌, Bool, true, false, ◌==◌, List, [], ◌∷◌, ◌++◌, length, get_or, refl, sym, ap, ◌∙◌, subst, arith, rules, Option, Some, None}
use Rattle.std.specs.Prelude.{Result, Ok, Err, IsTrue, codes, cond, nat_lt}
use Rattle.std.specs.Str.{bytes_eq}
use Rattle.std.proofs.lemmas.List.{append_assoc, length-append}
use Rattle.std.proofs.lemmas.Bool.Decides.{nat_tests}
use Rattle.std.proofs.lemmas.Grind.{common_steps}
use Rattle.std.specs.List.{slice_split}
use Rattle.std.proofs.lemmas.List.Splits.{length-slice_split}
use Rattle.command_words.specs.Lines.{FinishesOnce, Rises}
use Rattle.command_words.specs.Bounds.{is_bound, reach, IsReached, IsScript}
use Rattle.command_words.specs.declared.line.Line.{Line}
use Rattle.command_words.specs.declared.line.Line.TheVariants.{Ask, Finish, Grow}
use Rattle.command_words.specs.Scripts.{ask_of_parts, parts, line_of_word}
use Rattle.command_words.specs.Options.{Parted, Next, End, Broken, with_item, read_item, items, fault_by, fault_of, line_then, lines_of}

-- ---- a list, cut at the first of a letter

abbrev pub Lacks : ℕ → List ℕ → Type 0
Lacks c xs = (i : ℕ) → i < length xs → get_or xs i 0 ≢ c

head_differs : (c x : ℕ) (xs : List ℕ) → Lacks c (x ∷ xs) → (x == c) ≡ false
head_differs c x xs h = let ne : x ≢ c = h 0 (grind (arith, common_steps)) in grind (arith, nat_tests)

lacks_tail : (c x : ℕ) (xs : List ℕ) → Lacks c (x ∷ xs) → Lacks c xs
lacks_tail c x xs h i lt = let k = h (i + 1) (grind (arith, common_steps)) in grind (arith, common_steps)

same_test : (c : ℕ) → (c == c) ≡ true
same_test c = grind (arith, nat_tests)

pub split-lacks : (c : ℕ) (xs : List ℕ) → Lacks c xs → slice_split (λ x. x == c) xs ≡ xs ∷ []
split-lacks c [] h = refl
split-lacks c (x ∷ xs) h = rw (head_differs c x xs h, split-lacks c xs (lacks_tail c x xs h))

pub split-at : (c : ℕ) (xs ys : List ℕ) → Lacks c xs → slice_split (λ x. x == c) (xs ++ c ∷ ys) ≡ xs ∷ slice_split (λ x. x == c) ys
split-at c [] ys h = rw (same_test c)
split-at c (x ∷ xs) ys h = rw (head_differs c x xs h, split-at c xs ys (lacks_tail c x xs h))

-- ---- indices

-- indices that were read, and those of the words behind them
abbrev pub with_all : List ℕ → Option (List ℕ) → Option (List ℕ)
with_all xs None = None
with_all xs (Some ys) = Some (xs ++ ys)

-- things that were read, and what is read of the words behind them
abbrev pub with_read : {A : Type 0} → List A → Result (List A) ℕ → Result (List A) ℕ
with_read xs (Ok ys) = Ok (xs ++ ys)
with_read xs (Err place) = Err place

with_next : {A : Type 0} (xs : List A) (x : A) (r : Result (List A) ℕ) → with_read xs (with_item x r) ≡ with_read (xs ++ x ∷ []) r
with_next xs x (Ok ys) = ap Ok (sym (append_assoc xs (x ∷ []) ys))
with_next xs x (Err place) = refl

pub read_more : {A : Type 0} (read : List ℕ → Option A) (most : ℕ) (xs : List A) (x : A) (w : List ℕ) (place : ℕ) (s : Parted) → length xs < most → read w ≡ Some x
    → with_read xs (items read (most - length xs) (Next place w s)) ≡ with_read (xs ++ x ∷ []) (items read (most - length (xs ++ x ∷ [])) s)
read_more read most xs x w place s room is =
    ap (λ n. with_read xs (items read n (Next place w s))) (less (length-append xs (x ∷ [])))
    ∙ ap (λ o. with_read xs (read_item o place (items read (most - length (xs ++ x ∷ [])) s))) is
    ∙ with_next xs x (items read (most - length (xs ++ x ∷ [])) s)
  where
    less : length (xs ++ x ∷ []) ≡ length xs + 1 → most - length xs ≡ suc (most - length (xs ++ x ∷ []))
    less e = omega (arith, e, room)

-- a word of four parts or more is no ask
pub four_parts : (a g d w : List ℕ) → ask_of_parts (a ∷ g ∷ d ∷ parts 58 w) ≡ None
four_parts a g d w = by (parts 58 w) (omega (arith, length-slice_split (λ x. x == 58) w))
  where
    by : (ws : List (List ℕ)) → 0 < length ws → ask_of_parts (a ∷ g ∷ d ∷ ws) ≡ None
    by [] h = absurd (omega arith)
    by (e ∷ ws) h = refl

-- the name of an ask's word is `ask`
pub named_ask : (a : List ℕ) (ws : List (List ℕ)) → ask_of_parts (a ∷ ws) ≡ cond (bytes_eq a (codes "ask")) (ask_of_parts (codes "ask" ∷ ws)) None
named_ask a ws = by (bytes_eq a (codes "ask")) refl ws
  where
    by : (b : Bool) → bytes_eq a (codes "ask") ≡ b → (ws : List (List ℕ)) → ask_of_parts (a ∷ ws) ≡ cond b (ask_of_parts (codes "ask" ∷ ws)) None
    by true e [] = refl
    by false e [] = refl
    by true e (g ∷ []) = refl
    by false e (g ∷ []) = refl
    by true e (g ∷ d ∷ []) = rw e refl
    by false e (g ∷ d ∷ []) = rw e refl
    by true e (g ∷ d ∷ h ∷ ws) = refl
    by false e (g ∷ d ∷ h ∷ ws) = refl

-- ---- the lines

once_of : (o : Option Line) (place : ℕ) (finished : Bool) (X : ℕ) (s : Parted) → ((once : Bool) (Y : ℕ) → fault_of true once Y s ≡ None → FinishesOnce once (lines_of s))
    → fault_by o place finished X (λ once Y. fault_of true once Y s) ≡ None → FinishesOnce finished (line_then o (lines_of s))
unfolding FinishesOnce
once_of None place finished X s ih e = cc
once_of (Some (Ask key)) place finished X s ih e = ih finished X e
once_of (Some Finish) place false X s ih e = ih true X e
once_of (Some Finish) place true X s ih e = cc
once_of (Some (Grow Y)) place finished X s ih e = by (nat_lt X Y) e
  where
    by : (b : Bool) → cond b (fault_of true false Y s) (Some place) ≡ None → FinishesOnce false (lines_of s)
    by true e = ih false Y e
    by false e = cc

finishes_once : (some finished : Bool) (X : ℕ) (s : Parted) → fault_of some finished X s ≡ None → FinishesOnce finished (lines_of s)
unfolding FinishesOnce
finishes_once some finished X (Next place w s) e = once_of (line_of_word w) place finished X s (λ once Y. finishes_once true once Y s) e
finishes_once some finished X (End place n) e = tt
finishes_once some finished X (Broken place) e = tt

-- ---- the bounds

-- a first bound that isn't from 1 to 24 is the one that is reached
pub reach_unfit : (X : ℕ) (lines : List Line) → is_bound X ≡ false → reach X lines ≡ X
unfolding reach
reach_unfit X [] not = refl
reach_unfit X (Ask key ∷ lines) not = reach_unfit X lines not
reach_unfit X (Finish ∷ lines) not = reach_unfit X lines not
reach_unfit X (Grow Y ∷ lines) not = rw not refl

first_is_bound : (X : ℕ) (lines : List Line) → is_bound (reach X lines) ≡ true → is_bound X ≡ true
first_is_bound X lines is = by (is_bound X) refl
  where
    by : (b : Bool) → is_bound X ≡ b → is_bound X ≡ true
    by true e = e
    by false e = absurd (let f = reach_unfit X lines e in cc)

bound_most : (X : ℕ) → is_bound X ≡ true → X ≤ 24
unfolding is_bound
bound_most X is = search rules

-- where the bounds are all from 1 to 24, they rise
abbrev RiseWithin : ℕ → List Line → Type 0
RiseWithin X lines = IsTrue (is_bound (reach X lines)) → Rises X lines

rises_of : (o : Option Line) (place : ℕ) (finished : Bool) (X : ℕ) (s : Parted) → ((once : Bool) (Y : ℕ) → fault_of true once Y s ≡ None → RiseWithin Y (lines_of s))
    → fault_by o place finished X (λ once Y. fault_of true once Y s) ≡ None → RiseWithin X (line_then o (lines_of s))
unfolding Rises reach
rises_of None place finished X s ih e is = cc
rises_of (Some (Ask key)) place finished X s ih e is = ih finished X e is
rises_of (Some Finish) place false X s ih e is = ih true X e is
rises_of (Some Finish) place true X s ih e is = cc
rises_of (Some (Grow Y)) place finished X s ih e is = by (nat_lt X Y) refl e (is_bound X) refl is
  where
    by : (b : Bool) → nat_lt X Y ≡ b → cond b (fault_of true false Y s) (Some place) ≡ None
        → (d : Bool) → is_bound X ≡ d → IsTrue (is_bound (cond d (reach Y (lines_of s)) X)) → (X < Y) × (Y ≤ 24) × Rises Y (lines_of s)
    by true less e true some is = (search rules, bound_most Y (first_is_bound Y (lines_of s) is), ih false Y e is)
    by true less e false some is = cc
    by false less e d some is = cc

rises : (some finished : Bool) (X : ℕ) (s : Parted) → fault_of some finished X s ≡ None → RiseWithin X (lines_of s)
unfolding Rises reach
rises some finished X (Next place w s) e = rises_of (line_of_word w) place finished X s (λ once Y. rises true once Y s) e
rises some finished X (End place n) e = λ is. tt
rises some finished X (Broken place) e = λ is. tt

pub script_of : (X : ℕ) (s : Parted) → fault_of false false X s ≡ None → IsScript X (lines_of s)
script_of X s e = record { once = finishes_once false false X s e; rise = rises false false X s e }

pub below_reach : (X : ℕ) (lines : List Line) → Rises X lines → X ≤ reach X lines
unfolding Rises reach
below_reach X [] r = omega arith
below_reach X (Ask key ∷ lines) r = below_reach X lines r
below_reach X (Finish ∷ lines) r = below_reach X lines r
below_reach X (Grow Y ∷ lines) r = by (is_bound X) (below_reach Y lines r.2)
  where
    by : (b : Bool) → Y ≤ reach Y lines → X ≤ cond b (reach Y lines) X
    by true h = omega (arith, r.0, h)
    by false h = omega arith

pub bound_some : (X : ℕ) → is_bound X ≡ true → 0 < X
unfolding is_bound
bound_some X is = search rules

pub reached : (X top : ℕ) (lines : List Line) → IsScript X lines → top ≡ reach X lines → is_bound top ≡ true → IsReached X lines (Ok top)
reached X top lines script e is =
    let f : is_bound (reach X lines) ≡ true = sym (ap is_bound e) ∙ is in let r = script.rise (search rules) in
    (e, bound_some X (first_is_bound X lines f), subst (λ n. X ≤ n) (sym e) (below_reach X lines r), bound_most top is, r)
