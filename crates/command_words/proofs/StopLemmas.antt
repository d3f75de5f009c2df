-- Readers of the plain words of a command line: where they refuse words, they stop at the first bad one.
use Rattle.std.proofs.Common.{◌≡◌, ◌⊎◌, inl, inr, ℕ, zero, suc, ◌+◌, Bool, true, false, List, [], ◌∷◌, refl, sym, ap, ◌∙◌, Option, Some, None}
use Rattle.std.specs.Prelude.{codes, cond, nat_lt, Result, Ok, Err}
use Rattle.airy_math.specs.Keys.{key_of}
use Rattle.command_words.specs.declared.line.Line.{Line}
use Rattle.command_words.specs.declared.line.Line.TheVariants.{Ask, Finish, Grow}
use Rattle.command_words.specs.Scripts.{line_of_word}
use Rattle.command_words.specs.Options.{Parted, Next, End, Broken, Mode, Options, Value, Dashed, Act, Take, Skip, Break, act, after, at_last, parted, option_act, items, with_item, read_item, fault_by, fault_of}
use Rattle.command_words.specs.OptionExamples.{words_compute}
use Rattle.command_words.proofs.RefusalLemmas.{Stops, along, behind, here, at_end}

-- the number with which plain words are refused, or None
abbrev pub Reader : Type 0
Reader = Parted → Option ℕ

abbrev pub at : Reader → Mode → ℕ → List (List ℕ) → Option ℕ
at R m p ws = R (parted m p ws)

-- from each mode some words are read to their end
abbrev pub Lives : Reader → Type 0
Lives R = (m : Mode) (p : ℕ) → (more : List (List ℕ)) × (at R m p more ≡ None)

-- a reader that always stops so, and that reads some words to their end
pub record Good (R : Reader) : Type 0 where
  pub stopped : (ws : List (List ℕ)) (m : Mode) (p n : ℕ) → at R m p ws ≡ Some n → Stops (at R m p) p ws n
  pub live : Lives R

-- What readers, one for each state, do at a word: it is refused whatever stands behind it, or leads to a state, or to a good reader.
pub data Turn {I : Type 0} (R : I → Reader) (i : I) (p : ℕ) (w : List ℕ) : Type 0 where
  refuses : ((s : Parted) → R i (Next p w s) ≡ Some p) → Turn R i p w
  stays : (j : I) → ((s : Parted) → R i (Next p w s) ≡ R j s) → Turn R i p w
  leads : (S : Reader) → Good S → ((s : Parted) → R i (Next p w s) ≡ S s) → Turn R i p w

pub record Turns {I : Type 0} (R : I → Reader) : Type 0 where
  pub broken : (i : I) (p : ℕ) → R i (Broken p) ≡ Some p
  pub ended : (i : I) (p k : ℕ) → (R i (End p k) ≡ Some p) ⊎ (R i (End p k) ≡ None)
  pub live : (i : I) → Lives (R i)
  pub turn : (i : I) (p : ℕ) (w : List ℕ) → Turn R i p w

last : {I : Type 0} (R : I → Reader) → Turns R → (i : I) (m : Mode) (p : ℕ) → (R i (at_last m p) ≡ Some p) ⊎ (R i (at_last m p) ≡ None)
last R is i (Options may k) p = is.ended i p k
last R is i Value p = inl (is.broken i p)
last R is i (Dashed k) p = is.ended i p k

stops : {I : Type 0} (R : I → Reader) → Turns R → (ws : List (List ℕ)) (i : I) (m : Mode) (p n : ℕ) → at (R i) m p ws ≡ Some n → Stops (at (R i) m p) p ws n
stops R is [] i m p n e = let r = is.live i m p in at_end _ p n r.0 r.1 (last R is i m p) e
stops {I} R is (w ∷ ws) i m p n e = by (λ j k. stops R is ws j k (p + 1) n) (act m w) refl
  where
    same : (a : Act) → act m w ≡ a → (xs : List (List ℕ)) → at (R i) m p (w ∷ xs) ≡ R i (after a p w (λ k. parted k (p + 1) xs))
    same a is xs = ap (λ b. R i (after b p w (λ k. parted k (p + 1) xs))) is

    refused : ((xs : List (List ℕ)) → at (R i) m p (w ∷ xs) ≡ Some p) → Stops (at (R i) m p) p (w ∷ ws) n
    refused all = let r = is.live i m p in here _ p n w ws r.0 r.1 all e

    on : (S : Reader) (k : Mode) → (at S k (p + 1) ws ≡ Some n → Stops (at S k (p + 1)) (p + 1) ws n)
        → ((xs : List (List ℕ)) → at (R i) m p (w ∷ xs) ≡ at S k (p + 1) xs) → Stops (at (R i) m p) p (w ∷ ws) n
    on S k next to = behind (at S k (p + 1)) _ p n w ws to (next (sym (to ws) ∙ e))

    taken : ((j : I) (k : Mode) → at (R j) k (p + 1) ws ≡ Some n → Stops (at (R j) k (p + 1)) (p + 1) ws n) → (k : Mode) → act m w ≡ Take k → Turn R i p w
        → Stops (at (R i) m p) p (w ∷ ws) n
    taken ih k takes (refuses all) = refused (λ xs. same (Take k) takes xs ∙ all (parted k (p + 1) xs))
    taken ih k takes (stays j to) = on (R j) k (ih j k) (λ xs. same (Take k) takes xs ∙ to (parted k (p + 1) xs))
    taken ih k takes (leads S good to) = on S k (good.stopped ws k (p + 1) n) (λ xs. same (Take k) takes xs ∙ to (parted k (p + 1) xs))

    by : ((j : I) (k : Mode) → at (R j) k (p + 1) ws ≡ Some n → Stops (at (R j) k (p + 1)) (p + 1) ws n) → (a : Act) → act m w ≡ a → Stops (at (R i) m p) p (w ∷ ws) n
    by ih (Take k) takes = taken ih k takes (is.turn i p w)
    by ih (Skip k) skips = on (R i) k (ih i k) (same (Skip k) skips)
    by ih Break breaks = refused (λ xs. same Break breaks xs ∙ is.broken i p)

all_good : {I : Type 0} (R : I → Reader) → Turns R → (i : I) → Good (R i)
all_good R is i = record { stopped = λ ws m p n e. stops R is ws i m p n e; live = is.live i }

pub good_along : (R S : Reader) → Good R → ((s : Parted) → S s ≡ R s) → Good S
good_along R S good same = record {
  stopped = λ ws m p n e. along _ _ p ws n (λ xs. same (parted m p xs)) (good.stopped ws m p n (sym (same (parted m p ws)) ∙ e));
  live = λ m p. let r = good.live m p in (r.0, same (parted m p r.0) ∙ r.1);
}

-- ---- words that lead on

abbrev pub IsPlain : List ℕ → Type 0
IsPlain w = (may : Bool) (n : ℕ) → option_act may n w ≡ Take (Options may n)

lives_by : (R S : Reader) (w : List ℕ) → IsPlain w → ((p : ℕ) (s : Parted) → R (Next p w s) ≡ S s) → Lives S → Lives R
lives_by R S w plain goes live (Options may n) p = let r = live (Options may n) (p + 1) in
    (w ∷ r.0, ap (λ a. R (after a p w (λ k. parted k (p + 1) r.0))) (plain may n) ∙ goes p _ ∙ r.1)
lives_by R S w plain goes live Value p = let r = live (Options false 1) (p + 1 + 1) in
    (codes "1" ∷ w ∷ r.0, ap (λ a. R (after a (p + 1) w (λ k. parted k (p + 1 + 1) r.0))) (plain false 1) ∙ goes (p + 1) _ ∙ r.1)
lives_by R S w plain goes live (Dashed n) p = let r = live (Dashed n) (p + 1) in (w ∷ r.0, goes p _ ∙ r.1)

ends_live : (R : Reader) → ((p n : ℕ) → R (End p n) ≡ None) → Lives R
ends_live R fine (Options may n) p = ([], fine p n)
ends_live R fine Value p = (codes "1" ∷ [], fine (p + 1) 1)
ends_live R fine (Dashed n) p = ([], fine p n)

-- ---- the places of the commands

-- a reader that takes no word
pub record IsEnd (R : Reader) : Type 0 where
  pub word : (p : ℕ) (w : List ℕ) (s : Parted) → R (Next p w s) ≡ Some p
  pub fine : (p k : ℕ) → R (End p k) ≡ None
  pub broken : (p : ℕ) → R (Broken p) ≡ Some p

pub end_good : (R : Reader) → IsEnd R → Good R
end_good R is = all_good {I = Unit} (λ i. R) (record {
  broken = λ i p. is.broken p;
  ended = λ i p k. inr (is.fine p k);
  live = λ i. ends_live R is.fine;
  turn = λ i p w. refuses (is.word p w);
}) tt

-- a reader that reads the next word, refuses what is none, and goes on by what was read
pub record IsPlace {A : Type 0} (read : List ℕ → Option A) (R : Reader) (S : A → Reader) : Type 0 where
  pub lacks : (p : ℕ) (w : List ℕ) (s : Parted) → read w ≡ None → R (Next p w s) ≡ Some p
  pub goes : (p : ℕ) (w : List ℕ) (s : Parted) (x : A) → read w ≡ Some x → R (Next p w s) ≡ S x s
  pub ends : (p k : ℕ) → R (End p k) ≡ Some p
  pub broken : (p : ℕ) → R (Broken p) ≡ Some p

-- a place that some plain word fills
pub place_good : {A : Type 0} (read : List ℕ → Option A) (R : Reader) (S : A → Reader) → IsPlace read R S
    → (w : List ℕ) (x : A) → IsPlain w → read w ≡ Some x → ((x : A) → Good (S x)) → Good R
place_good {A} read R S place w x plain is good = all_good {I = Unit} (λ i. R) (record {
  broken = λ i p. place.broken p;
  ended = λ i p k. inl (place.ends p k);
  live = λ i. lives_by R (S x) w plain (λ p s. place.goes p w s x is) (good x).live;
  turn = λ i p v. by p v (read v) refl;
}) tt
  where
    by : (p : ℕ) (v : List ℕ) (o : Option A) → read v ≡ o → Turn {I = Unit} (λ i. R) tt p v
    by p v None e = refuses (λ s. place.lacks p v s e)
    by p v (Some y) e = leads (S y) (good y) (λ s. place.goes p v s y e)

-- ---- words up to the end

-- the number of a refused word
abbrev pub err_of : {A : Type 0} → Result A ℕ → Option ℕ
err_of (Ok x) = None
err_of (Err place) = Some place

pub err_with : {A : Type 0} (x : A) (r : Result (List A) ℕ) → err_of (with_item x r) ≡ err_of r
err_with x (Ok xs) = refl
err_with x (Err place) = refl

pub items_good : {A : Type 0} (read : List ℕ → Option A) (room : ℕ) → Good (λ s. err_of (items read room s))
items_good {A} read = all_good (λ room s. err_of (items read room s)) (record {
  broken = λ room p. refl;
  ended = λ room p k. inr refl;
  live = λ room. ends_live (λ s. err_of (items read room s)) (λ p n. refl);
  turn = turn;
})
  where
    by : (room p : ℕ) (w : List ℕ) (o : Option A) → read w ≡ o → Turn (λ room s. err_of (items read room s)) (suc room) p w
    by room p w None e = refuses (λ s. ap (λ o. err_of (read_item o p (items read room s))) e)
    by room p w (Some x) e = stays room (λ s. ap (λ o. err_of (read_item o p (items read room s))) e ∙ err_with x (items read room s))

    turn : (room p : ℕ) (w : List ℕ) → Turn (λ room s. err_of (items read room s)) room p w
    turn zero p w = refuses (λ s. refl)
    turn (suc room) p w = by room p w (read w) refl

-- ---- scripts

an_ask : line_of_word (codes "ask:1:0") ≡ Some (Ask (key_of 1 (0 ∷ [])))
unfolding words_compute
an_ask = refl

-- a script behind so much: whether a word stands before it, whether `finish` does in this part, and the last bound
abbrev faults : Bool × Bool × ℕ → Reader
faults (some, finished, X) s = fault_of some finished X s

script_turn : (some finished : Bool) (X p : ℕ) (w : List ℕ) (o : Option Line) → line_of_word w ≡ o → Turn faults (some, finished, X) p w
script_turn some finished X p w o is = by o finished (at_word finished)
  where
    at_word : (finished : Bool) (s : Parted) → fault_of some finished X (Next p w s) ≡ fault_by o p finished X (λ once Y. fault_of true once Y s)
    at_word finished s = ap (λ x. fault_by x p finished X (λ once Y. fault_of true once Y s)) is

    grown : (Y : ℕ) (finished b : Bool) → ((s : Parted) → fault_of some finished X (Next p w s) ≡ cond b (fault_of true false Y s) (Some p)) → Turn faults (some, finished, X) p w
    grown Y finished true e = stays (true, false, Y) e
    grown Y finished false e = refuses e

    by : (o : Option Line) (finished : Bool) → ((s : Parted) → fault_of some finished X (Next p w s) ≡ fault_by o p finished X (λ once Y. fault_of true once Y s)) → Turn faults (some, finished, X) p w
    by None finished e = refuses e
    by (Some (Ask key)) finished e = stays (true, finished, X) e
    by (Some Finish) false e = stays (true, true, X) e
    by (Some Finish) true e = refuses e
    by (Some (Grow Y)) finished e = grown Y finished (nat_lt X Y) e

script_lives : (some finished : Bool) (X : ℕ) → Lives (faults (some, finished, X))
script_lives true finished X = ends_live (faults (true, finished, X)) (λ p n. refl)
script_lives false finished X = lives_by (faults (false, finished, X)) (faults (true, finished, X)) (codes "ask:1:0") (λ may n. refl)
    (λ p s. ap (λ o. fault_by o p finished X (λ once Y. fault_of true once Y s)) an_ask) (ends_live (faults (true, finished, X)) (λ p n. refl))

script_ended : (some finished : Bool) (X p k : ℕ) → (faults (some, finished, X) (End p k) ≡ Some p) ⊎ (faults (some, finished, X) (End p k) ≡ None)
script_ended true finished X p k = inr refl
script_ended false finished X p k = inl refl

pub script_good : (X : ℕ) → Good (fault_of false false X)
script_good X = all_good faults (record {
  broken = λ i p. refl;
  ended = λ i. script_ended i.0 i.1 i.2;
  live = λ i. script_lives i.0 i.1 i.2;
  turn = λ i p w. script_turn i.0 i.1 i.2 p w (line_of_word w) refl;
}) (false, false, X)

-- ---- the first word

-- what the first word leads to: a good reader of the others, from a mode on, or nothing
pub data Command (G : List (List ℕ) → Option ℕ) : Type 0 where
  none : ((xs : List (List ℕ)) → G xs ≡ Some 1) → Command G
  one : (R : Reader) (m : Mode) → Good R → ((xs : List (List ℕ)) → G xs ≡ at R m 2 xs) → Command G

-- the one or the other, by a test
pub or_else : {A : Type 0} (f : A → Option ℕ) (b : Bool) (X Y : List (List ℕ) → A) → Command (λ xs. f (X xs)) → Command (λ xs. f (Y xs)) → Command (λ xs. f (cond b (X xs) (Y xs)))
or_else f true X Y x y = x
or_else f false X Y x y = y

pub commands_stop : (G : List (List ℕ) → Option ℕ) (line : List (List ℕ)) → G [] ≡ Some 1 → G line ≡ None
    → ((w : List ℕ) → Command (λ xs. G (w ∷ xs))) → (ws : List (List ℕ)) (n : ℕ) → G ws ≡ Some n → Stops G 1 ws n
commands_stop G line empty fine command [] n e = at_end G 1 n line fine (inl empty) e
commands_stop G line empty fine command (w ∷ ws) n e = by (command w)
  where
    by : Command (λ xs. G (w ∷ xs)) → Stops G 1 (w ∷ ws) n
    by (none all) = here G 1 n w ws line fine all e
    by (one R m good to) = behind (at R m 2) G 1 n w ws to (good.stopped ws m 2 n (sym (to ws) ∙ e))
