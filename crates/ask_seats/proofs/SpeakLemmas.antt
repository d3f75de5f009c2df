-- What a session says is admitted.
use Rattle.std.proofs.lemmas.Bool.{cases_lt, and_parts}
use lib.ListN.{get_or}
use Rattle.airy_math.specs.Shapes.{covers}
use Rattle.airy_math.specs.Planned.{planned}
use Rattle.airy_math.proofs.NeedsLaw.{needs_first}
use Rattle.airy_math.specs.Terms.{RestsOn}
use Rattle.amp_plan.specs.Places.{are_below}
use Rattle.amp_terms.specs.Outcomes.{outcomes}
use Rattle.amp_plan.proofs.PlaceLemmas.{at_rank, rank_within, key_of_rank}
use Rattle.ask_seats.proofs.Names.{true≢false, ◌≡◌, ◌≢◌, ◌⊎◌, inl, inr, ℕ, ◌<◌, ◌≤◌, Bool, true, false, List, [], ◌∷◌, ◌++◌, Option, Some, None, arith, refl, sym, ap, ◌∙◌, subst, append_assoc, ltb-true, ltb-false, lt-ltb, le-ltb, cond, ◌&&◌, nat_eq, IsTrue, ltb, Key, euler_of, Tensors, IsPlanned, limit, ListsPlanned, place_of, StandsIn, IsKey, Planning, tensors_of, keys_of, key_at, place_in, Place, Outcome, cells, Reaches, Reply, line_text, lines_text, Session, Stage, Replied, IsAdmitted, IsOrRestsOn, start, finish, growth, grown, bound_after, behind, told, told_at, outcome_reply, place_at, is_rank, is_open, is_unsettled, session_of, Rises, told_of, holds_back, Hears, IsGood, Stands, stage_after, Line, Ask, Finish, Grow}
use Rattle.ask_seats.specs.Replies.{Value, Over, Blocked, NotYet, Zero, Beyond, BadIndex, GrownTo, ManyCells, ManyNeeds}
use Rattle.ask_seats.specs.Talks.{tells, misses, waits}
use Rattle.ask_seats.proofs.PlaceLemmas.{same_place}
use Rattle.ask_seats.proofs.ReplyLemmas.{behind-bound, grows-up, rises-lower}
use Rattle.amp_plan.specs.declared.place.Place.TheVariants as place
use Rattle.amp_terms.specs.declared.Outcome.TheVariants as outcome

-- ---- lists of replies

-- what holds where there are no lines, and at each line where it holds behind it, holds along all lines with their replies
module _ (T : Tensors) (P : Stage → Key → Reply → Type 0) (Q : Stage → List Line → List Reply → Type 0) (none : (st : Stage) → Q st [] []) (done : (st : Stage) (ls : List Line) (rs : List Reply) → Q (finish st) ls rs → Q st (Finish ∷ ls) rs)
    (ask : (st : Stage) (key : Key) (r : Reply) (ls : List Line) (rs : List Reply) → P st key r → Q (behind st key r) ls rs → Q st (Ask key ∷ ls) (r ∷ rs))
    (grow : (st : Stage) (Y : ℕ) (r : Reply) (ls : List Line) (rs : List Reply) → r ≡ growth (limit T Y) Y → Q (grown T Y st) ls rs → Q st (Grow Y ∷ ls) (r ∷ rs)) where
  pub along : (st : Stage) (ls : List Line) (rs : List Reply) → Replied T P st ls rs → Q st ls rs
  unfolding Replied
  along st [] [] h = none st
  along st [] (r ∷ rs) h = absurd h
  along st (Finish ∷ ls) rs h = done st ls rs (along (finish st) ls rs h)
  along st (Ask key ∷ ls) [] h = absurd h
  along st (Ask key ∷ ls) (r ∷ rs) h = ask st key r ls rs h.0 (along (behind st key r) ls rs h.1)
  along st (Grow Y ∷ ls) [] h = absurd h
  along st (Grow Y ∷ ls) (r ∷ rs) h = grow st Y r ls rs h.0 (along (grown T Y st) ls rs h.1)

pub replied-append : (T : Tensors) (P : Stage → Key → Reply → Type 0) (st : Stage) (ls ms : List Line) (rs qs : List Reply) → Replied T P st ls rs → Replied T P (stage_after T st ls rs) ms qs → Replied T P st (ls ++ ms) (rs ++ qs)
unfolding Replied stage_after
replied-append T P st ls ms rs qs h =
    along T P (λ st ls rs. Replied T P (stage_after T st ls rs) ms qs → Replied T P st (ls ++ ms) (rs ++ qs)) (λ st k. k) (λ st ls rs k. k) (λ st key r ls rs p k rest. (p, k rest)) (λ st Y r ls rs e k rest. (e, k rest)) st ls rs h

pub after-append : (T : Tensors) (P : Stage → Key → Reply → Type 0) (st : Stage) (ls ms : List Line) (rs qs : List Reply) → Replied T P st ls rs → stage_after T st (ls ++ ms) (rs ++ qs) ≡ stage_after T (stage_after T st ls rs) ms qs
unfolding stage_after
after-append T P st ls ms rs qs h =
    along T P (λ st ls rs. stage_after T st (ls ++ ms) (rs ++ qs) ≡ stage_after T (stage_after T st ls rs) ms qs) (λ st. refl) (λ st ls rs k. k) (λ st key r ls rs p k. k) (λ st Y r ls rs e k. k) st ls rs h

pub text-append : (rs qs : List Reply) → lines_text (rs ++ qs) ≡ lines_text rs ++ lines_text qs
unfolding lines_text
text-append [] qs = refl
text-append (r ∷ rs) qs = ap (λ l. line_text r ++ l) (text-append rs qs) ∙ sym (append_assoc (line_text r) (lines_text rs) (lines_text qs))

-- ---- what there is to tell

is_told : Reply → Bool
is_told NotYet = false
is_told _ = true

not_not_yet : (r : Reply) → is_told r ≡ true → r ≡ NotYet → ⊥
unfolding is_told
not_not_yet r h e = let clash : true ≡ false = sym h ∙ ap is_told e in cc

outcome_told : (T : Tensors) (letter : Bool) (X : ℕ) (key : Key) (o : Outcome) → is_told (outcome_reply T letter X key o) ≡ true
unfolding outcome_reply is_told
outcome_told T letter X key (outcome.Value v) = refl
outcome_told T letter X key outcome.Over = refl
outcome_told T letter X key (outcome.Blocked r) = refl

place_told : (T : Tensors) (letter : Bool) (X : ℕ) (key : Key) (x : Place) → is_told (told_at T letter X key x) ≡ true
unfolding told_at is_told
place_told T letter X key (place.At r) = outcome_told T letter X key (get_or (outcomes T X) r outcome.Over)
place_told T letter X key place.Zero = refl
place_told T letter X key place.Beyond = refl
place_told T letter X key place.BadIndex = refl

told_tells : (T : Tensors) (letter : Bool) (X : ℕ) (key : Key) → told T letter X key ≡ NotYet → ⊥
unfolding told
told_tells T letter X key e = not_not_yet _ (place_told T letter X key (place_at T X key)) e

-- the outcome of a planned key is given, and nothing else is
behind-outcome : (st : Stage) (T : Tensors) (letter : Bool) (X : ℕ) (key : Key) (o : Outcome) → behind st key (outcome_reply T letter X key o) ≡ record st { given = key ∷ st.given }
unfolding behind outcome_reply
behind-outcome st T letter X key (outcome.Value v) = refl
behind-outcome st T letter X key outcome.Over = refl
behind-outcome st T letter X key (outcome.Blocked r) = refl

pub behind-told : (st : Stage) (T : Tensors) (letter : Bool) (X : ℕ) (key : Key) (x : Place) → behind st key (told_at T letter X key x) ≡ cond (is_rank x) (record st { given = key ∷ st.given }) st
unfolding behind told_at is_rank
behind-told st T letter X key (place.At r) = behind-outcome st T letter X key (get_or (outcomes T X) r outcome.Over)
behind-told st T letter X key place.Zero = refl
behind-told st T letter X key place.Beyond = refl
behind-told st T letter X key place.BadIndex = refl

-- a planned key's Euler number is within the bound
pub planned_within : (T : Tensors) (X : ℕ) (key : Key) → is_rank (place_at T X key) ≡ true → euler_of key ≤ X
unfolding place_at is_rank
planned_within T X key h = by (ltb X (euler_of key)) refl
  where
    by : (b : Bool) → ltb X (euler_of key) ≡ b → euler_of key ≤ X
    by true e = absurd (let clash : false ≡ true = rw e at h in cc)
    by false e = ltb-false X (euler_of key) e

-- what is settled is so at lower Euler numbers, too
open-higher : (o : Option ℕ) (d e : ℕ) → d ≤ e → is_open o d ≡ true → is_open o e ≡ true
unfolding is_open
open-higher None d e h is = refl
open-higher (Some X) d e h is = let l = ltb-true X d is in lt-ltb X e (omega arith)

-- what a planned key rests on has a smaller Euler number
pub lower : (T : Tensors) (X : ℕ) (other key : Key) → IsPlanned T X other → IsOrRestsOn T other key → euler_of key ≤ euler_of other
lower T X other key is (inl e) = subst (λ k. euler_of key ≤ euler_of k) (sym e) (omega arith)
lower T X other key is (inr r) = let l = ((needs_first T X other is).rests key r).smaller in omega arith

-- a key that is not settled isn't one that was given without workers, nor does such a key rest on it
not_quiet : (s : Session) (st : Stage) (key : Key) → IsGood s st → s.crew ≡ 0 → is_open st.finished (euler_of key) ≡ true
    → (other : Key) → IsPlanned s.tensors st.bound other → StandsIn other st.given → IsOrRestsOn s.tensors other key → ⊥
not_quiet s st key g none is other planned_other i reach =
    true≢false (sym (open-higher st.finished (euler_of key) (euler_of other) (lower s.tensors st.bound other key planned_other reach) is) ∙ g.quiet none other i)

some_rank : (x : Place) → is_rank x ≡ true → (r : ℕ) × (x ≡ place.At r)
unfolding is_rank
some_rank (place.At r) h = (r, refl)
some_rank place.Zero h = cc
some_rank place.Beyond h = cc
some_rank place.BadIndex h = cc

-- a rank's key stands at it
rank_is : (p : Planning) (r : ℕ) → ListsPlanned (tensors_of p) p.bound → r < cells p → place_of (key_at p r) (keys_of p) ≡ r
unfolding keys_of key_at
rank_is p r lists low = lists.once r low

-- ---- one reply

held : (crew : ℕ) (o : Option ℕ) (e : ℕ) → crew ≡ 0 → is_open o e ≡ true → holds_back crew o e ≡ true
held crew o e none is = rw (none, is) refl

held_none : (crew : ℕ) (o : Option ℕ) (e : ℕ) → holds_back crew o e ≡ true → crew ≡ 0
held_none crew o e h = let parts = and_parts (nat_eq crew 0) (is_open o e) h in grind (arith, parts)

-- a stage at which one planned key more is given
pub good-more : (s : Session) (st : Stage) (key : Key) → IsGood s st → euler_of key ≤ st.bound → (s.crew ≡ 0 → is_open st.finished (euler_of key) ≡ false) → IsGood s (record st { given = key ∷ st.given })
unfolding StandsIn
good-more s st key g within quiet = record {
  low = λ other i. low other i;
  finished = g.finished;
  quiet = λ none other i. shut none other i;
}
  where
    low : (other : Key) → (other ≡ key) ⊎ StandsIn other st.given → euler_of other ≤ st.bound
    low other (inl e) = subst (λ k. euler_of k ≤ st.bound) (sym e) within
    low other (inr i) = g.low other i

    shut : s.crew ≡ 0 → (other : Key) → (other ≡ key) ⊎ StandsIn other st.given → is_open st.finished (euler_of other) ≡ false
    shut none other (inl e) = ap (λ k. is_open st.finished (euler_of k)) e ∙ quiet none
    shut none other (inr i) = g.quiet none other i

-- what a seat stands for it stands for when it knows more
pub stands-map : (p : Planning) (crew : ℕ) (Knew Knows : ℕ → Type 0) (st : Stage) → ((r : ℕ) → r < cells p → Knew r → Knows r) → Stands p crew Knew st → Stands p crew Knows st
stands-map p crew Knew Knows st k h = record { bound = h.bound; planned = h.planned; given = λ other r i low e. k r low (h.given other r i low e); settled = λ X r e low w. k r low (h.settled X r e low w); good = h.good }

module _ (p : Planning) (crew : ℕ) (finished : Option ℕ) (lists : ListsPlanned (tensors_of p) p.bound) where
  rank_planned : (r : ℕ) → r < cells p → IsPlanned (tensors_of p) p.bound (key_at p r)
  unfolding keys_of key_at
  rank_planned r low = lists.only r low

  -- a stage at which one key more is given, which the seat knows with all that it rests on
  one_more : (Knew Knows : ℕ → Type 0) (st : Stage) (key : Key) (r : ℕ) → Stands p crew Knew st → ((q : ℕ) → Knew q → Knows q) → key_at p r ≡ key → r < cells p
      → ((q : ℕ) → q < cells p → Reaches p r q → Knows q) → (crew ≡ 0 → is_open st.finished (euler_of key) ≡ false) → Stands p crew Knows (record st { given = key ∷ st.given })
  unfolding StandsIn euler_of
  one_more Knew Knows st key r h k is low known quiet = record {
    bound = h.bound;
    planned = λ other i. is_planned other i;
    given = λ other q i low' e. by other q low' i e;
    settled = λ X q e low' w. k q (h.settled X q e low' w);
    good = good-more (session_of p crew) st key h.good (subst (λ X. euler_of key ≤ X) (sym h.bound) here.within) quiet;
  }
    where
      here : IsPlanned (tensors_of p) p.bound key
      here = subst (IsPlanned (tensors_of p) p.bound) is (rank_planned r low)

      is_planned : (other : Key) → (other ≡ key) ⊎ StandsIn other st.given → IsPlanned (tensors_of p) p.bound other
      is_planned other (inl e) = subst (IsPlanned (tensors_of p) p.bound) (sym e) here
      is_planned other (inr i) = h.planned other i

      once : (q : ℕ) → q < cells p → key_at p r ≡ key_at p q → r ≡ q
      once q low' e = sym (rank_is p r lists low) ∙ ap (λ k. place_of k (keys_of p)) e ∙ rank_is p q lists low'

      by : (other : Key) (q : ℕ) → q < cells p → (other ≡ key) ⊎ StandsIn other st.given → (other ≡ key_at p q) ⊎ RestsOn (tensors_of p) other (key_at p q) → Knows q
      by other q low' (inl e) (inl f) = known q low' (inl (once q low' (is ∙ sym e ∙ f)))
      by other q low' (inl e) (inr f) = known q low' (inr (subst (λ k. RestsOn (tensors_of p) k (key_at p q)) (e ∙ sym is) f))
      by other q low' (inr i) e = k q (h.given other q i low' e)

  place_here : (st : Stage) (key : Key) → st.bound ≡ p.bound → place_in p key ≡ place_at (tensors_of p) st.bound key
  place_here st key e = same_place p key ∙ ap (λ X. place_at (tensors_of p) X key) (sym e)

  -- a planned key that is told is settled, where there are no workers
  quiet : (key : Key) (r : ℕ) → place_in p key ≡ place.At r → (holds_back crew finished (euler_of key) ≡ true → (r : ℕ) → place_in p key ≡ place.At r → ⊥) → crew ≡ 0 → is_open finished (euler_of key) ≡ false
  quiet key r at lone none = by (is_open finished (euler_of key)) refl
    where
      by : (b : Bool) → is_open finished (euler_of key) ≡ b → b ≡ false
      by true e = absurd (lone (held crew finished (euler_of key) none e) r at)
      by false e = refl

  next : (Knew Knows : ℕ → Type 0) (key : Key) (st : Stage) (x : Place) → place_in p key ≡ x → IsKey key.g key.idx → Stands p crew Knew st → st.finished ≡ finished → ((q : ℕ) → Knew q → Knows q)
      → ((r q : ℕ) → place_in p key ≡ place.At r → q < cells p → Reaches p r q → Knows q) → (holds_back crew finished (euler_of key) ≡ true → (r : ℕ) → place_in p key ≡ place.At r → ⊥)
      → Stands p crew Knows (cond (is_rank x) (record st { given = key ∷ st.given }) st)
  unfolding is_rank
  next Knew Knows key st (place.At r) e is h f k known lone =
      one_more Knew Knows st key r h k (key_of_rank p key r lists is e) (rank_within p key r lists is e) (λ q low reach. known r q e low reach)
      (λ none. ap (λ o. is_open o (euler_of key)) f ∙ quiet key r e lone none)
  next Knew Knows key st place.Zero e is h f k known lone = stands-map p crew Knew Knows st (λ r _. k r) h
  next Knew Knows key st place.Beyond e is h f k known lone = stands-map p crew Knew Knows st (λ r _. k r) h
  next Knew Knows key st place.BadIndex e is h f k known lone = stands-map p crew Knew Knows st (λ r _. k r) h

  -- what is not known is not settled
  still_open : (Knew : ℕ → Type 0) (key : Key) (st : Stage) (r : ℕ) (o : Option ℕ) → st.finished ≡ o → Stands p crew Knew st → key_at p r ≡ key → r < cells p → (Knew r → ⊥) → is_open o (euler_of key) ≡ true
  unfolding is_open
  still_open Knew key st r None f h is low unknown = refl
  still_open Knew key st r (Some X) f h is low unknown = by (cases_lt X (euler_of key))
    where
      by : (X < euler_of key) ⊎ (euler_of key ≤ X) → ltb X (euler_of key) ≡ true
      by (inl l) = lt-ltb X (euler_of key) l
      by (inr l) = absurd (unknown (h.settled X r f low (subst (λ k. euler_of k ≤ X) (sym is) l)))

  -- a planned key that is not settled
  unsettled_at : (key : Key) (st : Stage) (r : ℕ) → st.bound ≡ p.bound → place_in p key ≡ place.At r → is_open st.finished (euler_of key) ≡ true → is_unsettled (session_of p crew) st key ≡ true
  unfolding is_unsettled is_rank
  unsettled_at key st r e at is = ap (λ b. b && is_open st.finished (euler_of key)) (ap is_rank (sym (place_here st key e) ∙ at)) ∙ is

  -- and what that is, taken apart
  unsettled_parts : (key : Key) (st : Stage) → st.bound ≡ p.bound → is_unsettled (session_of p crew) st key ≡ true → ((r : ℕ) × (place_in p key ≡ place.At r)) × (is_open st.finished (euler_of key) ≡ true)
  unfolding is_unsettled
  unsettled_parts key st e u =
      let parts = and_parts (is_rank (place_at (tensors_of p) st.bound key)) (is_open st.finished (euler_of key)) u in
      let rank = some_rank (place_at (tensors_of p) st.bound key) parts.0 in ((rank.0, place_here st key e ∙ rank.1), parts.1)

  -- what a session hears is admitted, and its seat stands behind it
  pub hear-admitted : (Knew Knows : ℕ → Type 0) (key : Key) (reply : Reply) (st : Stage) → IsKey key.g key.idx → Stands p crew Knew st → st.finished ≡ finished → ((r : ℕ) → Knew r → Knows r)
      → Hears p crew finished key Knew Knows reply → IsAdmitted (session_of p crew) st key reply × Stands p crew Knows (behind st key reply)
  unfolding told behind
  hear-admitted Knew Knows key reply st is h f k (tells e known lone) = (
    record {
      said = inl (e ∙ ap (λ X. told (tensors_of p) p.tensors.letter X key) (sym h.bound));
      kept = λ n. absurd (told_tells (tensors_of p) p.tensors.letter p.bound key (sym e ∙ n));
      alone = λ none u. let parts = unsettled_parts key st h.bound u in
          absurd (lone (held crew finished (euler_of key) none (ap (λ o. is_open o (euler_of key)) (sym f) ∙ parts.1)) parts.0.0 parts.0.1);
    },
    subst (λ r. Stands p crew Knows (behind st key r)) (sym e)
        (subst (Stands p crew Knows) (sym (behind-told st (tensors_of p) p.tensors.letter p.bound key (place_at (tensors_of p) p.bound key)))
        (next Knew Knows key st (place_at (tensors_of p) p.bound key) (same_place p key) is h f k known lone)),
  )
  hear-admitted Knew Knows key reply st is h f k (misses e r at unknown) =
      let here = key_of_rank p key r lists is at in let low = rank_within p key r lists is at in (
        record {
          said = inr (e, unsettled_at key st r h.bound at (still_open Knew key st r st.finished refl h here low unknown));
          kept = λ n other is_planned i reach. unknown (h.given other r i low (subst (λ k. (other ≡ k) ⊎ RestsOn (tensors_of p) other k) (sym here) reach));
          alone = λ none u. e;
        },
        subst (λ r. Stands p crew Knows (behind st key r)) (sym e) (stands-map p crew Knew Knows st (λ r _. k r) h),
      )
  hear-admitted Knew Knows key reply st is h f k (waits e r at back) =
      let free = ap (λ o. is_open o (euler_of key)) f ∙ (and_parts (nat_eq crew 0) (is_open finished (euler_of key)) back).1 in (
        record {
          said = inr (e, unsettled_at key st r h.bound at free);
          kept = λ n other is_planned i reach. not_quiet (session_of p crew) st key h.good (held_none crew finished (euler_of key) back) free other is_planned i reach;
          alone = λ none u. e;
        },
        subst (λ r. Stands p crew Knows (behind st key r)) (sym e) (stands-map p crew Knew Knows st (λ r _. k r) h),
      )

-- ---- whatever comes next

chosen : Bool → Reply → Reply
chosen true r = NotYet
chosen false r = r

good-told : (s : Session) (st : Stage) (key : Key) (x : Place) → place_at s.tensors st.bound key ≡ x → (nat_eq s.crew 0 && is_unsettled s st key) ≡ false → IsGood s st
    → IsGood s (cond (is_rank x) (record st { given = key ∷ st.given }) st)
unfolding is_rank is_unsettled
good-told s st key (place.At r) e no_wait g = good-more s st key g (planned_within s.tensors st.bound key (ap is_rank e)) (λ none. by none (is_open st.finished (euler_of key)) refl)
  where
    by : s.crew ≡ 0 → (b : Bool) → is_open st.finished (euler_of key) ≡ b → b ≡ false
    by none true f = let clash : false ≡ true = sym no_wait ∙ rw (none, e, f) refl in cc
    by none false f = refl
good-told s st key place.Zero e no_wait g = g
good-told s st key place.Beyond e no_wait g = g
good-told s st key place.BadIndex e no_wait g = g

unsettled_open : (s : Session) (st : Stage) (key : Key) → is_unsettled s st key ≡ true → is_open st.finished (euler_of key) ≡ true
unfolding is_unsettled
unsettled_open s st key u = (and_parts (is_rank (place_at s.tensors st.bound key)) (is_open st.finished (euler_of key)) u).1

good-step : (s : Session) (st : Stage) (key : Key) (b : Bool) → (nat_eq s.crew 0 && is_unsettled s st key) ≡ b → IsGood s st
    → IsAdmitted s st key (chosen b (told s.tensors s.letter st.bound key)) × IsGood s (behind st key (chosen b (told s.tensors s.letter st.bound key)))
unfolding chosen told behind
good-step s st key true e g =
    let parts = and_parts (nat_eq s.crew 0) (is_unsettled s st key) e in
    let none : s.crew ≡ 0 = grind (arith, parts) in (
      record { said = inr (refl, parts.1); kept = λ f other is_planned i reach. not_quiet s st key g none (unsettled_open s st key parts.1) other is_planned i reach; alone = λ _ _. refl },
      g,
    )
good-step s st key false e g = (
  record {
    said = inl refl;
    kept = λ f. absurd (told_tells s.tensors s.letter st.bound key f);
    alone = λ none u. let clash : false ≡ true = sym e ∙ both none u in absurd cc;
  },
  subst (IsGood s) (sym (behind-told st s.tensors s.letter st.bound key (place_at s.tensors st.bound key))) (good-told s st key (place_at s.tensors st.bound key) refl e g),
)
  where
    both : s.crew ≡ 0 → is_unsettled s st key ≡ true → (nat_eq s.crew 0 && is_unsettled s st key) ≡ true
    both none u = ap (λ n. nat_eq n 0 && is_unsettled s st key) none ∙ u

pub good-finish : (s : Session) (st : Stage) → IsGood s st → IsGood s (finish st)
unfolding finish is_open
good-finish s st g = record {
  low = g.low;
  finished = λ X e. let same : st.bound ≡ X = cc in omega arith;
  quiet = λ none other i. le-ltb st.bound (euler_of other) (g.low other i);
}

pub good-grown : (s : Session) (st : Stage) (Y : ℕ) → st.bound ≤ Y → IsGood s st → IsGood s (grown s.tensors Y st)
unfolding grown
good-grown s st Y h g =
    let up = (grows-up (limit s.tensors Y) st.bound Y h).0 in record {
      low = λ other i. let l = g.low other i in omega arith;
      finished = λ X e. let l = g.finished X e in omega arith;
      quiet = g.quiet;
    }

-- admitted replies to any lines there are
pub complete : (s : Session) (st : Stage) (lines : List Line) → IsGood s st → Rises st.bound lines → (replies : List Reply) × Replied s.tensors (IsAdmitted s) st lines replies
unfolding Replied Rises finish grown
complete s st [] g up = ([], tt)
complete s st (Finish ∷ lines) g up = let rest = complete s (finish st) lines (good-finish s st g) up in (rest.0, rest.1)
complete s st (Ask key ∷ lines) g up =
    let b = nat_eq s.crew 0 && is_unsettled s st key in
    let reply = chosen b (told s.tensors s.letter st.bound key) in
    let step = good-step s st key b refl g in
    let rest = complete s (behind st key reply) lines step.1 (subst (λ X. Rises X lines) (sym (behind-bound st key reply)) up) in
    (reply ∷ rest.0, (step.0, rest.1))
complete s st (Grow Y ∷ lines) g up =
    let low : st.bound ≤ Y = omega (arith, up.0) in
    let rest = complete s (grown s.tensors Y st) lines (good-grown s st Y low g) (rises-lower (bound_after (limit s.tensors Y) st.bound Y) Y lines (grows-up (limit s.tensors Y) st.bound Y low).1 up.2) in
    (growth (limit s.tensors Y) Y ∷ rest.0, (refl, rest.1))

-- ---- along admitted replies

good-admitted : (s : Session) (st : Stage) (key : Key) (reply : Reply) (b : Bool) → (nat_eq s.crew 0 && is_unsettled s st key) ≡ b → IsGood s st → IsAdmitted s st key reply → IsGood s (behind st key reply)
unfolding behind told
good-admitted s st key reply true e g a =
    let parts = and_parts (nat_eq s.crew 0) (is_unsettled s st key) e in
    let none : s.crew ≡ 0 = grind (arith, parts) in
    subst (λ r. IsGood s (behind st key r)) (sym (a.alone none parts.1)) g
good-admitted s st key reply false e g a = by a.said
  where
    by : {B : Type 0} → (reply ≡ told s.tensors s.letter st.bound key) ⊎ ((reply ≡ NotYet) × B) → IsGood s (behind st key reply)
    by (inl said) = subst (λ r. IsGood s (behind st key r)) (sym said)
        (subst (IsGood s) (sym (behind-told st s.tensors s.letter st.bound key (place_at s.tensors st.bound key))) (good-told s st key (place_at s.tensors st.bound key) refl e g))
    by (inr silent) = subst (λ r. IsGood s (behind st key r)) (sym silent.0) g

-- a stage stays good, and the bounds of the lines behind it rise
pub good-along : (s : Session) (st : Stage) (lines rest : List Line) (replies : List Reply) → IsGood s st → Rises st.bound (lines ++ rest) → Replied s.tensors (IsAdmitted s) st lines replies
    → IsGood s (stage_after s.tensors st lines replies) × Rises (stage_after s.tensors st lines replies).bound rest
unfolding Rises stage_after finish grown
good-along s st lines rest replies g up r = along s.tensors (IsAdmitted s)
    (λ st ls rs. IsGood s st → Rises st.bound (ls ++ rest) → IsGood s (stage_after s.tensors st ls rs) × Rises (stage_after s.tensors st ls rs).bound rest)
    (λ st g up. (g, up))
    (λ st ls rs k g up. k (good-finish s st g) up)
    (λ st key reply ls rs a k g up. k (good-admitted s st key reply (nat_eq s.crew 0 && is_unsettled s st key) refl g a) (subst (λ X. Rises X (ls ++ rest)) (sym (behind-bound st key reply)) up))
    (λ st Y reply ls rs e k g up. let low : st.bound ≤ Y = omega (arith, up.0) in
    k (good-grown s st Y low g) (rises-lower (bound_after (limit s.tensors Y) st.bound Y) Y (ls ++ rest) (grows-up (limit s.tensors Y) st.bound Y low).1 up.2))
    st lines replies r g up

pub good-start : (s : Session) (X : ℕ) → IsGood s (start X)
unfolding StandsIn
good-start s X = record { low = λ other i. absurd i; finished = λ Y e. absurd (none_some Y e); quiet = λ none other i. absurd i }
  where
    none_some : (Y : ℕ) → None ≡ Some Y → ⊥
    none_some Y e = cc
