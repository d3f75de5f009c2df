-- Admitted replies show what every solution has.
use Rattle.std.proofs.Common.{◌≡◌, ◌⊎◌, inl, inr, ℕ, ◌<◌, ◌≤◌, refl, sym, ap, ◌∙◌, subst, arith}
use Rattle.std.specs.Prelude.{Bool, true, false, cond, List, [], ◌∷◌, ◌&&◌, Option, Some, None}
use lib.Dec.{ltb}
use lib.ListN.{get_or}
use Rattle.airy_math.specs.Keys.{Key}
use Rattle.airy_math.specs.Shapes.{covers}
use Rattle.airy_math.specs.Levels.{euler_of}
use Rattle.airy_math.specs.Cuts.{letter_of}
use Rattle.airy_math.specs.Tensors.{Tensors, SameEntries}
use Rattle.airy_math.specs.BelowDim.{BelowDimLaw}
use Rattle.series_law.specs.SameTables.{SameTablesLaw}
use Rattle.airy_math.specs.Planned.{planned}
use Rattle.airy_math.specs.Ranks.{place_of, key_at, PlanLaw}
use Rattle.airy_math.specs.Jobs.{Structure, IsSound, planned_tensors, Text, Lettered}
use Rattle.amp_plan.specs.Limits.{Limit, Within, PassesBound, PassesCells, PassesNeeds, limit}
use Rattle.amp_plan.specs.Places.{are_below}
use Rattle.amp_plan.specs.declared.place.Place.{Place}
use Rattle.amp_plan.specs.declared.place.Place.TheVariants as place
use Rattle.amp_terms.specs.declared.Outcome.{Outcome}
use Rattle.amp_terms.specs.declared.Outcome.TheVariants as outcome
use Rattle.amp_terms.specs.Outcomes.{outcomes}
use Rattle.series_law.specs.Jobs.{JobSessionLaw}
use Rattle.ask_seats.specs.Replies.{Reply, NotYet, Value, Blocked, lines_text}
use Rattle.ask_seats.specs.Sessions.{Stage, Replied, IsAdmitted, start, finish, behind, growth, grown, bound_after, told, told_at, place_at, outcome_reply, is_rank, is_open, is_unsettled}
use Rattle.ask_seats.proofs.ReplyLemmas.{behind-bound, grows-up}
use Rattle.command_words.specs.declared.line.Line.{Line}
use Rattle.command_words.specs.declared.line.Line.TheVariants.{Ask, Finish, Grow}
use Rattle.command_words.specs.Bounds.{reach}
use Rattle.command_words.specs.Lines.{Rises}
use Rattle.command_words.proofs.ScriptLemmas.{below_reach}
use Rattle.run_reports.specs.Structures.{has_letter, text_structure}
use Rattle.run_reports.specs.Report.{bound_refused}
use Rattle.run_reports.specs.Tables.{making_report, plan_report}
use Rattle.run_reports.specs.StructureTables.{is_bound, making_over, ArePlanned}
use Rattle.session_law.specs.Sessions.{answered, session_of, session_report, stored_session, IsShown, SessionShownLaw, SameRepliesLaw}
use Rattle.sparse_tensor.specs.Entries.{Entries, looked_up}
use Rattle.amp_plan.proofs.SameLimits.{limit_same}
use Rattle.run_reports.proofs.StatusLemmas.{IsPlain}
use Rattle.run_reports.proofs.StoredLemmas.{same_limit}
use Rattle.run_reports.proofs.HeadlineLemmas.{shown_value, TableShows}
use Rattle.run_reports.proofs.StructureLemmas.{entries_self}

module _ (s : Structure) (X Y : ℕ) (shows : TableShows s X Y) where
  abbrev T : Tensors
  T = planned_tensors s Y

  shown_outcome : (key : Key) (o : Outcome) → get_or (outcomes T X) (place_of key (planned T X)) outcome.Over ≡ o → IsShown s X Y key (outcome_reply T (has_letter s) X key o)
  unfolding IsShown outcome_reply
  shown_outcome key (outcome.Value w) e = shown_value s X Y shows key w e
  shown_outcome key outcome.Over e = tt
  shown_outcome key (outcome.Blocked r) e = tt

  shown_told : (key : Key) → IsShown s X Y key (told T (has_letter s) X key)
  unfolding told told_at place_at IsShown
  shown_told key = by (ltb X (euler_of key)) (covers T.shape key) (are_below T.dim key.idx) refl
    where
      by : (b c d : Bool) → covers T.shape key ≡ c
          → IsShown s X Y key (told_at T (has_letter s) X key (cond b place.Beyond (cond c (cond d (place.At (place_of key (planned T X))) place.BadIndex) place.Zero)))
      by true c d e = tt
      by false true true e = shown_outcome key _ refl
      by false true false e = tt
      by false false d e = λ m v f wide so sorted. (shows m v f wide so).zeros key sorted (inl e)

module _ (law : JobSessionLaw) (s : Structure) (Y crew : ℕ) (sound : IsSound s) where
  shown_one : (stage : Stage) (key : Key) (reply : Reply) → 0 < stage.bound → stage.bound ≤ Y → IsAdmitted (session_of s Y crew) stage key reply → IsShown s stage.bound Y key reply
  unfolding IsShown session_of
  shown_one stage key reply some most a = by a.said
    where
      by : {B : Type 0} → (reply ≡ told (planned_tensors s Y) (has_letter s) stage.bound key) ⊎ ((reply ≡ NotYet) × B) → IsShown s stage.bound Y key reply
      by (inl said) = subst (IsShown s stage.bound Y key) (sym said) (shown_told s stage.bound Y (λ m v f wide so. law s stage.bound Y sound some most m v f wide so) key)
      by (inr waits) = subst (IsShown s stage.bound Y key) (sym waits.0) tt

-- ---- replies at bounds that rise to Y at most

pub bounded : (X : ℕ) → 0 < X → X ≤ 24 → is_bound X ≡ true
unfolding is_bound
bounded X some most = grind arith

module _ (T : Tensors) (P Q : Stage → Key → Reply → Type 0) (Y : ℕ) (turn : (stage : Stage) (key : Key) (reply : Reply) → 0 < stage.bound → stage.bound ≤ Y → P stage key reply → Q stage key reply) where
  replied-rising : (stage : Stage) (X : ℕ) (lines : List Line) (replies : List Reply) → 0 < stage.bound → stage.bound ≤ X → Rises X lines → reach X lines ≤ Y → Replied T P stage lines replies → Replied T Q stage lines replies
  unfolding Replied finish grown Rises reach
  replied-rising stage X [] [] some low rise most r = tt
  replied-rising stage X [] (reply ∷ replies) some low rise most r = r
  replied-rising stage X (Finish ∷ lines) replies some low rise most r = replied-rising (finish stage) X lines replies some low rise most r
  replied-rising stage X (Ask key ∷ lines) [] some low rise most r = r
  replied-rising stage X (Ask key ∷ lines) (reply ∷ replies) some low rise most r =
      let e = behind-bound stage key reply in (
        turn stage key reply some (omega (arith, low, below_reach X lines rise, most)) r.0,
        replied-rising (behind stage key reply) X lines replies (subst (λ n. 0 < n) (sym e) some) (subst (λ n. n ≤ X) (sym e) low) rise most r.1,
      )
  replied-rising stage X (Grow Z ∷ lines) [] some low rise most r = r
  replied-rising stage X (Grow Z ∷ lines) (reply ∷ replies) some low rise most r =
      let up = grows-up (limit T Z) stage.bound Z (omega (arith, low, rise.0)) in
      let b : is_bound X ≡ true = bounded X (omega (arith, some, low)) (omega (arith, rise.0, rise.1)) in
      (r.0, replied-rising (grown T Z stage) Z lines replies (omega (arith, some, up.0)) up.1 rise.2 (subst (λ t. cond t (reach Z lines) X ≤ Y) b most) r.1)

pub shown_law : JobSessionLaw → SessionShownLaw
unfolding session_of
shown_law law s X Y crew lines replies sound some rise most admitted =
    replied-rising (planned_tensors s Y) _ _ Y (shown_one law s Y crew sound) (start X) X lines replies some (omega arith) rise most admitted

-- ---- tensors with the same entries below dim have the same admitted replies

module _ (T T' : Tensors) (letter : Bool) (crew : ℕ) (same : SameEntries T T') (below : BelowDimLaw) (tables : SameTablesLaw) where
  same_place_at : (X : ℕ) (key : Key) → place_at T X key ≡ place_at T' X key
  unfolding place_at
  same_place_at X key =
      ap (λ shape. cond (ltb X (euler_of key)) place.Beyond (cond (covers shape key) (cond (are_below T.dim key.idx) (place.At (place_of key (planned T X))) place.BadIndex) place.Zero)) same.shape
      ∙ ap (λ dim. cond (ltb X (euler_of key)) place.Beyond (cond (covers T'.shape key) (cond (are_below dim key.idx) (place.At (place_of key (planned T X))) place.BadIndex) place.Zero)) same.dim
      ∙ ap (λ plan. cond (ltb X (euler_of key)) place.Beyond (cond (covers T'.shape key) (cond (are_below T'.dim key.idx) (place.At (place_of key plan)) place.BadIndex) place.Zero)) ((below T T' same).plan X)

  same_outcome : (X : ℕ) (key : Key) (o : Outcome) → outcome_reply T letter X key o ≡ outcome_reply T' letter X key o
  unfolding outcome_reply
  same_outcome X key (outcome.Value v) = ap (λ shape. Value v (cond letter (letter_of shape key) 0)) same.shape
  same_outcome X key outcome.Over = refl
  same_outcome X key (outcome.Blocked r) = ap (λ plan. Blocked (key_at plan r)) ((below T T' same).plan X)

  same_told_at : (X : ℕ) (key : Key) (x : Place) → told_at T letter X key x ≡ told_at T' letter X key x
  unfolding told_at
  same_told_at X key (place.At r) = same_outcome X key (get_or (outcomes T X) r outcome.Over) ∙ ap (λ os. outcome_reply T' letter X key (get_or os r outcome.Over)) (tables T T' same X).outcomes
  same_told_at X key place.Zero = refl
  same_told_at X key place.Beyond = refl
  same_told_at X key place.BadIndex = refl

  pub same_told : (X : ℕ) (key : Key) → told T letter X key ≡ told T' letter X key
  unfolding told
  same_told X key = same_told_at X key (place_at T X key) ∙ ap (told_at T' letter X key) (same_place_at X key)

  same_unsettled : (st : Stage) (key : Key) → is_unsettled (record { tensors = T; letter = letter; crew = crew }) st key ≡ is_unsettled (record { tensors = T'; letter = letter; crew = crew }) st key
  unfolding is_unsettled
  same_unsettled st key = ap (λ x. is_rank x && is_open st.finished (euler_of key)) (same_place_at st.bound key)

  same_reply : (st : Stage) (key : Key) (reply : Reply) → IsAdmitted (record { tensors = T; letter = letter; crew = crew }) st key reply → IsAdmitted (record { tensors = T'; letter = letter; crew = crew }) st key reply
  same_reply st key reply a = record {
    said = elim a.said [ inl e ↦ inl (e ∙ same_told st.bound key) | inr w ↦ inr (w.0, sym (same_unsettled st key) ∙ w.1) ];
    kept = λ e other is_planned i reach.
        let here = ((below T T' same).planned_keys st.bound other).1 is_planned in
        a.kept e other here i (elim reach [ inl f ↦ inl f | inr r ↦ inr (((below T T' same).rests st.bound other key here).1 r) ]);
    alone = λ none u. a.alone none (same_unsettled st key ∙ u);
  }

  same_admitted : PlanLaw → (st : Stage) (lines : List Line) (replies : List Reply) → Replied T (IsAdmitted (record { tensors = T; letter = letter; crew = crew })) st lines replies
      → Replied T' (IsAdmitted (record { tensors = T'; letter = letter; crew = crew })) st lines replies
  unfolding Replied grown
  same_admitted once st [] [] r = tt
  same_admitted once st [] (reply ∷ replies) r = r
  same_admitted once st (Finish ∷ lines) replies r = same_admitted once (finish st) lines replies r
  same_admitted once st (Ask key ∷ lines) [] r = r
  same_admitted once st (Ask key ∷ lines) (reply ∷ replies) r = (same_reply st key reply r.0, same_admitted once (behind st key reply) lines replies r.1)
  same_admitted once st (Grow Z ∷ lines) [] r = r
  same_admitted once st (Grow Z ∷ lines) (reply ∷ replies) r =
      let e = limit_same T T' Z once (below T T' same) in (
        r.0 ∙ ap (λ l. growth l Z) e,
        subst (λ l. Replied T' (IsAdmitted (record { tensors = T'; letter = letter; crew = crew })) (record st { bound = bound_after l st.bound Z }) lines replies) e
            (same_admitted once (record st { bound = bound_after (limit T Z) st.bound Z }) lines replies r.1),
      )

pub same_replies : PlanLaw → BelowDimLaw → SameTablesLaw → SameRepliesLaw
same_replies once below tables T T' letter X crew lines replies same h = same_admitted T T' letter crew same below tables once (start X) lines replies h

-- ---- the report of a session

pub session-bound : (s : Structure) (X Y : ℕ) (replies : List Reply) → is_bound Y ≡ false → session_report s X Y replies ≡ bound_refused Y
unfolding session_report
session-bound s X Y replies e = rw e refl

pub session-stood : (s : Structure) (t : Entries) (X Y : ℕ) (replies : List Reply) → PlanLaw → BelowDimLaw → is_bound Y ≡ true → making_over s Y ≡ None → ArePlanned t s Y → session_report s X Y replies ≡ stored_session t X replies
unfolding session_report making_report stored_session
session-stood s t X Y replies once below bounded made stored = rw (bounded, made) (ap (λ l. plan_report X l (answered replies)) (sym (same_limit t (planned_tensors s Y) X once below stored.entries)))

-- what a session's replies rest on: laws, and a structure that is sound
pub record SessionLaws : Type 0 where
  pub shown : JobSessionLaw
  pub once : PlanLaw
  pub below : BelowDimLaw
  pub tables : SameTablesLaw

-- ---- of a text

pub text-planned : (t : Entries) (X : ℕ) → ArePlanned t (text_structure t) X
unfolding text_structure planned_tensors has_letter
text-planned t X = by t.letter refl
  where
    by : (b : Bool) → t.letter ≡ b → ArePlanned t (cond b (Lettered (looked_up t)) (Text (looked_up t))) X
    by true e = record { entries = entries_self (looked_up t); letter = e }
    by false e = record { entries = entries_self (looked_up t); letter = e }

-- ---- the statuses

pub plain_session : (s : Structure) (X Y : ℕ) (replies : List Reply) → IsPlain (session_report s X Y replies)
unfolding session_report making_report plan_report
plain_session s X Y replies = by (is_bound Y) (making_over s Y) (limit (planned_tensors s Y) X)
  where
    by : (b : Bool) (o : Option ℕ) (l : Limit) → IsPlain (cond b (making_report o (plan_report X l (record { status = 0; bytes = lines_text replies }))) (bound_refused Y))
    by false o l = record { is = inr (omega arith, omega arith) }
    by true (Some k) l = record { is = inr (omega arith, omega arith) }
    by true None Within = record { is = inl refl }
    by true None PassesBound = record { is = inr (omega arith, omega arith) }
    by true None (PassesCells level) = record { is = inr (omega arith, omega arith) }
    by true None (PassesNeeds key) = record { is = inr (omega arith, omega arith) }
