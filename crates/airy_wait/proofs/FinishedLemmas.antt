-- Behind a `finish` one list of replies is admitted.
use Rattle.std.proofs.Common.{◌≡◌, ◌⊎◌, inl, inr, ℕ, Bool, true, false, List, [], ◌∷◌, map, refl, sym, ap, ap₂, ◌∙◌, subst, ◌&&◌, cond, Option, Some, IsTrue}
use Rattle.run_reports.proofs.Names.{Key, planned, place_of, are_below, Outcome, outcomes, Line}
use lib.Dec.{ltb}
use lib.ListN.{get_or}
use Rattle.airy_math.specs.Levels.{euler_of}
use Rattle.airy_math.specs.Shapes.{covers}
use Rattle.amp_plan.specs.declared.place.Place.{Place}
use Rattle.amp_plan.specs.declared.place.Place.TheVariants as place
use Rattle.amp_terms.specs.declared.Outcome.TheVariants as outcome
use Rattle.ask_seats.specs.Replies.{Reply, NotYet}
use Rattle.ask_seats.specs.Sessions.{Session, Stage, Replied, IsAdmitted, start, finish, behind, told, told_at, place_at, outcome_reply, is_rank, is_open, is_unsettled}
use Rattle.ask_seats.proofs.ReplyLemmas.{behind-bound, behind-finished}
use Rattle.command_words.specs.declared.line.Line.TheVariants.{Ask, Finish}
use Rattle.airy_wait.specs.Finished.{OneListLaw}

never_rank : (b : Bool) (p : Place) → (is_rank (cond b place.Beyond p) && b) ≡ true → ⊥
unfolding is_rank
never_rank true p e = cc
never_rank false p e = by (is_rank p) e
  where
    by : (c : Bool) → (c && false) ≡ true → ⊥
    by true e = cc
    by false e = cc

module _ (s : Session) (X : ℕ) where
  -- what there is to tell is never `not yet`
  not_waiting : (key : Key) → told s.tensors s.letter X key ≡ NotYet → ⊥
  unfolding told told_at outcome_reply
  not_waiting key = by (place_at s.tensors X key)
    where
      of : (o : Outcome) → outcome_reply s.tensors s.letter X key o ≡ NotYet → ⊥
      of (outcome.Value v) e = cc
      of outcome.Over e = cc
      of (outcome.Blocked r) e = cc

      by : (p : Place) → told_at s.tensors s.letter X key p ≡ NotYet → ⊥
      by (place.At r) e = of (get_or (outcomes s.tensors X) r outcome.Over) e
      by place.Zero e = cc
      by place.Beyond e = cc
      by place.BadIndex e = cc

  -- no key is unsettled where `finish` stood with the bound of the plan
  settled : (stage : Stage) → stage.bound ≡ X → stage.finished ≡ Some X → (key : Key) → is_unsettled s stage key ≡ true → ⊥
  unfolding is_unsettled is_open place_at
  settled stage bound finished key e =
      never_rank (ltb X (euler_of key)) _ (sym (ap₂ (λ b f. is_rank (place_at s.tensors b key) && is_open f (euler_of key)) bound finished) ∙ e)

  all_told : (keys : List Key) (stage : Stage) (replies : List Reply) → stage.bound ≡ X → stage.finished ≡ Some X
      → Replied s.tensors (IsAdmitted s) stage (map Ask keys) replies → replies ≡ map (told s.tensors s.letter X) keys
  unfolding Replied
  all_told [] stage [] bound finished r = refl
  all_told [] stage (reply ∷ replies) bound finished r = absurd r
  all_told (key ∷ keys) stage [] bound finished r = absurd r
  all_told (key ∷ keys) stage (reply ∷ replies) bound finished r =
      ap₂ (λ a b. a ∷ b) (by r.0.said)
      (all_told keys (behind stage key reply) replies (behind-bound stage key reply ∙ bound) (behind-finished stage key reply ∙ finished) r.1)
    where
      by : (reply ≡ told s.tensors s.letter stage.bound key) ⊎ ((reply ≡ NotYet) × IsTrue (is_unsettled s stage key)) → reply ≡ told s.tensors s.letter X key
      by (inl e) = e ∙ ap (λ b. told s.tensors s.letter b key) bound
      by (inr w) = absurd (settled stage bound finished key w.1)

  told_admitted : (keys : List Key) (stage : Stage) → stage.bound ≡ X → stage.finished ≡ Some X
      → Replied s.tensors (IsAdmitted s) stage (map Ask keys) (map (told s.tensors s.letter X) keys)
  unfolding Replied
  told_admitted [] stage bound finished = tt
  told_admitted (key ∷ keys) stage bound finished = (
    record {
      said = inl (ap (λ b. told s.tensors s.letter b key) (sym bound));
      kept = λ e. absurd (not_waiting key e);
      alone = λ none u. absurd (settled stage bound finished key u);
    },
    let reply = told s.tensors s.letter X key in
        told_admitted keys (behind stage key reply) (behind-bound stage key reply ∙ bound) (behind-finished stage key reply ∙ finished),
  )

pub one_list : OneListLaw
unfolding Replied finish
one_list s X keys replies = (
  all_told s X keys (finish (start X)) replies refl refl,
  λ e. subst (λ r. Replied s.tensors (IsAdmitted s) (finish (start X)) (map Ask keys) r) (sym e) (told_admitted s X keys (finish (start X)) refl refl),
)
