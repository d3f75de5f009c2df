-- Replies line by line.
use Rattle.amp_plan.specs.Limits.{Limit, Within, PassesBound, PassesCells, PassesNeeds}
use Rattle.ask_seats.proofs.Names.{cond, true, false, ◌≡◌, ◌⊎◌, inl, inr, ℕ, ◌<◌, ◌≤◌, List, [], ◌∷◌, ◌++◌, arith, refl, sym, ap, subst, ◌∙◌, AreAsks, Key, Tensors, limit, Reply, Stage, Replied, finish, behind, growth, grown, bound_after, Rises, Line, Ask, Finish, Grow}
use Rattle.ask_seats.specs.Sessions.{gives}
use Rattle.ask_seats.specs.Replies.{Value, Over, Blocked, NotYet, Zero, Beyond, BadIndex, GrownTo, ManyCells, ManyNeeds}

pub behind-bound : (stage : Stage) (key : Key) (reply : Reply) → (behind stage key reply).bound ≡ stage.bound
unfolding behind
behind-bound stage key reply = elim (gives reply) as (λ b. (cond b (record stage { given = key ∷ stage.given }) stage).bound ≡ stage.bound) [ true ↦ refl | false ↦ refl ]

pub behind-finished : (stage : Stage) (key : Key) (reply : Reply) → (behind stage key reply).finished ≡ stage.finished
unfolding behind
behind-finished stage key reply = elim (gives reply) as (λ b. (cond b (record stage { given = key ∷ stage.given }) stage).finished ≡ stage.finished) [ true ↦ refl | false ↦ refl ]

-- the bound behind a `grow` is not below the one before, nor above the new one
pub grows-up : (l : Limit) (X Y : ℕ) → X ≤ Y → (X ≤ bound_after l X Y) × (bound_after l X Y ≤ Y)
unfolding bound_after
grows-up Within X Y h = (h, omega arith)
grows-up PassesBound X Y h = (omega arith, h)
grows-up (PassesCells e) X Y h = (omega arith, h)
grows-up (PassesNeeds key) X Y h = (omega arith, h)

-- lines whose bounds rise from above Y rise from above any lower X
pub rises-lower : (X Y : ℕ) (lines : List Line) → X ≤ Y → Rises Y lines → Rises X lines
unfolding Rises
rises-lower X Y [] h r = tt
rises-lower X Y (Ask key ∷ lines) h r = rises-lower X Y lines h r
rises-lower X Y (Finish ∷ lines) h r = rises-lower X Y lines h r
rises-lower X Y (Grow Z ∷ lines) h r = let l = r.0 in (omega (arith, h, l), r.1, r.2)

-- lines that all ask have no bounds
pub rises-asks : (X : ℕ) (lines : List Line) → AreAsks lines → Rises X lines
unfolding AreAsks Rises
rises-asks X [] a = tt
rises-asks X (Ask key ∷ lines) a = rises-asks X lines a
rises-asks X (Finish ∷ lines) a = absurd a
rises-asks X (Grow Y ∷ lines) a = absurd a

-- no `grow` goes above C
unfoldable pub UpTo : ℕ → List Line → Type 0
UpTo C [] = Unit
UpTo C (Ask key ∷ lines) = UpTo C lines
UpTo C (Finish ∷ lines) = UpTo C lines
UpTo C (Grow Y ∷ lines) = (Y ≤ C) × UpTo C lines

-- what each reply has for P it has for Q, where that holds at each bound from B to C, and the limits of plans are the same
pub replied-map : (T U : Tensors) (P Q : Stage → Key → Reply → Type 0) (B C : ℕ) → ((Y : ℕ) → limit T Y ≡ limit U Y)
    → ((stage : Stage) (key : Key) (reply : Reply) → B ≤ stage.bound → stage.bound ≤ C → P stage key reply → Q stage key reply)
    → (stage : Stage) → B ≤ stage.bound → stage.bound ≤ C → (lines : List Line) (replies : List Reply) → Rises stage.bound lines → UpTo C lines
    → Replied T P stage lines replies → Replied U Q stage lines replies
unfolding Replied finish grown Rises UpTo
replied-map T U P Q B C same h stage e f [] [] up low r = tt
replied-map T U P Q B C same h stage e f [] (reply ∷ replies) up low r = r
replied-map T U P Q B C same h stage e f (Finish ∷ lines) replies up low r = replied-map T U P Q B C same h (finish stage) e f lines replies up low r
replied-map T U P Q B C same h stage e f (Ask key ∷ lines) [] up low r = r
replied-map T U P Q B C same h stage e f (Ask key ∷ lines) (reply ∷ replies) up low r =
    let is = sym (behind-bound stage key reply) in (
      h stage key reply e f r.0,
      replied-map T U P Q B C same h (behind stage key reply) (subst (λ X. B ≤ X) is e) (subst (λ X. X ≤ C) is f) lines replies (subst (λ X. Rises X lines) is up) low r.1,
    )
replied-map T U P Q B C same h stage e f (Grow Y ∷ lines) [] up low r = r
replied-map T U P Q B C same h stage e f (Grow Y ∷ lines) (reply ∷ replies) up low r =
    let b = grows-up (limit T Y) stage.bound Y (omega (arith, up.0)) in (
      r.0 ∙ ap (λ l. growth l Y) (same Y),
      subst (λ l. Replied U Q (record stage { bound = bound_after l stage.bound Y }) lines replies) (same Y)
          (replied-map T U P Q B C same h (grown T Y stage) (omega (arith, e, b.0)) (omega (arith, low.0, b.1)) lines replies (rises-lower (bound_after (limit T Y) stage.bound Y) Y lines b.1 up.2) low.1 r.1),
    )
