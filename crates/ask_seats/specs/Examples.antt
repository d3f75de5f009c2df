-- Sessions with their replies, each by computation.
use mathlib.Core.Path.{◌≡◌, refl}
use mathlib.Core.List.{[], ◌∷◌}
use mathlib.Core.Bool.{true, false}
use mathlib.Core.Logic.{inl, inr}
use lib.IntN.{pos}
use Rattle.airy_math.specs.Rational.{◌/ℚ◌}
use Rattle.airy_math.specs.RationalLaws.{0ℚ}
use Rattle.airy_math.specs.Keys.{Key, key_of}
use Rattle.airy_math.specs.Named.{wk}
use Rattle.airy_math.specs.Levels.{euler_of}
use Rattle.airy_math.specs.Ranks.{key_at}
use Rattle.airy_math.specs.Terms.{StandsIn}
use Rattle.airy_math.specs.Keys.{total}
use Rattle.airy_math.specs.Terms.{needs}
use Rattle.airy_math.specs.Ranks.{place_of}
use Rattle.amp_plan.specs.Limits.{limit, past}
use Rattle.amp_plan.specs.Needs.{has, named_ranks, needs_rank, needed, need_counts, first_past}
use Rattle.amp_plan.specs.Places.{are_below}
use Rattle.amp_terms.specs.Examples.{outcomes_compute, large}
use Prim.Native.Nat.{ℕ, ◌^◌}
use Rattle.std.specs.Prelude.{codes, IsTrue}
use Rattle.ask_seats.specs.Replies.{Reply, Value, Over, Blocked, NotYet, Zero, Beyond, BadIndex, GrownTo, reply_text, line_text, lines_text}
use Rattle.ask_seats.specs.Sessions.{Session, Stage, IsAdmitted, Admitted, Replied, start, finish, behind}
use Rattle.ask_seats.specs.Sessions.{place_at, is_rank, outcome_reply, told_at, told, is_open, is_unsettled, growth, bound_after, grown}
use Rattle.command_words.specs.declared.line.Line.TheVariants.{Ask, Finish, Grow}

-- To name this on an `unfolding` line opens the definitions of sessions, too.
unfoldable pub sessions_compute : Session → Session
unfolding outcomes_compute Replied finish behind place_at is_rank outcome_reply told_at told is_open is_unsettled
    growth bound_after grown limit past need_counts needed needs_rank named_ranks has first_past total needs place_of
    euler_of are_below key_at StandsIn
sessions_compute s = s

-- what there is to tell is admitted to an ask for a key that is settled, or not planned
tells : {s : Session} {stage : Stage} {key : Key} {reply : Reply}
    → reply ≡ told s.tensors s.letter stage.bound key → (reply ≡ NotYet → ⊥) → (IsTrue (is_unsettled s stage key) → ⊥)
    → IsAdmitted s stage key reply
tells said told_now settled = record { said = inl said; kept = λ e. absurd (told_now e); alone = λ e u. absurd (settled u) }

-- wk up to 1 without workers: `not yet` before `finish`, and 1 behind it
wk_1 : Admitted (record { tensors = wk 1; letter = false; crew = 0 }) 1
    (Ask (key_of 0 (0 ∷ 0 ∷ 0 ∷ [])) ∷ Finish ∷ Ask (key_of 0 (0 ∷ 0 ∷ 0 ∷ [])) ∷ [])
    (NotYet ∷ Value (pos 1 /ℚ 1) 0 ∷ [])
unfolding sessions_compute
wk_1 = (record { said = inr (refl, refl); kept = λ e k planned h r. h; alone = λ e u. refl }, (tells refl (λ e. cc) (λ u. cc), tt))

-- wk up to 1 without workers, and then up to 2: 0,4 [0 0 0 1] is beyond, then not filled, then 3; 0,3 [0 0 0] is settled, and stays 1
wk_grown : Admitted (record { tensors = wk 2; letter = false; crew = 0 }) 1
    (Finish ∷ Ask (key_of 0 (0 ∷ 0 ∷ 0 ∷ 1 ∷ [])) ∷ Grow 2 ∷ Ask (key_of 0 (0 ∷ 0 ∷ 0 ∷ 1 ∷ [])) ∷ Ask (key_of 0 (0 ∷ 0 ∷ 0 ∷ []))
    ∷ Finish ∷ Ask (key_of 0 (0 ∷ 0 ∷ 0 ∷ 1 ∷ [])) ∷ [])
    (Beyond ∷ GrownTo 2 ∷ NotYet ∷ Value (pos 1 /ℚ 1) 0 ∷ Value (pos 3 /ℚ 1) 0 ∷ [])
unfolding sessions_compute
wk_grown = (
  tells refl (λ e. cc) (λ u. cc),
  (
    refl,
    (
      record { said = inr (refl, refl); kept = λ e k planned h r. h; alone = λ e u. refl },
      (tells refl (λ e. cc) (λ u. cc), (tells refl (λ e. cc) (λ u. cc), tt)),
    ),
  ),
)

-- wk up to 3 with four workers, behind `finish`: 3 at 0,4 [0 0 0 1]; 1,1 [5] and 0,4 [0 0 0 0] aren't covered; 3,1 [7] has the Euler
-- number 5
wk_3 : Admitted (record { tensors = wk 4; letter = false; crew = 4 }) 3
    (Finish ∷ Ask (key_of 0 (0 ∷ 0 ∷ 0 ∷ 1 ∷ [])) ∷ Ask (key_of 1 (5 ∷ [])) ∷ Ask (key_of 3 (7 ∷ []))
    ∷ Ask (key_of 0 (0 ∷ 0 ∷ 0 ∷ 0 ∷ [])) ∷ [])
    (Value (pos 3 /ℚ 1) 0 ∷ Zero ∷ Beyond ∷ Zero ∷ [])
unfolding sessions_compute
wk_3 = (
  tells refl (λ e. cc) (λ u. cc),
  (
    tells refl (λ e. cc) (λ u. cc),
    (tells refl (λ e. cc) (λ u. cc), (tells refl (λ e. cc) (λ u. cc), tt)),
  ),
)

-- one index, `A = 2^126` and `B = 1`, behind `finish`: 0,4 leaves the range, 0,5 rests on it, 1,3 is 0, and there is no index 1
large_3 : Admitted (record { tensors = large; letter = false; crew = 2 }) 3
    (Finish ∷ Ask (key_of 0 (0 ∷ 0 ∷ 0 ∷ [])) ∷ Ask (key_of 0 (0 ∷ 0 ∷ 0 ∷ 0 ∷ []))
    ∷ Ask (key_of 0 (0 ∷ 0 ∷ 0 ∷ 0 ∷ 0 ∷ [])) ∷ Ask (key_of 1 (0 ∷ 0 ∷ 0 ∷ [])) ∷ Ask (key_of 0 (0 ∷ 0 ∷ 0 ∷ 1 ∷ [])) ∷ [])
    (Value (pos (2 ^ 126) /ℚ 1) 0 ∷ Over ∷ Blocked (key_of 0 (0 ∷ 0 ∷ 0 ∷ 0 ∷ [])) ∷ Value 0ℚ 0 ∷ BadIndex ∷ [])
unfolding sessions_compute large
large_3 = (
  tells refl (λ e. cc) (λ u. cc),
  (
    tells refl (λ e. cc) (λ u. cc),
    (tells refl (λ e. cc) (λ u. cc), (tells refl (λ e. cc) (λ u. cc), (tells refl (λ e. cc) (λ u. cc), tt))),
  ),
)

-- the lines of some replies
replies_text : lines_text (Over ∷ NotYet ∷ Zero ∷ BadIndex ∷ []) ≡ codes "over\nnot yet\nzero\nno such index\n"
unfolding lines_text line_text reply_text
replies_text = refl
