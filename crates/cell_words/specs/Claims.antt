-- What a claim answers.
use Rattle.std.specs.Prelude.{◌≡◌, ℕ, ◌<◌, Option, Some, None, true}
use Rattle.amp_plan.specs.Plans.{Planning}
use Rattle.amp_plan.specs.Needs.{has, needs_at}
use Rattle.cell_words.specs.Countdown.{CLAIMED, FILLED, Known, claimed, looked}
use Rattle.cell_words.specs.declared.view.View.{View}
use Rattle.cell_words.specs.declared.claim.Claim.{Claim}
use Rattle.cell_words.specs.declared.claim.Claim.TheVariants.{Mine, Needs, Taken, Done}

-- Mine: the word went from 0 to CLAIMED; the seat holds the rank and knows its needs. Else the call is a look: at a count of at
-- least 1, at CLAIMED, or at FILLED, and then the seat knows the rank.
abbrev pub Claims : Planning → ℕ → View → View → Option ℕ → Claim → Type 0
Claims p r old new held Mine = (held ≡ Some r) × (new ≡ claimed r old) × ((q : ℕ) → has q (needs_at p r) ≡ true → Known new q)
Claims p r old new held (Needs n) = (held ≡ None) × (new ≡ looked r n old) × (0 < n) × (n < CLAIMED)
Claims p r old new held Taken = (held ≡ None) × (new ≡ looked r CLAIMED old)
Claims p r old new held Done = (held ≡ None) × (new ≡ looked r FILLED old) × Known new r
