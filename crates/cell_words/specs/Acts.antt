-- The acts of a seat: those that are done, and the one that it is at.
use Rattle.std.specs.Prelude.{◌≡◌, ℕ, ◌<◌, List, [], ◌∷◌, ◌++◌, map, length, slice_index, Bool, true, Option, None, Some}
use Rattle.amp_plan.specs.Plans.{Planning}
use Rattle.amp_plan.specs.Needs.{dependents_at}
use Rattle.cell_words.specs.Layout.{cells}
use Rattle.cell_words.specs.Countdown.{acts_of, act_among, act_in, tail_of}
use Rattle.cell_words.specs.declared.view.Act.{Act}
use Rattle.cell_words.specs.declared.view.Portion.{Portion}
use Rattle.cell_words.specs.declared.view.View.{View}

abbrev pub act_of : ℕ → ℕ → Bool → ℕ → List ℕ → Act
act_of r written filled signed freed = record { rank = r; written = written; filled = filled; signed = signed; freed = freed }

-- the act of a rank that is filled and has signed all dependents
abbrev pub done_act : Planning → ℕ → List ℕ → Act
done_act p r freed = act_of r 4 true (length (dependents_at p r)) freed

-- t is the dependent of the rank r at this place
abbrev pub IsDependent : Planning → ℕ → ℕ → ℕ → Type 0
IsDependent p r at t = (at < length (dependents_at p r)) × (t ≡ slice_index (dependents_at p r) at)

-- each of the acts is filled and has signed all dependents
unfoldable pub AreDone : Planning → List Act → Type 0
AreDone p [] = Unit {0}
AreDone p (a ∷ as') = (a.filled ≡ true) × (a.signed ≡ length (dependents_at p a.rank)) × AreDone p as'

abbrev pub ranks_of : List Act → List ℕ
ranks_of as' = map (λ a. a.rank) as'

-- Of a list of portions: the first has this number, all acts are done, and these are the ranks of the first's, in order.
pub record IsDone (p : Planning) (number : ℕ) (done : List ℕ) (ps : List Portion) : Type 0 where
  pub acts : List Act
  pub portions : ps ≡ record { number = number; acts = acts } ∷ tail_of ps
  pub finished : AreDone p acts
  pub others : AreDone p (acts_of (tail_of ps))
  pub ranks : done ≡ ranks_of acts

-- The same, and one act more stands behind the first's, of a rank that has no other act there.
pub record IsAt (p : Planning) (number : ℕ) (done : List ℕ) (a : Act) (ps : List Portion) : Type 0 where
  pub front : List Act
  pub portions : ps ≡ record { number = number; acts = front ++ a ∷ [] } ∷ tail_of ps
  pub finished : AreDone p front
  pub others : AreDone p (acts_of (tail_of ps))
  pub ranks : done ≡ ranks_of front
  pub alone : act_among a.rank (front ++ acts_of (tail_of ps)) ≡ None
  pub few : length front < cells p

abbrev pub freed_of : Option Act → List ℕ
freed_of None = []
freed_of (Some a) = a.freed

-- the freed list of the act of a rank
abbrev pub freed_by : View → ℕ → List ℕ
freed_by v r = freed_of (act_in v r)
