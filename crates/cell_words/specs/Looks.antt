-- What a look at a cell answers.
use Rattle.std.specs.Prelude.{◌≡◌, ◌⊎◌, ℕ, ◌<◌, Option, Some}
use Rattle.airy_math.specs.Terms.{RestsOn}
use Rattle.amp_plan.specs.Plans.{Planning, tensors_of, key_at}
use Rattle.cell_words.specs.Layout.{cells, outcome_at}
use Rattle.amp_terms.specs.declared.Outcome.{Outcome}
use Rattle.cell_words.specs.declared.cells.Look.{Look}
use Rattle.cell_words.specs.declared.cells.Look.TheVariants.{Filled, Empty}

-- q is r, or r rests on it
abbrev pub Reaches : Planning → ℕ → ℕ → Type 0
Reaches p r q = (r ≡ q) ⊎ RestsOn (tensors_of p) (key_at p r) (key_at p q)

-- A look finds the outcome of the rank r.
pub record Finds (p : Planning) (r : ℕ) (Knows Unfilled : ℕ → Type 0) (o : Outcome) : Type 0 where
  pub outcome : o ≡ outcome_at p r
  -- the seat then knows the rank and all that it rests on
  pub known : (q : ℕ) → q < cells p → Reaches p r q → Knows q
  pub filled : Unfilled r → ⊥

-- A look finds that the rank r isn't filled, by the word w.
pub record Misses (r : ℕ) (Knew Unfilled : ℕ → Type 0) (latest : Option ℕ) (w : ℕ) : Type 0 where
  pub word : latest ≡ Some w
  pub unfilled : Unfilled r
  -- a rank that the seat knew is not missed
  pub unknown : Knew r → ⊥

abbrev pub Answers : Planning → ℕ → (ℕ → Type 0) → (ℕ → Type 0) → (ℕ → Type 0) → Option ℕ → Look → Type 0
Answers p r Knew Knows Unfilled latest (Filled o) = Finds p r Knows Unfilled o
Answers p r Knew Knows Unfilled latest (Empty w) = Misses r Knew Unfilled latest w
