-- What there is to tell of a key, by its place in the plan.
use Rattle.std.proofs.Common.{◌≡◌, ℕ, ◌<◌, sym, ap, ◌∙◌, subst, true, false}
use Rattle.run_reports.proofs.Names.{Key, Planning, tensors_of, place_in, cells, outcome_at}
use Rattle.amp_plan.specs.declared.place.Place.{Place}
use Rattle.amp_plan.specs.declared.place.Place.TheVariants as place
use Rattle.cell_words.specs.Looks.{Reaches}
use Rattle.ask_seats.specs.Sessions.{told, told_at, is_rank}
use Rattle.ask_seats.specs.Asks.{reply_at}
use Rattle.ask_seats.specs.Talks.{told_of, KnowsAll}
use Rattle.ask_seats.proofs.PlaceLemmas.{same_place, one_rank}

pub told_at_place : (p : Planning) (key : Key) (x : Place) → place_in p key ≡ x → told_at (tensors_of p) p.tensors.letter p.bound key x ≡ told_of p key
unfolding told
told_at_place p key x e = ap (told_at (tensors_of p) p.tensors.letter p.bound key) (sym e ∙ same_place p key)

-- at a rank it is the rank's outcome
pub told_outcome : (p : Planning) (key : Key) (r : ℕ) → place_in p key ≡ place.At r → reply_at p key (outcome_at p r) ≡ told_of p key
unfolding told_at outcome_at
told_outcome p key r e = told_at_place p key (place.At r) e

-- what is known with a rank is known with its key
pub knows_rank : (p : Planning) (key : Key) (r : ℕ) (Knows : ℕ → Type 0) → place_in p key ≡ place.At r → ((q : ℕ) → q < cells p → Reaches p r q → Knows q) → KnowsAll p key Knows
knows_rank p key r Knows e known s q at low reach = known q low (subst (λ t. Reaches p t q) (one_rank s r (sym at ∙ e)) reach)

-- a key without a rank has nothing that is to be known
pub knows_none : (p : Planning) (key : Key) (x : Place) (Knows : ℕ → Type 0) → place_in p key ≡ x → is_rank x ≡ false → KnowsAll p key Knows
unfolding is_rank
knows_none p key x Knows e none r q at low reach = let clash : true ≡ false = ap is_rank (sym at ∙ e) ∙ none in cc
