-- The names that most proofs cite, passed on from one place. Declares nothing.
pub use mathlib.Core.Logic.{dite}
pub use mathlib.Core.Option.{none, some, some-ne-none, some-injective}
pub use native.Mathlib.Decide.{ℕ_discrete, dec_le}
pub use lib.ListN.{get_elem?}
pub use Rattle.std.proofs.lemmas.Bool.{cond-true as when, cond-false as unless, cases_lt, cases_Bool, or_cases, or_parts, and_parts, or_left, or_right, false_from_ne_true}
pub use Rattle.std.proofs.lemmas.Option.{none-some, cond_some}
pub use Rattle.std.proofs.lemmas.List.{map-append, length-map, take_more, get_or_default, set-get_or}
pub use Rattle.std.proofs.Math.Bool.{or-true, or-false, and-true, and-false, or_assoc}
pub use Rattle.atomic_table.specs.Table.{step, keeps, Allows, Splits, Joins}
pub use Rattle.atomic_table.specs.declared.shared.Seat.{Seat}
unfoldable pub use Rattle.airy_math.specs.Sums.{keep, below, count_from}
pub use Rattle.airy_math.specs.Keys.{Key}
unfoldable pub use Rattle.airy_math.specs.Keys.{head_or, remove, times}
unfoldable pub use Rattle.airy_math.specs.Levels.{euler_of}
pub use Rattle.amp_plan.specs.Plans.{Planning}
unfoldable pub use Rattle.amp_plan.specs.Plans.{tensors_of, keys_of, key_at}
pub use Rattle.amp_plan.specs.Needs.{AreNeeds}
unfoldable pub use Rattle.amp_plan.specs.Needs.{has, needs_at, dependents_at}
unfoldable pub use Rattle.amp_plan.specs.Rows.{AreDistinct}
pub use Rattle.amp_terms.specs.declared.Outcome.{Outcome}
pub use Rattle.amp_terms.specs.declared.Outcome.TheVariants.{Over}
unfoldable pub use Rattle.cell_words.specs.Words.{word_of, IsSized}
pub use Rattle.cell_words.specs.Layout.{cells, IsPlanned}
unfoldable pub use Rattle.cell_words.specs.Layout.{all_outcomes, lower_outcomes, outcome_at, code_of}
pub use Rattle.cell_words.specs.declared.view.Act.{Act}
pub use Rattle.cell_words.specs.declared.view.View.{View}
pub use Rattle.cell_words.specs.declared.view.Portion.{Portion}
pub use Rattle.cell_words.specs.declared.countdown.Countdown.{Countdown}
pub use Rattle.cell_words.specs.declared.countdown.CountSeat.{CountSeat}
pub use Rattle.cell_words.specs.Countdown.{CLAIMED, FILLED, acts_of, act_among, acts_for, act_in, numbers_of, Book, signed_in, signs, count_of, unsigned, state_of, written_of, IsFilled, IsAct, IsActIn, Cell, IsWhole, IsState, Holds, Known, by_sight, by_holding, by_need}
pub use Rattle.cell_words.specs.Countdown.{change, with_act, fresh_act, with_fresh, claimed, write_more, fill_up, sign_one, active, with_portions, head_of, tail_of, left_part, right_part, carried_act, first_portions, AreCarried, IsOpening}
pub use Rattle.cell_words.specs.Acts.{act_of, IsDone, IsAt, freed_by, ranks_of}
unfoldable pub use Rattle.cell_words.specs.Acts.{AreDone}
pub use Rattle.cell_words.specs.Seats.{IsToken, HasToken, IsAtAct, IsResting, IsHolding, IsSeatOf, view_in, view_of, seats_of, number_of, held_of}
pub use Rattle.cell_words.specs.Deals.{IsBlank, IsReady, IsDealt, IsGathered, IsAfter, AreSeats, AreAll, AreTaken, SomeKnows, numbers_in, receipts_of}
pub use Rattle.cell_words.specs.Resuming.{carries, CanResume, AreResumed}
unfoldable pub use Rattle.cell_words.specs.Resuming.{carried_in}
pub use Rattle.cell_words.specs.LevelSeats.{IsFilling, IsFiller}
unfoldable pub use Rattle.cell_words.specs.Levels.{cells_to, value_word}
