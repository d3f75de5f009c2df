-- The names that most proofs cite, passed on from one place. Declares nothing.
pub use Rattle.std.proofs.Common.{◌≡◌, ℕ, ◌<◌, ◌≤◌, List, [], ◌∷◌, ◌++◌, length, length-append, get_or, Option, arith, refl, sym, ap, ap₂, ◌∙◌, subst, append-nil, cond, true, false, ◌⊎◌, inl, inr, Bool, map, None, Some, is_some, zero, suc, ◌+◌, take, drop, append_assoc, take-append-drop, Result, Ok, Err, OnOk, OnErr, true≢false, ◌≢◌, ltb-true, ltb-false, lt-ltb, le-ltb, ◌&&◌, nat_eq, IsTrue, ltb, rules, take_all, le-leb, leb, IfOk, IfErr, ◌-◌, length-drop, get_or-drop}
pub use Rattle.std.proofs.lemmas.List.{take_more, drop_more}
pub use Rattle.std.specs.Io.KnownBytes.{Appends}
pub use Rattle.airy_io.specs.Causes.{AppendsPrefix, Rose, Taking}
pub use Rattle.airy_math.specs.Keys.{Key}
unfoldable pub use Rattle.airy_math.specs.Levels.{euler_of}
pub use Rattle.airy_math.specs.Planned.{IsPlanned}
pub use Rattle.airy_math.specs.Ranks.{ListsPlanned}
unfoldable pub use Rattle.airy_math.specs.Ranks.{place_of}
pub use Rattle.airy_math.specs.Tensors.{Tensors}
unfoldable pub use Rattle.airy_math.specs.Terms.{StandsIn}
pub use Rattle.airy_index.specs.Fields.{IsKey}
unfoldable pub use Rattle.amp_plan.specs.Limits.{limit, limit_of}
pub use Rattle.amp_plan.specs.Plans.{Planning}
unfoldable pub use Rattle.amp_plan.specs.Plans.{tensors_of, keys_of, key_at}
unfoldable pub use Rattle.amp_plan.specs.Needs.{has}
unfoldable pub use Rattle.amp_plan.specs.Places.{place_in, letter_power}
pub use Rattle.amp_plan.specs.declared.place.Place.{Place}
pub use Rattle.amp_terms.specs.declared.Outcome.{Outcome}
unfoldable pub use Rattle.amp_terms.specs.Tables.{full_table}
pub use Rattle.cell_words.specs.Layout.{cells, IsPartial}
unfoldable pub use Rattle.cell_words.specs.Layout.{outcome_at}
pub use Rattle.cell_words.specs.Looks.{Reaches}
pub use Rattle.cell_words.specs.Deals.{AreAll}
pub use Rattle.cell_words.specs.Resuming.{CanResume}
pub use Rattle.cell_words.specs.Seats.{carried_of, IsSeatOf, standing_of, view_of}
pub use Rattle.cell_words.specs.declared.closed.Closed.{Closed}
pub use Rattle.cell_words.specs.declared.countdown.Countdown.{Countdown}
pub use Rattle.cell_words.specs.declared.countdown.CountSeat.{CountSeat}
pub use Rattle.command_words.specs.declared.line.Line.{Line}
pub use Rattle.command_words.specs.declared.line.Line.TheVariants.{Ask, Finish, Grow}
pub use Rattle.ask_seats.specs.Counts.{Knows}
pub use Rattle.ask_seats.specs.Replies.{Reply}
unfoldable pub use Rattle.ask_seats.specs.Replies.{line_text, lines_text, reply_of}
pub use Rattle.ask_seats.specs.Sessions.{Session, Stage, IsAdmitted, Admitted, IsOrRestsOn, start}
unfoldable pub use Rattle.ask_seats.specs.Sessions.{Replied, behind, finish, growth, grown, bound_after, bound_behind, finished_behind, place_at, is_rank, outcome_reply, told_at, told, is_open, is_unsettled}
pub use Rattle.ask_seats.specs.Asks.{session_of, Spoken, CutShort}
unfoldable pub use Rattle.ask_seats.specs.Lines.{AreAsks, FinishesOnce, Rises, ends_finished}
pub use Rattle.ask_seats.specs.Talks.{IsGood, Stands, Wrote, Broke, Speaks, FallsSilent, Carried, Paused, GoesOn, AnyOf, IsLeft, Hears, holds_back, told_of, up_to}
unfoldable pub use Rattle.ask_seats.specs.Talks.{IsPart, replies_due, stage_after, growth_reply}
pub use Rattle.ask_seats.specs.Carrying.{Leads, LeavesFirst, KeepsCarried}
