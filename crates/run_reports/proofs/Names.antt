-- The names that the proofs about runs cite most, passed on from one place. Declares nothing.
unfoldable pub use Rattle.airy_exists.specs.Existence.{FindsNoOrders}
pub use Rattle.airy_exists.specs.Existence.{EveryPivotLaw, HasValues, NoOrdersLaw}
unfoldable pub use Rattle.airy_index.specs.Text.{key_text}
pub use Rattle.airy_io.proofs.Prefixes.{AppendsPrefix-more}
pub use Rattle.airy_io.specs.Causes.{AppendsPrefix, Giving, Rose, Taking, Writes}
pub use Rattle.airy_math.specs.BelowDim.{BelowDimLaw}
unfoldable pub use Rattle.airy_math.specs.Cuts.{letter_of, outer, power}
unfoldable pub use Rattle.airy_math.specs.Families.{top_bgw, top_wk, wp_cut, wp_shape}
unfoldable pub use Rattle.airy_math.specs.Jobs.{IsSound, letter_value, planned_tensors, tensors_at}
pub use Rattle.airy_math.specs.Jobs.{Bgw, Bulk, IsSolutionOf, Lettered, Structure, Text, Wk, Wp}
unfoldable pub use Rattle.airy_math.specs.Keys.{euler, key_of, total}
pub use Rattle.airy_math.specs.Keys.{Key}
pub use Rattle.airy_math.specs.OwnTensors.{OwnTensorsLaw}
unfoldable pub use Rattle.airy_math.specs.Planned.{planned}
pub use Rattle.airy_math.specs.Planned.{IsPlanned}
unfoldable pub use Rattle.airy_math.specs.Ranks.{key_at, place_of}
pub use Rattle.airy_math.specs.Ranks.{ListsPlanned, PlanLaw}
unfoldable pub use Rattle.airy_math.specs.Rational.{ℚ_computes, ◌*ℚ◌}
pub use Rattle.airy_math.specs.Rational.{ℚ}
unfoldable pub use Rattle.airy_math.specs.RationalLaws.{0ℚ, 1ℚ}
pub use Rattle.airy_math.specs.Relations.{Close}
pub use Rattle.airy_math.specs.Series.{Series}
pub use Rattle.airy_math.specs.Solutions.{Solves}
unfoldable pub use Rattle.airy_math.specs.Tensors.{is_zero}
pub use Rattle.airy_math.specs.Tensors.{IsGraded, SameEntries, Tensors}
pub use Rattle.airy_math.specs.declared.Family.{Family}
pub use Rattle.airy_math.specs.declared.Shape.{Shape}
pub use Rattle.airy_relations.specs.SameVerdict.{SameVerdictLaw}
unfoldable pub use Rattle.airy_relations.specs.Verdicts.{verdict}
pub use Rattle.airy_relations.specs.declared.verdict.Verdict.{Verdict}
pub use Rattle.airy_relations.specs.declared.verdict.Verdict.TheVariants.{Closed, Differs, Over}
unfoldable pub use Rattle.amp_plan.specs.Limits.{limit, limit_of}
pub use Rattle.amp_plan.specs.Limits.{Limit, PassesBound, PassesCells, PassesNeeds, Within}
unfoldable pub use Rattle.amp_plan.specs.Places.{are_below, letter_power, place_in}
unfoldable pub use Rattle.amp_plan.specs.Plans.{keys_of, rank_at, tensors_of}
pub use Rattle.amp_plan.specs.Plans.{Planning}
pub use Rattle.amp_plan.specs.declared.PlanCause.{PlanCause}
pub use Rattle.amp_terms.proofs.OutcomeLemmas.{length-all, length-outcomes}
unfoldable pub use Rattle.amp_terms.specs.Outcomes.{has_value, outcomes, value_in, value_or_zero}
unfoldable pub use Rattle.amp_terms.specs.Tables.{first_without, full_table, next_rank, value_at, value_of, value_of_cell}
pub use Rattle.amp_terms.specs.declared.Outcome.{Outcome}
unfoldable pub use Rattle.cell_words.specs.Layout.{outcome_at}
pub use Rattle.cell_words.specs.Layout.{cells}
pub use Rattle.cell_words.specs.Seats.{IsSeatOf, done_of, plan_of, standing_of, view_of}
pub use Rattle.command_words.specs.Asked.{kind_of, parted_of}
unfoldable pub use Rattle.command_words.specs.Bounds.{is_bound, reach}
pub use Rattle.command_words.specs.Bounds.{IsReached}
unfoldable pub use Rattle.command_words.specs.Lines.{FinishesOnce, Rises}
pub use Rattle.command_words.specs.declared.line.Line.{Line}
unfoldable pub use Rattle.constraint_check.specs.Ends.{outcomes_of}
pub use Rattle.fill_crew.specs.Crews.{EachAt, HasWorked, IsIdle}
pub use Rattle.frac128.specs.Fraction.{fraction_text}
unfoldable pub use Rattle.named_families.specs.Families.{Names}
pub use Rattle.named_families.specs.declared.petersson.MakeErr.{MakeErr}
pub use Rattle.run_reports.specs.Ends.{EndsBy, EndsByOrWants, EndsOfText, EndsWithBound}
pub use Rattle.run_reports.specs.Forms.{formed_cells, formed_stored, plan_last, plan_rest, plan_summary, summed}
unfoldable pub use Rattle.run_reports.specs.Forms.{count_text, in_place, last_of, last_text, summary_text}
pub use Rattle.run_reports.specs.Headline.{HasTwoOrders, Headline, IsLine}
unfoldable pub use Rattle.run_reports.specs.Headline.{ShowsNumber}
pub use Rattle.run_reports.specs.Headline.{HasTwoOrders, Headline, IsLine}
unfoldable pub use Rattle.run_reports.specs.Leads.{of_reading, of_text}
pub use Rattle.run_reports.specs.Leads.{LeadsFromText, LeadsWithBound, beyond, failed, long, read, refused, wanting, within}
pub use Rattle.run_reports.specs.Promises.{AnswersBy, GivesBy, HasCausesBy, IsCompleteBy, IsInRange}
unfoldable pub use Rattle.run_reports.specs.Relations.{closed, of_relations, place_text, relations_report, text_relations}
pub use Rattle.run_reports.specs.Relations.{IsVerdict}
pub use Rattle.run_reports.specs.Report.{Ends, EndsOrWants, Report, bound_refused, out_of_memory, refusal, word_refused}
pub use Rattle.run_reports.specs.Runs.{Gives, Run}
unfoldable pub use Rattle.run_reports.specs.StructureTables.{making_error, making_over, structure_of, table_report}
pub use Rattle.run_reports.specs.StructureTables.{ArePlanned, EndsTable, Step, TableStepsLaw, blank, limited, orders, outside, over, unmade, whole}
unfoldable pub use Rattle.run_reports.specs.Structures.{has_letter, text_structure, whole_table}
pub use Rattle.run_reports.specs.Structures.{AreClosed, IsOwn}
unfoldable pub use Rattle.run_reports.specs.Tables.{cause_report, cells_report, checked_report, making_report, pivot_text, plan_report, row_text, rows_text, stored_report, verdict_of}
pub use Rattle.run_reports.specs.Tables.{orders_differ, over_at, plan_cells, table_text}
unfoldable pub use Rattle.run_reports.specs.Texts.{kind_text, line_refused, read_fault, text_report, text_too_long}
unfoldable pub use Rattle.series_law.specs.Check.{check, check_keys, check_values}
pub use Rattle.series_law.specs.Check.{NotValue, Orders, Overflow, Solution}
unfoldable pub use Rattle.series_law.specs.Jobs.{HasValue}
pub use Rattle.series_law.specs.Jobs.{JobCheckedLaw, JobSessionLaw, JobSolutionLaw, JobUniquenessLaw}
unfoldable pub use Rattle.series_law.specs.Pivots.{series_with}
pub use Rattle.series_law.specs.Pivots.{AllPivots, Shown}
pub use Rattle.series_law.specs.SameTables.{SameTablesLaw}
unfoldable pub use Rattle.sparse_tensor.specs.Entries.{looked_up}
pub use Rattle.sparse_tensor.specs.Entries.{Entries}
pub use Rattle.sparse_tensor.specs.Grades.{AreSound}
pub use Rattle.std.proofs.KnownBytes.{Appends-trans}
pub use Rattle.std.proofs.lemmas.Result.{err_from_is_err_and}
pub use Rattle.std.specs.Io.KnownBytes.{Appends, Consumes, IsAtEnd}
pub use Rattle.tensor_text.specs.Answers.{HasReadCause, IsWhole, Reads}
unfoldable pub use Rattle.tensor_text.specs.Grammar.{reading_of}
pub use Rattle.tensor_text.specs.Grammar.{Read, Refused, TextReading}
