-- The words that the proofs of this crate share.
unfoldable pub use Rattle.airy_closing.specs.Constants.{CloseByConstants, TellsClosing}
unfoldable pub use Rattle.airy_curve.specs.Steps.{curve_refusal}
pub use Rattle.airy_curve.specs.declared.making.CurveErr.{CurveErr}
unfoldable pub use Rattle.airy_json.specs.Reading.{kind_text}
pub use Rattle.airy_json.specs.Reading.{Kind, named, text}
unfoldable pub use Rattle.airy_json.specs.Verifying.{as_table, verified}
unfoldable pub use Rattle.airy_math.specs.Curves.{curve, first_or_zero, number_of, numbers_down, of_list}
unfoldable pub use Rattle.airy_math.specs.Sums.{below, count_from, each}
unfoldable pub use Rattle.airymore.specs.Brackets.{brackets_report, first_over, found_report, number_text, numbers_report, numbers_text, place_text}
pub use Rattle.airymore.specs.Brackets.{IsBrackets, LeadsToBrackets, number_at, obtained_at, over_or}
unfoldable pub use Rattle.airymore.specs.Curves.{curve_below, curve_error, curve_lines, curve_relations_report, curve_report, curve_tensors}
pub use Rattle.airymore.specs.Curves.{CurveHasTwoOrders, CurveHeadline, CurveStep, CurveStepsLaw, IsCurveLine, LeadsToCurve, LeadsToCurveRelations}
unfoldable pub use Rattle.airymore.specs.Documents.{json_report, stored_document, structure_of_kind, table_document, text_document}
pub use Rattle.airymore.specs.Documents.{DocumentHeadline, LeadsToDocument, LeadsToTextDocument, ValuesHeadline, plan_document}
unfoldable pub use Rattle.airymore.specs.Places.{from, from_any, of_one, of_pair, place, places}
pub use Rattle.airymore.specs.Places.{IsPlace}
unfoldable pub use Rattle.airymore.specs.Quick.{quick_cells, quick_report, quick_table, valued_report}
pub use Rattle.airymore.specs.Quick.{LeadsToQuick, plan_quick}
pub use Rattle.airymore.specs.Run.{Answers, AsksForNoText, Leads}
unfoldable pub use Rattle.airymore.specs.Verify.{error_report, verified_report}
pub use Rattle.airymore.specs.declared.places.Place.{Place}
pub use Rattle.amp_terms.proofs.OutcomeLemmas.{length-outcomes}
pub use Rattle.command_words.proofs.ScriptLemmas.{bound_some}
pub use Rattle.run_reports.proofs.AnswerLemmas.{SourceAnswers, answers_by, answers_from_ends, answers_from_report, answers_of_text, answers_with_bound, answers_without_text, of_kind}
pub use Rattle.run_reports.proofs.CauseLemmas.{causes, plain_range}
pub use Rattle.run_reports.proofs.HeadlineLemmas.{JobLaws, headline_by, shown_value}
pub use Rattle.run_reports.proofs.JobLemmas.{JudgedOne, Said, judged_bound, judged_by, judged_said, judged_text, judged_word, one_complete, other_of}
pub use Rattle.run_reports.proofs.LineLemmas.{differ_of, length-lines, line_at, lines_of, rows-lines, values_found}
unfoldable pub use Rattle.run_reports.proofs.Names.{0ℚ, IsSound, cause_report, checked_report, first_without, full_table, is_bound, keys_of, letter_of, letter_value, limit, looked_up, planned, planned_tensors, read_fault, series_with, structure_of, tensors_of, text_structure, text_too_long, verdict}
pub use Rattle.run_reports.proofs.Names.{AnswersBy, AreSound, BelowDimLaw, Close, Ends, EndsBy, EndsOfText, EndsOrWants, EndsWithBound, Entries, Family, Giving, IsSolutionOf, JobUniquenessLaw, Key, LeadsFromText, LeadsWithBound, Lettered, Limit, Orders, Outcome, Overflow, PassesBound, PassesCells, PassesNeeds, PlanLaw, Planning, Report, Rose, Run, SameEntries, Solves, Structure, Taking, Tensors, Within, Writes, beyond, fraction_text, out_of_memory, refusal, within, word_refused, ℚ}
pub use Rattle.run_reports.proofs.ReportLemmas.{cells_at, ends_by, full-length, not_whole, report_of_cause, report_of_plan, told_cause}
pub use Rattle.run_reports.proofs.StatusLemmas.{IsOther, IsPlain, other_said, other_wanting, plain_bound, plain_cells, plain_closed, plain_making, plain_of, plain_other, plain_plan, plain_relations, plain_table, status_of}
pub use Rattle.run_reports.proofs.StructureLemmas.{entries_self, error_ends, refused_bound, stood_report, text_letter, text_never, text_planned, text_stored}
pub use Rattle.run_reports.proofs.TableHeadline.{family_sound, unsolvable_of, whole_step}
pub use Rattle.run_reports.proofs.TextLemmas.{are_closed, bounded_ends, fails_by, input_ends, own_of, text_sound}
pub use Rattle.std.specs.Io.KnownBytes.{Appends, Consumes, IsAtEnd}
