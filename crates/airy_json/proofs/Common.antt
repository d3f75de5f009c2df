-- The names that several proofs of this crate cite, passed on from one place. Declares nothing.
unfoldable pub use Rattle.airy_json.specs.Document.{cell_data, cells_data, document_data, document_text, indices_data, value_in, values_in}
pub use Rattle.airy_json.specs.Given.{IsGiven, Passes, Refuses}
unfoldable pub use Rattle.airy_json.specs.Reading.{AreOfKind, answer_of, are_indices, are_indices_at, array_at, bound_answer, cell_value, cell_values, cells_answer, count, data_answer, first_bad, form_answer, form_of, form_with, is_cell_of, is_whole, json_of, kind_answer, kind_of, kind_tensors, made_answer, making_over, plan_answer, string_at, three, whole, whole_at, with_value}
pub use Rattle.airy_json.specs.Reading.{BadBound, Gives, IsPlanOf, Kind, Long, NoJson, Unmade, named, read_kind, text}
pub use Rattle.airy_json.specs.Steps.{AreCells, IsBadCell, kind_seen}
unfoldable pub use Rattle.airy_json.specs.Verified.{IsFirstFailure, job_series, values_series}
pub use Rattle.airy_json.specs.Verified.{AreNoSolution, AreSolution, JobVerifiedLaw, SameVerifiedLaw, Says, VerifiedLaw}
unfoldable pub use Rattle.airy_json.specs.Verifying.{as_table, given_to, said, verified}
pub use Rattle.airy_json.specs.declared.refusals.JsonErr.{JsonErr}
pub use Rattle.airy_json.specs.declared.refusals.JsonErr.TheVariants.{Bound, Cell, Form, Make, NoMemory, NotJson, Plan, ReadFault, TooLong}
pub use Rattle.airy_json.specs.declared.verify_ends.VerifyEnd.{VerifyEnd}
pub use Rattle.airy_math.proofs.PowerLemmas.{power_none, power_not_zero, times_same}
pub use Rattle.airy_math.proofs.RankLaw.{place-has, plan_law, ranks_in_order}
pub use Rattle.airy_math.specs.BelowDim.{BelowDimLaw}
unfoldable pub use Rattle.airy_math.specs.Cuts.{letter_of, power}
unfoldable pub use Rattle.airy_math.specs.Keys.{IsSortedFrom, euler, exponents, head_or, indices, indices_from, key_of, remove, times}
pub use Rattle.airy_math.specs.Keys.{Key}
pub use Rattle.airy_math.specs.Obtained.{IsInRange}
unfoldable pub use Rattle.airy_math.specs.Planned.{planned}
pub use Rattle.airy_math.specs.Planned.{IsPlanned}
unfoldable pub use Rattle.airy_math.specs.Ranks.{key_at, no_key, place_of}
pub use Rattle.airy_math.specs.Rational.{ℚ}
unfoldable pub use Rattle.airy_math.specs.RationalLaws.{0ℚ, 1ℚ}
pub use Rattle.airy_math.specs.Tensors.{IsGraded, IsSymmetric, Tensors}
unfoldable pub use Rattle.airy_math.specs.Terms.{StandsIn, needs, obtained_pivot_sum, pivot_sum, terms}
pub use Rattle.airy_math.specs.declared.Family.TheVariants.{Bgw, Wk, Wp}
pub use Rattle.amp_plan.proofs.LimitLemmas.{limit-bound, limit-memory}
unfoldable pub use Rattle.amp_plan.specs.Limits.{limit, limit_of}
pub use Rattle.amp_plan.specs.Limits.{PassesBound, Within}
unfoldable pub use Rattle.amp_plan.specs.Plans.{keys_of, rank_at, tensors_of}
pub use Rattle.amp_plan.specs.Plans.{Planning}
pub use Rattle.amp_plan.specs.SameLimits.{SameLimitsLaw}
unfoldable pub use Rattle.amp_terms.specs.Outcomes.{has_value, outcome_from}
unfoldable pub use Rattle.amp_terms.specs.Pivots.{least_without, listed, number_at, pivot_outcome}
unfoldable pub use Rattle.amp_terms.specs.Tables.{first_without, next_rank, value_at, value_of, value_of_cell}
pub use Rattle.amp_terms.specs.declared.Outcome.{Outcome}
pub use Rattle.amp_terms.specs.declared.Outcome.TheVariants.{Blocked, Over, Value}
pub use Rattle.frac128.specs.Fraction.{fraction_text}
pub use Rattle.json.proofs.Printed.Strings.{content-escape, escape_byte_plain, lex-escape}
unfoldable pub use Rattle.json.specs.Print.{ArePrintable, escape_byte, print_from}
pub use Rattle.json.specs.Print.{IsPrintable, begins, ends, escape, print, quoted, token_text}
pub use Rattle.serde_json.specs.Data.{Data, Items, item, no_items}
pub use Rattle.serde_json.specs.Read.{max_depth, of_items, of_json, read}
pub use Rattle.serde_json.specs.View.{items_view, members_of, members_view, view}
pub use Rattle.serde_json.specs.Written.{comma_if, compact_text, items_outline, items_text, outline}
pub use Rattle.series_law.proofs.JobLaw.{job_solution, job_uniqueness, one_times, without_letter}
pub use Rattle.series_law.proofs.PivotsLaw.{converse, one_some, outcome_shown, pivot_weighed}
pub use Rattle.series_law.proofs.TableRanks.{never_next, value_only}
unfoldable pub use Rattle.series_law.specs.Pivots.{series_with}
pub use Rattle.series_law.specs.Pivots.{AllPivots, Shown}
unfoldable pub use Rattle.series_law.specs.Scans.{every}
unfoldable pub use Rattle.sparse_tensor.specs.Entries.{looked_up}
pub use Rattle.sparse_tensor.specs.Entries.{Entries}
pub use Rattle.std.proofs.lemmas.Bool.{and_parts, cases_lt}
pub use Rattle.std.proofs.lemmas.Bool.Decides.{nat_tests}
pub use Rattle.std.proofs.lemmas.List.{drop_all, drop_more, length-map}
pub use Rattle.std.proofs.lemmas.Str.{IsUtf8-from_is_utf8, IsUtf8-string_bytes, is_utf8-from_IsUtf8}
pub use Rattle.tensor_text.proofs.PlainLemmas.{ArePlain, of-plain, plain-fraction, utf8-ascii}
unfoldable pub use Rattle.tensor_text.specs.Canonical.{canonical_text, dim_text, entries_text, first_text, header_text, shape_text}
