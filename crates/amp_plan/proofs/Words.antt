-- The words that the proofs of this crate share.
pub use Rattle.airy_index.proofs.BinomialLemmas.{binomial-small}
pub use Rattle.airy_index.proofs.ChoiceLemmas.{splits-all}
pub use Rattle.airy_index.proofs.ChosenLemmas.{small_more}
pub use Rattle.airy_index.proofs.SortedLemmas.{ordered-sorted}
pub use Rattle.airy_index.proofs.SplitLaw.{splits_law}
unfoldable pub use Rattle.airy_index.specs.Choices.{all_splits, chosen_split, put_before, whole_length}
pub use Rattle.airy_index.specs.Fields.{IsKey}
pub use Rattle.airy_index.specs.declared.key.KeyErr.TheVariants.{NoPlace, TooMany, Unstable}
pub use Rattle.airy_index.specs.declared.key.KeyErr.{KeyErr}
pub use Rattle.airy_math.proofs.CutLaw.{length-insert, length-ordered}
pub use Rattle.airy_math.proofs.EachLemmas.{keep-append}
pub use Rattle.airy_math.proofs.KeyLemmas.{AllBelow, Ascending}
pub use Rattle.airy_math.proofs.PlannedLaw.{Each-keep, IsListed, ascending}
pub use Rattle.airy_math.proofs.SumLemmas.{Each, Each-below, Each-each, Each-map, Each-weaken}
unfoldable pub use Rattle.airy_math.specs.Cuts.{letter_of, natural}
unfoldable pub use Rattle.airy_math.specs.Keys.{IsSortedFrom, euler, head_or, insert, key_of, ordered, ordered_with, remove, stable, times, total}
pub use Rattle.airy_math.specs.Keys.{Key}
unfoldable pub use Rattle.airy_math.specs.Levels.{euler_of}
pub use Rattle.airy_math.specs.NeedsFirst.{NeedsComeFirst}
pub use Rattle.airy_math.specs.Planned.{IsPlanned}
unfoldable pub use Rattle.airy_math.specs.Planned.{lists_from, planned}
pub use Rattle.airy_math.specs.Ranks.{ListsPlanned, PlanLaw, no_key}
unfoldable pub use Rattle.airy_math.specs.Ranks.{place_of}
pub use Rattle.airy_math.specs.Rational.{ℚ}
unfoldable pub use Rattle.airy_math.specs.Shapes.{covers, eq_z, live, per_n}
pub use Rattle.airy_math.specs.Splits.{Split, splits}
unfoldable pub use Rattle.airy_math.specs.Sums.{binomial, count_from, each, keep}
pub use Rattle.airy_math.specs.Tensors.{Tensors}
unfoldable pub use Rattle.airy_math.specs.Tensors.{row_b, row_c}
unfoldable pub use Rattle.airy_math.specs.Terms.{StandsIn, needs, obtained_half, terms}
pub use Rattle.airy_math.specs.declared.Shape.TheVariants.{All, AtMost, Exact}
pub use Rattle.airy_math.specs.declared.Shape.{Shape}
pub use Rattle.amp_plan.specs.Candidates.{IsCandidate}
pub use Rattle.amp_plan.specs.Kept.{IsGraph}
pub use Rattle.amp_plan.specs.Limits.{PassesBound, PassesCells, PassesNeeds}
unfoldable pub use Rattle.amp_plan.specs.Limits.{Tells, level_at, limit, limit_of}
pub use Rattle.amp_plan.specs.Marks.{AreNamed, IsMarked, Marks}
unfoldable pub use Rattle.amp_plan.specs.Marks.{marked, marked_term, with_all_new, with_new}
unfoldable pub use Rattle.amp_plan.specs.Needs.{first_past, has, named_ranks, need_counts, needed, needs_at, needs_rank, resting}
pub use Rattle.amp_plan.specs.Places.{AreInOrder}
unfoldable pub use Rattle.amp_plan.specs.Places.{are_below, letter_power, place_in}
pub use Rattle.amp_plan.specs.Plans.{Planning}
unfoldable pub use Rattle.amp_plan.specs.Plans.{keys_of, rank_at, tensors_of}
pub use Rattle.amp_plan.specs.Ranked.{Alone, Joined, Once, RankedTerm, Takes, Twice}
unfoldable pub use Rattle.amp_plan.specs.Ranked.{AreAllowed, NameAllowed, after_terms, all_ranked, ranked, ranks_of}
unfoldable pub use Rattle.amp_plan.specs.Rows.{AreDistinct, rows_of, standing}
pub use Rattle.amp_plan.specs.Rows.{AreFilled, AreTurned, IsLonger, IsRow, start_at}
pub use Rattle.amp_plan.specs.Shares.{CanGoOn, FitsShare, IsChosen, IsShare}
unfoldable pub use Rattle.amp_plan.specs.Shares.{choice_part, of_share}
pub use Rattle.amp_plan.specs.Walk.{HasRoom, IsPartOf}
unfoldable pub use Rattle.amp_plan.specs.Walk.{b_part, c_part, entry_part, for_rank, for_ranks, genus_part, joined_part, live_rank, once_part, product_part, run_part, split_part}
pub use Rattle.amp_plan.specs.declared.place.Place.TheVariants.{At, BadIndex, Beyond, Zero}
pub use Rattle.amp_plan.specs.declared.share.Share.{Share}
unfoldable pub use Rattle.index_lists.specs.Listing.{keys_at, level_keys}
pub use Rattle.index_lists.specs.Measures.{IsLight, IsMeasured}
unfoldable pub use Rattle.index_lists.specs.Measures.{covers_excess, law_excess}
unfoldable pub use Rattle.index_lists.specs.Parts.{more_of, no_split}
unfoldable pub use Rattle.index_lists.specs.SplitLists.{all_listed, listed_of, numbers_of}
pub use Rattle.index_lists.specs.SplitLists.{chain}
pub use Rattle.index_lists.specs.declared.chosen.Chosen.{Chosen}
pub use Rattle.index_lists.specs.declared.measure.Measure.{Measure}
pub use Rattle.index_lists.specs.declared.split_list.Listed.{Listed}
pub use Rattle.item_chains.proofs.ChainLemmas.{first-within}
unfoldable pub use Rattle.item_chains.specs.Chains.{from_first}
pub use Rattle.key_index.proofs.CodeLemmas.{index_code-small, list_code-append, list_code-more, list_code-none, list_code-small}
pub use Rattle.key_index.specs.Codes.{code_of_genus}
unfoldable pub use Rattle.sparse_tensor.specs.Entries.{looked_up}
pub use Rattle.std.proofs.Math.Nat.{mul-le-mul, mul_assoc, one-le-pow}
pub use Rattle.std.proofs.lemmas.Bool.{and_from, and_parts, cases_eq, cases_lt, cases_order, false≢true}
pub use Rattle.std.proofs.lemmas.Int.{ints}
pub use Rattle.std.proofs.lemmas.List.{get_or_read, take_more}
pub use Rattle.std.specs.Int.RustNames.{unsigned_abs}
pub use Rattle.std.specs.List.{AllByRecursion, slice_range}
pub use Rattle.std.specs.Vec.{vec_capacity}
pub use native.Mathlib.Nat.{pow-le-pow_right}
