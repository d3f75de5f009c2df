-- The words that the proofs of this crate share.
pub use Rattle.airy_index.proofs.BinomialLemmas.{binomial-small}
pub use Rattle.airy_index.proofs.ChoiceLemmas.{splits-all}
pub use Rattle.airy_index.proofs.SortedLemmas.{ordered-sorted}
unfoldable pub use Rattle.airy_index.specs.Choices.{all_splits, chosen_split, put_before, whole_length}
pub use Rattle.airy_index.specs.declared.key.KeyErr.TheVariants.{NoPlace, TooMany, Unstable}
pub use Rattle.airy_index.specs.declared.key.KeyErr.{KeyErr}
pub use Rattle.airy_math.proofs.CutLaw.{length-insert}
pub use Rattle.airy_math.proofs.EachLemmas.{keep-append}
pub use Rattle.airy_math.proofs.KeyLemmas.{AllBelow, Ascending}
pub use Rattle.airy_math.proofs.PlannedLaw.{IsListed}
pub use Rattle.airy_math.proofs.SumLemmas.{Each, Each-weaken}
unfoldable pub use Rattle.airy_math.specs.Cuts.{letter_of, natural}
unfoldable pub use Rattle.airy_math.specs.Keys.{IsSortedFrom, euler, insert, key_of, remove, total}
pub use Rattle.airy_math.specs.Keys.{Key}
unfoldable pub use Rattle.airy_math.specs.Planned.{lists_from, planned}
unfoldable pub use Rattle.airy_math.specs.Shapes.{covers, eq_z, law_number, per_n}
pub use Rattle.airy_math.specs.Splits.{Split, splits}
unfoldable pub use Rattle.airy_math.specs.Splits.{into_runs}
unfoldable pub use Rattle.airy_math.specs.Sums.{binomial, count_from, each, keep}
pub use Rattle.airy_math.specs.Tensors.{Tensors}
pub use Rattle.airy_math.specs.declared.Shape.TheVariants.{All, AtMost, Exact}
pub use Rattle.airy_math.specs.declared.Shape.{Shape}
unfoldable pub use Rattle.index_lists.specs.Listing.{found, is_in, keys_at, keys_behind, level_keys, reaching}
pub use Rattle.index_lists.specs.Measures.{IsLight, IsMeasured}
unfoldable pub use Rattle.index_lists.specs.Measures.{covers_excess, law_excess}
unfoldable pub use Rattle.index_lists.specs.Parts.{more_of, no_split}
pub use Rattle.index_lists.specs.SplitLists.{chain}
unfoldable pub use Rattle.index_lists.specs.SplitLists.{all_listed, all_without, full, going_on, last_of, listed_of, numbers_of, part_without}
pub use Rattle.index_lists.specs.declared.chosen.Chosen.{Chosen}
pub use Rattle.index_lists.specs.declared.measure.Measure.{Measure}
pub use Rattle.index_lists.specs.declared.split_list.Listed.{Listed}
pub use Rattle.index_lists.specs.declared.window.Window.{Window}
unfoldable pub use Rattle.item_chains.specs.Chains.{from_first}
pub use Rattle.key_index.proofs.CodeLemmas.{list_code-append, list_code-more, list_code-none, list_code-small}
pub use Rattle.key_index.specs.Codes.{code_of_list}
unfoldable pub use Rattle.sparse_tensor.specs.Entries.{looked_up}
unfoldable pub use Rattle.sparse_tensor.specs.Grades.{IsSmallLaw}
pub use Rattle.std.proofs.Math.Nat.{mul_assoc}
pub use Rattle.std.proofs.lemmas.Bool.{cases_lt, false≢true}
pub use Rattle.std.proofs.lemmas.Int.{ints}
pub use Rattle.std.proofs.lemmas.List.{take_more}
pub use Rattle.std.proofs.lemmas.Result.{err_from_is_err_and, on_ok_weaker}
pub use Rattle.std.specs.Int.RustNames.{unsigned_abs}
pub use Rattle.std.specs.List.{AllByRecursion}
pub use lib.Signed.{le_z}
pub use native.Mathlib.Nat.{pow-le-pow_right}
