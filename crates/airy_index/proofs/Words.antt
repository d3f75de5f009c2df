-- The words that the proofs of this crate share.
unfoldable pub use Rattle.airy_index.specs.Choices.{IsChoice, TakesNone, all_splits, chosen_split, put_before, splits_after, splits_left, whole_length}
pub use Rattle.airy_index.specs.Choices.{IsWalk, counts_of}
unfoldable pub use Rattle.airy_index.specs.Places.{place}
pub use Rattle.airy_index.specs.declared.runs.Run.{Run}
pub use Rattle.airy_math.proofs.SplitLemmas.{binomial-over}
unfoldable pub use Rattle.airy_math.specs.Keys.{IsSortedFrom, insert, less_list, ordered_with, total}
unfoldable pub use Rattle.airy_math.specs.Splits.{into_runs, runs}
pub use Rattle.airy_math.specs.Splits.{Split}
unfoldable pub use Rattle.airy_math.specs.Sums.{below, binomial, count_from, each}
pub use Rattle.std.proofs.Math.Nat.{mul-le-mul, pow-le-pow_right, pow-suc}
pub use Rattle.std.proofs.lemmas.Bool.{cases_lt}
pub use Rattle.std.proofs.lemmas.List.{drop_more, map-append, nil_from_length}
pub use Rattle.std.specs.List.{refill}
