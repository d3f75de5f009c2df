use Rattle.std.proofs.Common.{◌≡◌, ◌++◌, ℕ, ◌<◌, false, drop, string_bytes, nat_lt}
use Rattle.airy_json.proofs.Common.{IsInRange, keys_of, cells_data, value_in, values_in, items_text}
use Rattle.airy_json.proofs.writing.put_cells.Given as goal

abbrev pub invariant-loop-rank : goal.invariant-loop-rank
invariant-loop-rank l = record {
  text : string_bytes l.text ++ items_text (nat_lt 0 l.rank) (cells_data (drop l.rank (keys_of l.plan)) (drop l.rank (values_in l.table)))
      ≡ string_bytes l.initial.text ++ items_text false (cells_data (keys_of l.plan) (values_in l.table));
  range : (r : ℕ) → r < l.rank → IsInRange (value_in l.table r);
}
