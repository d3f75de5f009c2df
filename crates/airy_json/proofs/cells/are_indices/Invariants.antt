use Rattle.std.proofs.Common.{◌≡◌, length, drop}
use Rattle.airy_json.proofs.Common.{are_indices, items_view}
use Rattle.airy_json.proofs.cells.are_indices.Given as goal

abbrev pub invariant-loop-place : goal.invariant-loop-place
invariant-loop-place l = record {
  rest : are_indices (drop l.place l.indices) (items_view (drop l.place l.items.items)) ≡ are_indices l.indices (items_view l.items.items);
  same : length l.items.items ≡ length l.indices;
}
