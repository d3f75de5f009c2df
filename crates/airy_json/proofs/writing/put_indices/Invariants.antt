use Rattle.std.proofs.Common.{◌≡◌, ◌++◌, false, drop, string_bytes, nat_lt}
use Rattle.airy_json.proofs.Common.{indices_data, items_text}
use Rattle.airy_json.proofs.writing.put_indices.Given as goal

abbrev pub invariant-loop-place : goal.invariant-loop-place
invariant-loop-place l = string_bytes l.text ++ items_text (nat_lt 0 l.place) (indices_data (drop l.place l.idx)) ≡ string_bytes l.initial.text ++ items_text false (indices_data l.idx)
