use Rattle.std.proofs.Common.{rules, ◌≡◌, ◌++◌, false, OnOk, string_bytes, codes, decimal}
use Rattle.airy_json.proofs.Common.{indices_data, items_text}
use Rattle.airy_json.proofs.PieceLemmas.{on_ok, grown_cell}
use Rattle.airy_json.proofs.writing.put_cell.Goals as goal

pub returns : goal.returns
returns c =
    let genus : string_bytes c.put_number.new.text ≡ string_bytes c.push_str.new.self ++ decimal c.args.key.now.g = search rules in
    let indices : string_bytes c.put_indices.new.text ≡ string_bytes c.push_str-2.new.self ++ items_text false (indices_data c.args.key.now.idx) = search rules in
    let last : OnOk c.push_str-4.result (string_bytes c.push_str-4.new.self ≡ string_bytes c.put_value.new.text ++ codes "}") = search rules in
    on_ok c.push_str-4.result
    (grown_cell (string_bytes c.args.text.now) _ _ _ _ _ _ _ c.args.key.now c.args.v c.in_ok-push_str.ensures.bytes genus c.in_ok-push_str-2.ensures.bytes indices
    c.in_ok-push_str-3.ensures.bytes c.in_ok-put_value.ensures) last
