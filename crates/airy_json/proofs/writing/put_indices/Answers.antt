use Rattle.std.proofs.Common.{rules, ◌≡◌, ◌++◌, OnOk, length, get_or, arith, ◌≤◌, string_bytes, codes, decimal}
use Rattle.airy_json.proofs.PieceLemmas.{on_ok, next_item, last_item, next_index, no_index}
use Rattle.airy_json.proofs.writing.put_indices.Goals as goal

pub loop-place-preserved : goal.loop-place-preserved
loop-place-preserved c =
    let put : string_bytes c.put_number.new.text ≡ string_bytes c.put_comma.new.text ++ decimal (get_or c.args.idx.now c.loop-place.place 0) = search rules in
    next_item _ _ _ _ c.loop-place.place _ _ _ (next_index c.args.idx.now c.loop-place.place c.loop-place-test.true) c.in_ok-put_comma.ensures put c.loop-place.invariant

pub returns : goal.returns
returns c =
    let last : OnOk c.push_str.result (string_bytes c.push_str.new.self ≡ string_bytes c.loop-place.text ++ codes "]") = search rules in
    let done : length c.args.idx.now ≤ c.loop-place.place = omega arith in
    on_ok c.push_str.result (λ e. last_item _ _ _ c.loop-place.place _ (no_index c.args.idx.now c.loop-place.place done) e c.loop-place.invariant) last
