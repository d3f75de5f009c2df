use Rattle.std.proofs.Common.{rules, ◌≡◌, ◌++◌, OnOk, sym, subst, IsUtf8, string_bytes, codes}
use Rattle.airy_json.proofs.Common.{fraction_text, plain-fraction, of-plain, utf8-ascii}
use Rattle.airy_json.proofs.PieceLemmas.{on_ok, grown_value}
use Rattle.airy_json.proofs.writing.put_value.Goals as goal

pub unreachable-requires : goal.unreachable-requires
unreachable-requires c =
    c.in_default.ensures.cases.0 (subst IsUtf8 (sym c.write_into-size.ensures.text) (utf8-ascii (fraction_text c.args.v) (of-plain _ (plain-fraction c.args.v c.range_fact.ensures.range))))

pub returns : goal.returns
returns c =
    let word : string_bytes c.push_str-2.new.self ≡ string_bytes c.push_str.new.self ++ fraction_text c.args.v = search rules in
    let last : OnOk c.push_str-3.result (string_bytes c.push_str-3.new.self ≡ string_bytes c.push_str-2.new.self ++ codes "\"") = search rules in
    on_ok c.push_str-3.result
    (grown_value (string_bytes c.args.text.now) _ _ _ (fraction_text c.args.v) (plain-fraction c.args.v c.range_fact.ensures.range) c.in_ok-push_str.ensures.bytes word) last
