use Rattle.std.proofs.Common.{rules, ◌≡◌, ◌++◌, ℕ, ◌<◌, ◌≤◌, length, get_or, sym, ◌∙◌, subst, arith, string_bytes, codes, decimal}
use Rattle.airy_json.proofs.Common.{ℚ, IsInRange, keys_of, document_text, values_in, IsUtf8-string_bytes}
use Rattle.airy_json.proofs.PieceLemmas.{grown_document, length-values, get_or-values}
use Rattle.airy_json.proofs.BackLaw.{document-back}
use Rattle.airy_json.proofs.writing.table_json.Goals as goal

pub returns : goal.returns
returns c =
    let start : string_bytes c.push_str.new.self ≡ codes "{\"bound\":" = search rules in
    let bound : string_bytes c.put_number.new.text ≡ string_bytes c.push_str.new.self ++ decimal c.args.plan.now.bound = search rules in
    let whole : string_bytes c.push_str-4.new.self ≡ document_text c.args.kind.now c.args.plan.now.bound (keys_of c.args.plan.now) (values_in c.args.table.now)
    = grown_document _ _ _ _ _ _ _ c.args.kind.now c.args.plan.now.bound (keys_of c.args.plan.now) (values_in c.args.table.now) start bound c.in_ok-push_str-2.ensures.bytes
    c.in_ok-put_cells.ensures.text c.in_ok-push_str-3.ensures.bytes c.in_ok-put_string.ensures c.in_ok-push_str-4.ensures.bytes in
    let long : length (keys_of c.args.plan.now) ≡ length (values_in c.args.table.now) = sym c.requires.long ∙ sym (length-values c.args.table.now) in
    let range : (r : ℕ) (v : ℚ) → r < length (values_in c.args.table.now) → IsInRange (get_or (values_in c.args.table.now) r v)
    = λ r v h. let l : r < length c.args.table.now = omega (arith, length-values c.args.table.now) in
    subst IsInRange (sym (get_or-values c.args.table.now r v l)) (c.in_ok-put_cells.ensures.range r l) in record {
      text = whole;
      read_back = document-back c.below_dim.ensures c.same_limits.ensures c.args.plan.now c.planned_fact.ensures c.limits_fact.ensures.within (subst (λ t. t.dim ≤ 72) c.tensors.ensures c.soundness_fact.ensures.entries.most) c.args.kind.now (values_in c.args.table.now)
          (string_bytes c.push_str-4.new.self) (long, range) whole (IsUtf8-string_bytes c.push_str-4.new.self);
    }
