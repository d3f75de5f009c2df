use Rattle.std.proofs.Common.{rules, ◌≡◌, ◌++◌, ℕ, OnOk, length, arith, ◌≤◌, ◌<◌, subst, string_bytes, codes}
use Rattle.airy_json.proofs.Common.{IsInRange, keys_of, cell_data, value_in, values_in, compact_text}
use Rattle.amp_plan.specs.Plans.{key_at}
use Rattle.airy_json.proofs.PieceLemmas.{on_ok, next_item, last_item, next_cell, no_cell, next_range}
use Rattle.airy_json.proofs.writing.put_cells.Goals as goal

pub loop-rank-preserved : goal.loop-rank-preserved
unfolding key_at
loop-rank-preserved c =
    let within : c.loop-rank.rank < length (keys_of c.args.plan.now) = omega arith in
    let put : string_bytes c.put_cell.new.text ≡ string_bytes c.put_comma.new.text ++ compact_text (cell_data (key_at c.args.plan.now c.loop-rank.rank) (value_in c.args.table.now c.loop-rank.rank)) = search rules in
    let kept : IsInRange (value_in c.args.table.now c.loop-rank.rank) = subst IsInRange c.value_of_rank-value.ensures c.range_fact.ensures.range in record {
      text = next_item _ _ _ _ c.loop-rank.rank _ _ _ (next_cell (keys_of c.args.plan.now) c.args.table.now c.loop-rank.rank within c.requires.long) c.in_ok-put_comma.ensures put c.loop-rank.invariant.text;
      range = next_range c.args.table.now c.loop-rank.rank c.loop-rank.invariant.range kept;
    }

pub returns : goal.returns
returns c =
    let last : OnOk c.push_str.result (string_bytes c.push_str.new.self ≡ string_bytes c.loop-rank.text ++ codes "]") = search rules in
    let done : length (keys_of c.args.plan.now) ≤ c.loop-rank.rank = omega arith in
    let all : (r : ℕ) → r < length c.args.table.now → IsInRange (value_in c.args.table.now r) = λ r h. c.loop-rank.invariant.range r (omega (arith, c.requires.long)) in record {
      text = on_ok c.push_str.result (λ e. last_item _ _ _ c.loop-rank.rank _ (no_cell (keys_of c.args.plan.now) (values_in c.args.table.now) c.loop-rank.rank done) e c.loop-rank.invariant.text) last;
      range = on_ok c.push_str.result (λ e. all) last;
    }
