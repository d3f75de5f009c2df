use Rattle.std.proofs.Common.{rules, arith, ◌≡◌, ◌≤◌, sym, ap, subst, ◌∙◌, to_z, of_z, w64, refl}
use Rattle.index_lists.proofs.Words.{unsigned_abs, per_n, splits, no_split, all_listed, going_on, whole_length, chain, false≢true}
use Rattle.index_lists.specs.SplitLists.{ListsRuns}
use Rattle.airy_math.specs.Splits.{runs}
use Rattle.airy_index.proofs.RunLemmas.{whole_length-runs}
use Rattle.index_lists.proofs.SplitListLemmas.{going-from_none, whole-small, whole-listed}
use Rattle.index_lists.proofs.split_list.SplitList.list_all.Goals.{then-put_first, else-put_first}
use Rattle.index_lists.proofs.split_list.SplitList.list_all.Goals as goal

pub chain_of-requires : goal.chain_of-requires
chain_of-requires g c =
    let same : to_z w64 (of_z w64 c.args.self.now.rest.whole.excess) ≡ c.args.self.now.rest.whole.excess = search rules in
    omega (arith, ap unsigned_abs same, whole-small c.requires.rest (subst (λ z. unsigned_abs z ≤ 99) c.per_n-per_n.ensures.value c.per_n-per_n.ensures.small) c.requires.few)

pub of-requires-clause-excess : goal.of-requires-clause-excess
of-requires-clause-excess g c = whole-small c.requires.rest (subst (λ z. unsigned_abs z ≤ 99) c.per_n-per_n.ensures.value c.per_n-per_n.ensures.small) c.requires.few

pub list_runs-self-requires : goal.list_runs-self-requires
list_runs-self-requires g c =
    let same : to_z w64 (of_z w64 c.per_n-per_n.result) ≡ c.per_n-per_n.result = search rules in
    let runs : c.as_slice.result.now ≡ runs c.args.self.now.rest.list.items = c.as_slice.ensures.value ∙ c.requires.rest.runs in
    (search rules, (rw same c.per_n-per_n.ensures.small, (search rules, omega (arith, ap whole_length runs, c.requires.few, whole_length-runs c.args.self.now.rest.list.items))))

pub returns-clause-listed : goal.returns-clause-listed
returns-clause-listed g c =
    let per = to_z w64 (of_z w64 c.per_n-per_n.result) in
    let same : per ≡ per_n c.args.shape = search rules in
    let place : c.chain_of.result ≡ chain c.args.self.now.rest.whole.excess = search rules in
    let ways : c.nothing.result.ways ≡ 1 = ap (λ x. x.ways) c.nothing.ensures in
    elim c.if-put_first.branch [
      | then-put_first w ↦ λ whole.
          let runs : w.as_slice.result.now ≡ runs c.args.self.now.rest.list.items = w.as_slice.ensures.value ∙ c.requires.rest.runs in
          let first = whole-listed _ c.requires.rest runs refl ways place c.of.ensures c.requires.none (c.put_first.ensures.put w.if-put_first.true) in
          let lists = subst (λ z. ListsRuns z w.as_slice.result.now c.put_first.new.self w.list_runs-self.new.listed) same (w.list_runs-self.ensures (sym w.self2-is ∙ whole)) in
          ap (λ s. s.splits) w.self-is ∙ lists first ∙ ap (λ rs. all_listed (per_n c.args.shape) (going_on no_split rs 0)) runs
          ∙ ap (all_listed (per_n c.args.shape)) (going-from_none c.args.self.now.rest.list.items ∙ ap (λ s. splits s.rest.list.items) (sym w.self-is))
      | else-put_first w ↦ λ whole. absurd (false≢true (sym w.if-put_first.false ∙ sym w.self2-is ∙ whole))
    ]
