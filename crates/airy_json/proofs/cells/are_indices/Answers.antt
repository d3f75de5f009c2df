use Rattle.std.proofs.Common.{◌≡◌, get_or, false, true, sym, arith, rules, ◌∙◌}
use Rattle.airy_json.proofs.Common.{whole, is_whole, view}
use Rattle.airy_json.proofs.FormLemmas.{indices-other, indices-at, indices-end}
use Rattle.airy_json.proofs.cells.are_indices.Goals as goal

pub returns-then-len-indices : goal.returns-then-len-indices
returns-then-len-indices c = sym (indices-other c.args.indices.now c.args.items.now.items (λ e. omega (arith, e)))

pub returns-then-not-is_whole : goal.returns-then-not-is_whole
unfolding whole
returns-then-not-is_whole c =
    let test : false ≡ is_whole (get_or c.args.indices.now c.loop-place.place 0) (whole (view c.index.result.now)) = search rules in
    sym (indices-at c.args.indices.now c.args.items.now.items c.loop-place.place c.index.result.now false (omega arith) (omega (arith, c.loop-place.invariant.same)) c.index.ensures test)
    ∙ c.loop-place.invariant.rest

pub loop-place-preserved : goal.loop-place-preserved
unfolding whole
loop-place-preserved c =
    let test : true ≡ is_whole (get_or c.args.indices.now c.loop-place.place 0) (whole (view c.index.result.now)) = search rules in
    record {
      rest =
          sym (indices-at c.args.indices.now c.args.items.now.items c.loop-place.place c.index.result.now true (omega arith) (omega (arith, c.loop-place.invariant.same)) c.index.ensures test)
          ∙ c.loop-place.invariant.rest;
      same = c.loop-place.invariant.same;
    }

pub returns : goal.returns
returns c =
    sym (indices-end c.args.indices.now c.args.items.now.items c.loop-place.place (omega arith) (omega (arith, c.loop-place.invariant.same)))
    ∙ c.loop-place.invariant.rest
