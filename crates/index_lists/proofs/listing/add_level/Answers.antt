use Rattle.std.proofs.Common.{arith, ap, ◌∙◌, ◌++◌, ◌+◌, ◌/◌}
use Rattle.index_lists.proofs.Words.{err_from_is_err_and, looked_up, each, count_from, keys_at, level_keys}
use Rattle.airy_math.specs.Sums.{below}
use Rattle.index_lists.proofs.ListingLemmas.{append-none}
use Rattle.index_lists.proofs.LevelLemmas.{each-more, each-end, each-too_long}
use Rattle.index_lists.proofs.listing.add_level.Goals as goal

pub loop-genus-init : goal.loop-genus-init
unfolding level_keys below
loop-genus-init c = record { few = c.requires.few; listed = ap (λ n. c.args.keys.now.items ++ each (count_from 0 n) (keys_at (looked_up c.args.tensors.now) c.args.level)) (omega arith) }

pub returns-in_err-add_genus-clause-full : goal.returns-in_err-add_genus-clause-full
returns-in_err-add_genus-clause-full c = λ e.
    let p = err_from_is_err_and c.from_residual.result c.from_residual.ensures.1 in
    each-too_long (keys_at (looked_up c.args.tensors.now) c.args.level) c.loop-genus.genus (c.args.level / 2 + 2) 200000 c.loop-genus.keys.items (level_keys (looked_up c.args.tensors.now) c.args.level) c.args.keys.now.items (omega arith) (c.add_genus.ensures.full (cc (p.1, p.2, c.in_err-add_genus.was))) c.loop-genus.invariant.listed

pub loop-genus-preserved : goal.loop-genus-preserved
loop-genus-preserved c = record {
  few = c.in_ok-add_genus.ensures.few;
  listed = each-more (keys_at (looked_up c.args.tensors.now) c.args.level) c.loop-genus.genus (c.args.level / 2 + 2) c.loop-genus.keys.items c.add_genus.new.keys.items (c.args.keys.now.items ++ level_keys (looked_up c.args.tensors.now) c.args.level) (omega arith) c.in_ok-add_genus.ensures.listed c.loop-genus.invariant.listed;
}

pub returns-clause-listed : goal.returns-clause-listed
returns-clause-listed c = append-none c.loop-genus.keys.items (each-end (keys_at (looked_up c.args.tensors.now) c.args.level) c.loop-genus.genus (c.args.level / 2 + 2) (omega arith)) ∙ c.loop-genus.invariant.listed
