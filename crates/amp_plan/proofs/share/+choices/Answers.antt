use Rattle.std.proofs.Common.{arith, rules, sym, ◌∙◌, ◌+◌}
use Rattle.amp_plan.proofs.Words.{more_of, CanGoOn}
use Rattle.amp_plan.proofs.WalkLemmas.{takes-none, takes-same, taken-none, taken-more, taken-all, allowed-next, allowed-same}
use Rattle.index_lists.proofs.SplitLemmas.{count-none, count-next, count-over}
use Rattle.amp_plan.proofs.ChoiceLemmas.{choices-more}
use Rattle.amp_plan.proofs.ReachLemmas.{passed_over}
use Rattle.amp_plan.proofs.StageLemmas.{chosen-light, count_short, gain_enough, loss_enough, at_first, at_next, at_light, at_ways, chosen_next}
use Rattle.amp_plan.proofs.share.+choices.Goals as goal

pub walk_reachable-can_reach-requires-clause-light : goal.walk_reachable-can_reach-requires-clause-light
walk_reachable-can_reach-requires-clause-light g t c = chosen-light c.requires.share c.requires.go_on.chosen

pub walk_reachable-returns-then-not-can_reach : goal.walk_reachable-returns-then-not-can_reach
walk_reachable-returns-then-not-can_reach g t c = λ s k. takes-same (sym (passed_over c.requires.share k (sym c.can_reach.ensures ∙ c.if-not-can_reach.true))) takes-none

pub walk_choices-before-next-requires-clause-gain : goal.walk_choices-before-next-requires-clause-gain
walk_choices-before-next-requires-clause-gain g t c = gain_enough c.requires.go_on.chosen c.of-item.result.excess (search rules)

pub walk_choices-before-next-requires-clause-loss : goal.walk_choices-before-next-requires-clause-loss
walk_choices-before-next-requires-clause-loss g t c = loss_enough c.requires.go_on.chosen c.of-item.result.excess (search rules)

pub walk_choices-loop-taken-init : goal.walk_choices-loop-taken-init
walk_choices-loop-taken-init g t c = record {
  within = omega arith;
  at = λ s k. at_first k c.of-item.result.excess (search rules) c.before-next.ensures;
  taken = λ s k. taken-none (count-none c.args.run.1);
}

pub walk_choices-walk_reachable-requires : goal.walk_choices-walk_reachable-requires
walk_choices-walk_reachable-requires g t c κs within =
    let s = c.requires.go_on.split in
    let k = c.requires.go_on.chosen in
    let inv = c.loop-taken.invariant in
    let whole = allowed-same _ (sym (choices-more c.args.ranking.now c.args.share.now s c.args.run c.args.others.now)) c.requires.go_on.allowed in
    let go_on : CanGoOn (g.V.TermVisitor.allows c.loop-taken.visitor) c.args.ranking.now c.args.share.now c.args.others.now c.loop-taken.next = record {
      split = more_of s c.args.run c.loop-taken.taken;
      chosen = chosen_next k (search rules) inv.within (inv.at s k);
      allowed = allowed-next (count-next c.loop-taken.taken c.args.run.1 inv.within) whole (inv.taken s k);
    } in
    (search rules, (within, (c.requires.keys, (c.requires.exact, (c.requires.share, go_on)))))

pub walk_choices-one_more-next-requires-clause-part : goal.walk_choices-one_more-next-requires-clause-part
walk_choices-one_more-next-requires-clause-part g t c =
    let k = c.requires.go_on.chosen in
    at_light k c.requires.share (search rules) (omega (arith, c.loop-taken.invariant.within)) (c.loop-taken.invariant.at c.requires.go_on.split k)

pub walk_choices-one_more-next-requires-clause-short : goal.walk_choices-one_more-next-requires-clause-short
walk_choices-one_more-next-requires-clause-short g t c = count_short c.requires.go_on.chosen

pub walk_choices-one_more-next-requires-clause-ways : goal.walk_choices-one_more-next-requires-clause-ways
walk_choices-one_more-next-requires-clause-ways g t c = at_ways c.requires.go_on.chosen (c.loop-taken.invariant.at c.requires.go_on.split c.requires.go_on.chosen)

pub walk_choices-loop-taken-preserved : goal.walk_choices-loop-taken-preserved
walk_choices-loop-taken-preserved g t c =
    let inv = c.loop-taken.invariant in record {
      within = omega (arith, inv.within);
      at = λ s k. at_next k (inv.at s k) (search rules) c.one_more-next.ensures;
      taken = λ s k.
          taken-more (count-next c.loop-taken.taken c.args.run.1 inv.within) (inv.taken s k)
          (c.walk_reachable.ensures (more_of s c.args.run c.loop-taken.taken) (chosen_next k (search rules) inv.within (inv.at s k)));
    }

pub walk_choices-returns-then-taken-run : goal.walk_choices-returns-then-taken-run
walk_choices-returns-then-taken-run g t c = λ s k.
    let inv = c.loop-taken.invariant in
    let taken = taken-more (count-next c.loop-taken.taken c.args.run.1 inv.within) (inv.taken s k)
    (c.walk_reachable.ensures (more_of s c.args.run c.loop-taken.taken) (chosen_next k (search rules) inv.within (inv.at s k))) in
    takes-same (sym (choices-more c.args.ranking.now c.args.share.now s c.args.run c.args.others.now)) (taken-all (count-over (c.loop-taken.taken + 1) c.args.run.1 (omega (arith, c.if-taken-run.true))) taken)
