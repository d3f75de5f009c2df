use Rattle.std.proofs.Common.{arith, sym, ◌∙◌, ◌≡◌, ◌<◌, ◌+◌, ◌-◌, ◌/◌, ap, length, true, false, get_or}
use Rattle.std.proofs.lemmas.List.{get_or_read}
use Rattle.airy_math.specs.Keys.{before}
use Rattle.amp_plan.proofs.SearchLemmas.{place-above, place-below}
use Rattle.amp_plan.proofs.search.place_among.Goals as goal

pub loop-low-preserved-then-before : goal.loop-low-preserved-then-before
loop-low-preserved-then-before c =
    let middle = c.loop-low.low + (c.loop-low.high - c.loop-low.low) / 2 in
    let within : c.loop-low.low + (c.loop-low.high - c.loop-low.low) / 2 < length c.args.keys.now = omega (arith, c.loop-low.invariant.within) in
    let key = get_or_read c.args.keys.now middle c.index-keys-middle.result within c.index-keys-middle.is c.args.key.now in
    let less : before (get_or c.args.keys.now middle c.args.key.now) c.args.key.now ≡ true = ap (λ k. before k c.args.key.now) (sym key) ∙ sym c.before-in-loop-low.ensures ∙ c.if-before.true in
    let above = place-above c.args.key.now c.args.keys.now middle c.requires.order c.requires.there within less in
    record { low = omega (arith, above); high = c.loop-low.invariant.high; within = c.loop-low.invariant.within }

pub loop-low-preserved : goal.loop-low-preserved
loop-low-preserved c =
    let middle = c.loop-low.low + (c.loop-low.high - c.loop-low.low) / 2 in
    let within : c.loop-low.low + (c.loop-low.high - c.loop-low.low) / 2 < length c.args.keys.now = omega (arith, c.loop-low.invariant.within) in
    let key = get_or_read c.args.keys.now middle c.index-keys-middle.result within c.index-keys-middle.is c.args.key.now in
    let less : before (get_or c.args.keys.now middle c.args.key.now) c.args.key.now ≡ false = ap (λ k. before k c.args.key.now) (sym key) ∙ sym c.before-in-loop-low.ensures ∙ c.if-before.false in
    record { low = c.loop-low.invariant.low; high = place-below c.args.key.now c.args.keys.now middle c.requires.order c.requires.there less; within = omega arith }
