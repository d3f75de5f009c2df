use Rattle.std.proofs.Common.{◌≡◌, ◌+◌, ◌/◌, ◌%◌, ◌≤◌, ℕ, false, List, sym, subst, ◌∙◌, arith, rules, Some, None}
use Rattle.std.specs.Option.{is_some}
use Rattle.airy_math.specs.Rational.{ℚ}
use Rattle.bulk_tensors.specs.Full.{entry}
use Rattle.bulk_tensors.specs.Change.{obtained_gained, at_slot}
use Rattle.bulk_tensors.proofs.ChangeLemmas.{slot_false}
use Rattle.bulk_tensors.proofs.FullLemmas.{Walked, walked_next, walked_skip, walked_obtained, walked_same}
use Rattle.bulk_tensors.proofs.full.Full.change_slot.Goals as goal
use Rattle.bulk_tensors.proofs.full.Full.change_slot.Goals.{then-are_below+in_ok-changed, else-are_below}

pub returns-in_err-changed-clause-obtained : goal.returns-in_err-changed-clause-obtained
returns-in_err-changed-clause-obtained c =
    let p = c.loop-place.place in
    let below = c.are_below.ensures.0 c.if-are_below.true in
    let none : at_slot c.args.slot (obtained_gained c.args.gain.now) (entry c.args.self.now) (p / 64) (p / 8 % 8) (p % 8) ≡ None = search rules in
    let is_none : is_some c.from_residual.result ≡ false = search rules in
    is_none ∙ sym (slot_false c.args.slot c.args.dim c.args.gain.now (entry c.args.self.now) (p / 64) (p / 8 % 8) (p % 8) below.0 below.1 below.2 none)

pub loop-place-preserved : goal.loop-place-preserved
loop-place-preserved c =
    let p = c.loop-place.place in
    let f = at_slot c.args.slot (obtained_gained c.args.gain.now) (entry c.args.self.now) in
    elim c.if-are_below.branch [
      | then-are_below+in_ok-changed w ↦
          let some : f (p / 64) (p / 8 % 8) (p % 8) ≡ Some w.in_ok-changed.changed = search rules in
          let next = walked_next c.args.dim p f c.loop-place.into w.set.new.self w.in_ok-changed.changed c.requires.most c.loop-place.invariant some w.set.ensures.set w.set.ensures.here in
          subst (λ (l : List ℚ). Walked c.args.dim (p + 1) f (entry l)) (sym w.into-is) next
      | else-are_below w ↦
          let skip = walked_skip c.args.dim p f (entry c.loop-place.into) c.requires.most (λ x y z. let yes = c.are_below.ensures.1 (x, y, z) in cc) c.loop-place.invariant in
          subst (λ (l : List ℚ). Walked c.args.dim (p + 1) f (entry l)) (sym w.into-is) skip
    ]

whole : (p : ℕ) → p ≤ 512 → 512 ≤ p → p ≡ 512
whole p h k = omega arith

pub returns-clause-obtained : goal.returns-clause-obtained
returns-clause-obtained c =
    let f = at_slot c.args.slot (obtained_gained c.args.gain.now) (entry c.args.self.now) in
    let all = subst (λ p. Walked c.args.dim p f (entry c.loop-place.into)) (whole c.loop-place.place c.loop-place.auto.place-end c.loop-place-test.false) c.loop-place.invariant in
    sym (walked_obtained c.args.dim c.args.slot c.args.gain.now (entry c.args.self.now) (entry c.loop-place.into) c.requires.most all)

pub returns-clause-changed : goal.returns-clause-changed
returns-clause-changed c =
    let f = at_slot c.args.slot (obtained_gained c.args.gain.now) (entry c.args.self.now) in
    let all = subst (λ p. Walked c.args.dim p f (entry c.loop-place.into)) (whole c.loop-place.place c.loop-place.auto.place-end c.loop-place-test.false) c.loop-place.invariant in
    walked_same c.args.dim c.args.slot c.args.gain.now (entry c.args.self.now) (entry c.loop-place.into) c.requires.most all
