use Rattle.std.proofs.Common.{◌≡◌, true, false, sym, ◌∙◌, rules}
use Rattle.std.specs.Option.{is_some}
use Rattle.std.proofs.lemmas.Option.{IfSome_then}
use Rattle.bulk_tensors.specs.declared.slots.Slot.TheVariants.{First, Second}
use Rattle.bulk_tensors.specs.Full.{entry, SameBelow}
use Rattle.bulk_tensors.specs.Change.{gained, at_slot, slot_obtained}
use Rattle.bulk_tensors.proofs.ChangeLemmas.{first_refuses, second_refuses, third_decides, three_slots}
use Rattle.bulk_tensors.proofs.full.Full.change.Goals as goal

pub returns-in_err-change_slot-clause-obtained : goal.returns-in_err-change_slot-clause-obtained
returns-in_err-change_slot-clause-obtained c =
    let one : slot_obtained c.args.dim First c.args.first.now (entry c.args.self.now) ≡ false = search rules in
    let none : is_some c.from_residual.result ≡ false = search rules in
    none ∙ sym (first_refuses c.args.dim c.args.first.now c.args.second.now c.args.third.now (entry c.args.self.now) one)

pub returns-in_err-change_slot-2-clause-obtained : goal.returns-in_err-change_slot-2-clause-obtained
returns-in_err-change_slot-2-clause-obtained c =
    let one : slot_obtained c.args.dim First c.args.first.now (entry c.args.self.now) ≡ true = search rules in
    let two : slot_obtained c.args.dim Second c.args.second.now (entry c.change_slot.new.into) ≡ false = search rules in
    let none : is_some c.from_residual-in_err-change_slot-2.result ≡ false = search rules in
    let same : SameBelow c.args.dim (entry c.change_slot.new.into) (at_slot First (gained c.args.first.now) (entry c.args.self.now)) = search rules in
    none ∙ sym (second_refuses c.args.dim c.args.first.now c.args.second.now c.args.third.now (entry c.args.self.now) (entry c.change_slot.new.into) c.requires.second one same two)

pub returns-clause-obtained : goal.returns-clause-obtained
returns-clause-obtained c =
    let one : slot_obtained c.args.dim First c.args.first.now (entry c.args.self.now) ≡ true = search rules in
    let two : slot_obtained c.args.dim Second c.args.second.now (entry c.change_slot.new.into) ≡ true = search rules in
    let same : SameBelow c.args.dim (entry c.change_slot.new.into) (at_slot First (gained c.args.first.now) (entry c.args.self.now)) = search rules in
    let next : SameBelow c.args.dim (entry c.change_slot-2.new.into) (at_slot Second (gained c.args.second.now) (entry c.change_slot.new.into)) = search rules in
    c.change_slot-3.ensures.obtained
    ∙ third_decides c.args.dim c.args.first.now c.args.second.now c.args.third.now (entry c.args.self.now) (entry c.change_slot.new.into) (entry c.change_slot-2.new.into) c.requires.second c.requires.third one same two next

pub returns-clause-changed : goal.returns-clause-changed
returns-clause-changed c =
    let same : SameBelow c.args.dim (entry c.change_slot.new.into) (at_slot First (gained c.args.first.now) (entry c.args.self.now)) = search rules in
    let next : SameBelow c.args.dim (entry c.change_slot-2.new.into) (at_slot Second (gained c.args.second.now) (entry c.change_slot.new.into)) = search rules in
    IfSome_then c.change_slot-3.result c.change_slot-3.ensures.changed
    (λ u h. three_slots c.args.dim c.args.first.now c.args.second.now c.args.third.now (entry c.args.self.now) (entry c.change_slot.new.into) (entry c.change_slot-2.new.into) (entry c.change_slot-3.new.into) c.requires.second c.requires.third same next h)
