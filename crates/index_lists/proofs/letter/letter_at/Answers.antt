use Rattle.std.proofs.Common.{arith, rules, sym, ◌∙◌, subst, to_z, of_z, w64}
use Rattle.index_lists.proofs.Words.{ints, IsSmallLaw}
use Rattle.index_lists.proofs.WindowLemmas.{no_room, room_is, natural_none, natural_some}
use Rattle.index_lists.proofs.letter.letter_at.Goals as goal

pub returns-in_default : goal.returns-in_default
returns-in_default c = sym (no_room c.args.tensors.now.shape c.args.key.now (λ l e. c.in_default.not-AtMost l (c.shape.ensures ∙ e)))

pub returns-then-room-lt0 : goal.returns-then-room-lt0
returns-then-room-lt0 c = sym (room_is c.args.tensors.now.shape c.in-AtMost.law c.args.key.now c.room_of-room.result (sym c.shape.ensures ∙ c.in-AtMost.is) c.room_of-room.ensures.value ∙ natural_none c.room_of-room.result (omega (arith, ints)))

pub room_of-room-requires : goal.room_of-room-requires
room_of-room-requires c = subst IsSmallLaw (sym c.shape.ensures ∙ c.in-AtMost.is) c.soundness_fact.ensures.entries.law

pub overflow_cast-result : goal.overflow_cast-result
overflow_cast-result c = omega (arith, ints, c.room_of-room.ensures.most)

pub returns : goal.returns
returns c = natural_some c.room_of-room.result (to_z w64 (of_z w64 c.room_of-room.result)) (omega (arith, ints)) (search rules) ∙ sym (room_is c.args.tensors.now.shape c.in-AtMost.law c.args.key.now c.room_of-room.result (sym c.shape.ensures ∙ c.in-AtMost.is) c.room_of-room.ensures.value)
