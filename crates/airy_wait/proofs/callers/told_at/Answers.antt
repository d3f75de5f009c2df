use Rattle.std.proofs.Common.{◌≡◌, ◌/◌, ◌%◌, ◌<◌, rules, arith, length, get_or, refl, slice_index_or}
use Rattle.std.proofs.lemmas.Option.{slice_get_read}
use Rattle.airy_wait.proofs.TurnLemmas.{turn_told, turn_within}
use Rattle.airy_wait.proofs.callers.told_at.Goals as goal

pub index-requires : goal.index-requires
index-requires c =
    let cs = c.args.callers.now in let d = c.index-callers-k.result in
    let own = slice_index_or cs (c.args.k % length cs) d in
    omega (arith, turn_within c.requires.0 cs c.args.k d c.requires.1 c.requires.2, own.told.ok.0)

pub returns : goal.returns
returns c = λ all told low.
    let cs = c.args.callers.now in let d = c.index-callers-k.result in let t = c.index.result.now in
    let own = slice_index_or cs (c.args.k % length cs) d in
    let at : t ≡ get_or own.told.items (c.args.k / length cs) t = search rules in
    turn_told all cs c.args.k d t told low (slice_get_read own.told.items (length own.told.items) (c.args.k / length cs) t refl (turn_within all cs c.args.k d told low) at)
