use Rattle.std.proofs.Common.{◌≡◌, length, arith, sym, ap, ◌∙◌, subst}
use Rattle.cell_words.proofs.DealLemmas.{whole}
use Rattle.cell_words.proofs.Names.{AreAll}
use Rattle.fill_crew.proofs.tests.close_passed.Goals as goal

pub pass_and_sweep-requires-clause-seats : goal.pass_and_sweep-requires-clause-seats
pass_and_sweep-requires-clause-seats g c κs within = subst (AreAll c.args.board) (sym c.as_mut_slice.ensures.value) c.requires

pub close-requires : goal.close-requires
close-requires g c =
    let v = c.args.seats in let new = c.pass_and_sweep.new.seats in
    let items : length v.items ≡ v.len = omega (arith, v.ok.0) in
    record { seats = subst (AreAll c.args.board) (sym (whole v.len new v.items (c.pass_and_sweep.ensures.len ∙ ap length c.as_mut_slice.ensures.value ∙ items) items)) c.pass_and_sweep.ensures.all }
