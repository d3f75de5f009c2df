use Rattle.std.proofs.Common.{◌≡◌, length, Some, None, cond, arith, sym, ap, ◌∙◌, subst}
use Rattle.cell_words.proofs.DealLemmas.{whole}
use Rattle.cell_words.proofs.Names.{has, outcome_at, AreAll, receipts_of}
use Rattle.fill_crew.proofs.CrewLemmas.{full_is}
use Rattle.fill_crew.proofs.sweeps.close_swept.Goals as goal

pub sweep-requires : goal.sweep-requires
sweep-requires c = subst (AreAll c.args.board) (sym c.as_mut_slice.ensures.value) c.requires

pub close-requires : goal.close-requires
close-requires c =
    let v = c.args.seats in let new = c.sweep.new.seats in
    let items : length v.items ≡ v.len = omega (arith, v.ok.0) in
    record { seats = subst (AreAll c.args.board) (sym (whole v.len new v.items (c.sweep.ensures.len ∙ ap length c.as_mut_slice.ensures.value ∙ items) items)) c.sweep.ensures.all }

pub returns-clause-table : goal.returns-clause-table
returns-clause-table c =
    let v = c.args.seats in let new = c.sweep.new.seats in let p = c.args.board.base.plan in
    let items : length v.items ≡ v.len = omega (arith, v.ok.0) in
    let back = whole v.len new v.items (c.sweep.ensures.len ∙ ap length c.as_mut_slice.ensures.value ∙ items) items in
    full_is p _ c.close.ensures.len (λ r l. c.close.ensures.table r l ∙ ap (λ ss. cond (has r (receipts_of ss)) (Some (outcome_at p r)) None) back ∙ ap (λ t. cond t (Some (outcome_at p r)) None) (c.sweep.ensures.filled r l))
