use Rattle.std.proofs.Common.{◌∙◌, ap, inl, subst, sym}
use Rattle.airymore.proofs.Words.{Close, Planning, tensors_of, full_table, Ends, plan_quick}
use Rattle.airymore.proofs.quick.fill_and_print.Goals as goal

pub print_agreed-requires-clause-close : goal.print_agreed-requires-clause-close
print_agreed-requires-clause-close g c = subst (λ (p : Planning). Close (tensors_of p) p.tensors.dim) (sym c.in-Ok.ensures.plan) c.requires.close

pub print_agreed-requires-clause-full : goal.print_agreed-requires-clause-full
print_agreed-requires-clause-full g c =
    c.in-Ok.ensures.table ∙ ap (λ (p : Planning). full_table (tensors_of p) p.bound) (sym c.in-Ok.ensures.plan)

pub returns-in-Ok : goal.returns-in-Ok
returns-in-Ok g c =
    inl (subst (λ (p : Planning). Ends (plan_quick p) (g.W.Sink.state c.args.out.now) (g.W.Sink.state c.print_agreed.new.out) c.print_agreed.result)
    c.in-Ok.ensures.plan c.print_agreed.ensures)
