use Rattle.std.proofs.Common.{◌≡◌, ◌∙◌, sym, subst, Some, None}
use Rattle.airymore.proofs.Words.{looked_up, Ends, first_over, found_report, numbers_report, places}
use Rattle.airymore.proofs.brackets.print_obtained.Goals as goal

pub returns-in-Some : goal.returns-in-Some
unfolding numbers_report found_report
returns-in-Some g c =
    let t = c.args.tensors.now in
    let is : Some c.in-Some.place ≡ first_over (looked_up t) (places t.dim) = sym c.in-Some.is ∙ c.find_over.ensures in
    subst (λ o. Ends (found_report (looked_up t) t.dim o) (g.W.Sink.state c.args.out.now) (g.W.Sink.state c.refuse_place.new.out) c.refuse_place.result) is c.refuse_place.ensures

pub returns-in-None : goal.returns-in-None
unfolding numbers_report found_report
returns-in-None g c =
    let t = c.args.tensors.now in
    let is : None ≡ first_over (looked_up t) (places t.dim) = sym c.in-None.is ∙ c.find_over.ensures in
    subst (λ o. Ends (found_report (looked_up t) t.dim o) (g.W.Sink.state c.args.out.now) (g.W.Sink.state c.print_numbers.new.out) c.print_numbers.result) is c.print_numbers.ensures
