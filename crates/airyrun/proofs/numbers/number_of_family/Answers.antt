use Rattle.std.proofs.Common.{◌≡◌, rules, true, false, subst}
use Rattle.run_reports.proofs.Names.{Taking, is_bound, structure_of, EndsBy}
use Rattle.airyrun.specs.Numbers.{IsQuotient, euler_of}
use Rattle.airyrun.specs.Valued.{IsValued}
use Rattle.airyrun.proofs.NumberLemmas.{beyond_number, made_number, unmade_number}
use Rattle.airyrun.proofs.numbers.number_of_family.Goals as goal

pub returns-then-not-is_bound : goal.returns-then-not-is_bound
returns-then-not-is_bound g c =
    let no : is_bound (euler_of c.args.key.now) ≡ false = search rules in
    beyond_number (structure_of c.args.family) c.args.key.now _ _ _ no (rw (← c.euler-bound.ensures) c.refuse_bound.ensures)

pub returns-in-Ok : goal.returns-in-Ok
returns-in-Ok g c =
    let made : IsValued (structure_of c.args.family) (euler_of c.args.key.now) c.in-Ok.valued.plan c.in-Ok.valued.table = rw (← c.euler-bound.ensures) c.in-Ok.ensures.valued in
    let ends : EndsBy (IsQuotient (structure_of c.args.family) c.args.key.now) (g.W.Sink.state c.args.out.now) (g.W.Sink.state c.print_number.new.out) c.print_number.result =
    subst (λ (t : Taking). EndsBy (IsQuotient (structure_of c.args.family) c.args.key.now) t (g.W.Sink.state c.print_number.new.out) c.print_number.result) c.in-Ok.ensures.kept c.print_number.ensures in
    made_number (structure_of c.args.family) c.args.key.now _ _ _ made.next ends

pub returns-in-Err : goal.returns-in-Err
returns-in-Err g c =
    let bounded : is_bound (euler_of c.args.key.now) ≡ true = search rules in
    unmade_number (structure_of c.args.family) c.args.key.now _ _ _ bounded (rw (← c.euler-bound.ensures) c.in-Err.ensures.refused)
