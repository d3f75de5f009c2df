use Rattle.std.proofs.Common.{◌≡◌, rules, true, false, refl, subst, arith, nat_le}
use Rattle.run_reports.proofs.Names.{Taking, euler, EndsByOrWants, is_bound, structure_of}
use Rattle.airy_math.specs.Jobs.{Wp}
use Rattle.correlators.specs.Volumes.{counted}
use Rattle.airyrun.specs.Numbers.{IsQuotients, takes_volume}
use Rattle.airyrun.specs.Valued.{IsValued}
use Rattle.airyrun.proofs.VolumeLemmas.{beyond_volume, made_volume, many_terms, unmade_volume}
use Rattle.airyrun.proofs.volumes.volume_of_pair.Goals as goal

pub overflow_sub-bound : goal.overflow_sub-bound
unfolding euler
overflow_sub-bound g c = omega (arith, c.requires.stable)

pub returns-then-not-is_bound : goal.returns-then-not-is_bound
unfolding euler
returns-then-not-is_bound g c =
    let no : is_bound (euler c.args.genus c.args.places) ≡ false = search rules in
    beyond_volume c.args.genus c.args.places _ _ _ no c.refuse_bound.ensures

pub counted-terms-requires-clause-bound : goal.counted-terms-requires-clause-bound
unfolding euler
counted-terms-requires-clause-bound g c = search rules

pub returns-then-terms-gt-MOST_TERMS : goal.returns-then-terms-gt-MOST_TERMS
unfolding euler
returns-then-terms-gt-MOST_TERMS g c =
    let bounded : is_bound (euler c.args.genus c.args.places) ≡ true = search rules in
    let many : nat_le (counted c.args.genus c.args.places) 100000 ≡ false = search rules in
    many_terms c.args.genus c.args.places _ _ _ bounded many (rw (← c.counted-terms.ensures.value) c.refuse_terms.ensures)

pub print_volume-requires-clause-takes : goal.print_volume-requires-clause-takes
unfolding euler takes_volume
print_volume-requires-clause-takes g c =
    let bounded : is_bound (euler c.args.genus c.args.places) ≡ true = search rules in
    let few : nat_le (counted c.args.genus c.args.places) 100000 ≡ true = search rules in
    rw (bounded, few) refl

pub print_volume-requires-clause-valued : goal.print_volume-requires-clause-valued
unfolding euler structure_of
print_volume-requires-clause-valued g c = c.in-Ok.ensures.valued

pub returns-in-Ok : goal.returns-in-Ok
unfolding euler structure_of
returns-in-Ok g c =
    let bounded : is_bound (euler c.args.genus c.args.places) ≡ true = search rules in
    let few : nat_le (counted c.args.genus c.args.places) 100000 ≡ true = search rules in
    let made : IsValued Wp (euler c.args.genus c.args.places) c.in-Ok.valued.plan c.in-Ok.valued.table = c.in-Ok.ensures.valued in
    made_volume c.args.genus c.args.places _ _ _ bounded few made.next
    (subst (λ (t : Taking). EndsByOrWants (IsQuotients c.args.genus c.args.places) t (g.W.Sink.state c.print_volume.new.out) c.print_volume.result) c.in-Ok.ensures.kept c.print_volume.ensures)

pub returns-in-Err : goal.returns-in-Err
unfolding euler structure_of
returns-in-Err g c =
    let bounded : is_bound (euler c.args.genus c.args.places) ≡ true = search rules in
    let few : nat_le (counted c.args.genus c.args.places) 100000 ≡ true = search rules in
    unmade_volume c.args.genus c.args.places _ _ _ bounded few c.in-Err.ensures.refused
