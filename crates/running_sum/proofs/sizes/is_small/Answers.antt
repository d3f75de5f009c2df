use Rattle.std.proofs.Common.{rules, ◌≡◌, ◌/◌, ◌-◌, unsigned_abs, ap, sym, ◌∙◌}
use Rattle.std.specs.Prelude.{◌^◌}
use Rattle.std.proofs.lemmas.Bool.{eqb-true}
use Rattle.running_sum.proofs.UnreducedLemmas.{small_raised}
use Rattle.running_sum.proofs.sizes.is_small.Goals as goal

pub returns : goal.returns
returns c = λ zero.
    let e : c.unsigned_abs.result ≡ unsigned_abs c.args.n = search rules in
    small_raised (unsigned_abs c.args.n) c.args.twos c.requires (ap (λ n. n / 2 ^ 64 / 2 ^ (62 - c.args.twos)) (sym e) ∙ eqb-true _ 0 zero)
