use Rattle.std.proofs.Common.{◌≡◌, Some, refl, sym, ap, ◌∙◌}
use Rattle.airy_json.proofs.Common.{0ℚ, value_in}
use Rattle.std.specs.Option.{unwrap_or}
use Rattle.airy_json.proofs.PieceLemmas.{some_value}
use Rattle.airy_json.proofs.writing.value_of_rank.Goals as goal

pub unwrap-requires : goal.unwrap-requires
unwrap-requires c = rw (c.value.ensures ∙ some_value c.args.table.now c.args.rank c.requires.values c.requires.rank) refl

pub returns : goal.returns
returns c =
    let same : Some c.unwrap.result ≡ Some (value_in c.args.table.now c.args.rank) = sym c.unwrap.ensures ∙ c.value.ensures ∙ some_value c.args.table.now c.args.rank c.requires.values c.requires.rank in
    ap (λ o. unwrap_or o 0ℚ) same
