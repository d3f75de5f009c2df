use Rattle.std.proofs.Common.{rules, arith, ap₂, ◌∙◌, ◌≡◌, ℤ, pos, ◌*ℤ◌, ◌-ℤ◌, to_z, of_z, w16, w32}
use Rattle.index_lists.proofs.Words.{ints, law_number}
use Rattle.index_lists.proofs.window.number_of.Goals as goal
use Rattle.airy_math.proofs.IntLemmas.{product_as}

pub returns-clause-value : goal.returns-clause-value
unfolding law_number
returns-clause-value c =
    let by_genus : c.times.result ≡ c.args.law.per_g *ℤ (pos c.args.g -ℤ pos 1) = product_as c.times.result (to_z w32 (of_z w32 c.args.law.per_g)) (to_z w16 (of_z w16 (to_z w16 (of_z w16 c.from.result) -ℤ pos 1))) c.args.law.per_g (pos c.args.g -ℤ pos 1) c.times.ensures.value (search rules) (omega (arith, ints)) in
    let by_places : c.times-2.result ≡ c.args.law.per_n *ℤ pos c.args.n = product_as c.times-2.result (to_z w32 (of_z w32 c.args.law.per_n)) (to_z w16 (of_z w16 c.from-2.result)) c.args.law.per_n (pos c.args.n) c.times-2.ensures.value (search rules) (omega (arith, ints)) in
    rw (← by_genus, ← by_places) (search rules)
