use Rattle.std.proofs.Common.{rules, ◌≡◌, pos, to_z, of_z, ◌+ℤ◌, ◌*ℤ◌}
use Rattle.std.specs.Int.{w128}
use Rattle.frac128.proofs.SumLemmas.{word_sum-ranged}
use Rattle.frac128.proofs.SignLemmas.{word_size, small_number}
use Rattle.frac128.proofs.signs.sum_of_word_multiples.Goals as goal

pub overflow_add-result : goal.overflow_add-result
overflow_add-result c =
    let l : to_z w128 (of_z w128 c.scaled.result) ≡ c.args.a *ℤ pos c.args.m = search rules in
    let r : to_z w128 (of_z w128 c.scaled-2.result) ≡ c.args.c *ℤ pos c.args.n = search rules in
    let w = word_sum-ranged c.args.a c.args.c c.args.m c.args.n (word_size c.args.a c.ranges.a) (word_size c.args.c c.ranges.c) c.requires.m_fits c.requires.n_fits in
    rw (l, r) (small_number (c.args.a *ℤ pos c.args.m +ℤ c.args.c *ℤ pos c.args.n) w.0)

pub returns-clause-value : goal.returns-clause-value
returns-clause-value c =
    let l : to_z w128 (of_z w128 c.scaled.result) ≡ c.args.a *ℤ pos c.args.m = search rules in
    let r : to_z w128 (of_z w128 c.scaled-2.result) ≡ c.args.c *ℤ pos c.args.n = search rules in
    let w = word_sum-ranged c.args.a c.args.c c.args.m c.args.n (word_size c.args.a c.ranges.a) (word_size c.args.c c.ranges.c) c.requires.m_fits c.requires.n_fits in
    let fits = small_number (c.args.a *ℤ pos c.args.m +ℤ c.args.c *ℤ pos c.args.n) w.0 in
    rw (l, r) (search (rules, fits))

pub returns-clause-fits : goal.returns-clause-fits
returns-clause-fits c =
    let l : to_z w128 (of_z w128 c.scaled.result) ≡ c.args.a *ℤ pos c.args.m = search rules in
    let r : to_z w128 (of_z w128 c.scaled-2.result) ≡ c.args.c *ℤ pos c.args.n = search rules in
    let w = word_sum-ranged c.args.a c.args.c c.args.m c.args.n (word_size c.args.a c.ranges.a) (word_size c.args.c c.ranges.c) c.requires.m_fits c.requires.n_fits in
    let fits = small_number (c.args.a *ℤ pos c.args.m +ℤ c.args.c *ℤ pos c.args.n) w.0 in
    let e : to_z w128 (of_z w128 (c.args.a *ℤ pos c.args.m +ℤ c.args.c *ℤ pos c.args.n)) ≡ c.args.a *ℤ pos c.args.m +ℤ c.args.c *ℤ pos c.args.n = search (rules, fits) in
    rw (l, r, e) w.0
