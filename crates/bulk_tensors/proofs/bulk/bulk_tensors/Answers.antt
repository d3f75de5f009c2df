use Rattle.std.proofs.Common.{◌≡◌, ℕ, ◌+◌, ◌*◌, ◌-◌, ◌%◌, ◌<◌, cond, ap, sym, subst, ◌∙◌, refl, arith, rules, pos, ◌-ℤ◌, None, Some}
use Rattle.std.proofs.lemmas.Result.{err_from_is_err_and}
use Rattle.airy_math.specs.Rational.{◌/ℚ◌}
use Rattle.airy_math.specs.Tensors.{SameEntries}
use Rattle.bulk_tensors.specs.Bulk.{after, bulk, factor, first_refused, bulk_refusal, NamesStep}
use Rattle.bulk_tensors.specs.Change.{is_obtained}
use Rattle.bulk_tensors.specs.Draws.{state}
use Rattle.bulk_tensors.specs.Full.{listed}
use Rattle.bulk_tensors.proofs.BulkLaw.{after_dim, after_next, refused_next, names_change, was_obtained, bulk_symmetric, bulk_sound}
use Rattle.bulk_tensors.proofs.bulk.bulk_tensors.Goals as goal

-- the dim of what stands for the tensors after some changes
same_dim : (n : ℕ) (seed dim r : ℕ) → n ≡ (after seed dim r).dim → n ≡ dim
same_dim n seed dim r e = e ∙ after_dim seed dim r

plus_zero : (n : ℕ) → n ≡ n + 0
plus_zero n = omega arith

pub returns-in_err-full-clause-over : goal.returns-in_err-full-clause-over
unfolding NamesStep
returns-in_err-full-clause-over c = let p = err_from_is_err_and c.from_residual.result c.from_residual.ensures.1 in rw (p.1, p.2) tt

pub loop-r-init : goal.loop-r-init
unfolding after first_refused
loop-r-init c = (c.set_diagonal.ensures.entries, refl, c.set_diagonal.ensures.draws ∙ ap (state c.args.seed) (plus_zero (4 * c.args.dim)))

pub change-requires : goal.change-requires
unfolding listed
change-requires c =
    let dim = same_dim c.loop-r.full.dim c.args.seed c.args.dim c.loop-r.r (c.loop-r.invariant.0.dim) in
    omega arith

pub returns-in_err-change-clause-over : goal.returns-in_err-change-clause-over
unfolding factor listed
returns-in_err-change-clause-over c =
    let seed = c.args.seed in
    let r = c.loop-r.r in
    let dim = same_dim c.loop-r.full.dim seed c.args.dim r (c.loop-r.invariant.0.dim) in
    let drawn = c.draw.ensures.drawn seed (4 * c.args.dim + r) c.loop-r.invariant.2 in
    let t : c.whole-t.result ≡ (pos (c.draw.result % 3) -ℤ pos 1) /ℚ 1 = search rules in
    let is_factor : c.whole-t.result ≡ factor seed c.args.dim r = t ∙ ap (λ n. (pos (n % 3) -ℤ pos 1) /ℚ 1) drawn.0 in
    let p = err_from_is_err_and c.from_residual-in_err-change.result c.from_residual-in_err-change.ensures.1 in
    rw (p.1, p.2) (names_change seed c.args.dim r c.whole-t.result (listed c.loop-r.full) c.in_err-change.field-0.0 (omega arith) (omega arith) is_factor c.loop-r.invariant.0 c.loop-r.invariant.1 c.in_err-change.ensures.over)

pub loop-r-preserved : goal.loop-r-preserved
unfolding factor listed
loop-r-preserved c =
    let seed = c.args.seed in
    let r = c.loop-r.r in
    let dim = same_dim c.loop-r.full.dim seed c.args.dim r (c.loop-r.invariant.0.dim) in
    let drawn = c.draw.ensures.drawn seed (4 * c.args.dim + r) c.loop-r.invariant.2 in
    let t : c.whole-t.result ≡ (pos (c.draw.result % 3) -ℤ pos 1) /ℚ 1 = search rules in
    let is_factor : c.whole-t.result ≡ factor seed c.args.dim r = t ∙ ap (λ n. (pos (n % 3) -ℤ pos 1) /ℚ 1) drawn.0 in
    let room : r + 1 < (listed c.loop-r.full).dim = omega arith in
    let yes = was_obtained (is_obtained r (r + 1) c.whole-t.result (listed c.loop-r.full)) (r + 1) c.in_ok-change.ensures.over in (
      after_next seed c.args.dim r c.whole-t.result (listed c.loop-r.full) (listed c.change.new.self) room is_factor c.loop-r.invariant.0 c.in_ok-change.ensures.changed,
      refused_next seed c.args.dim r c.whole-t.result (listed c.loop-r.full) room is_factor c.loop-r.invariant.0 c.loop-r.invariant.1 ∙ ap (λ b. cond b None (Some (r + 1))) yes,
      drawn.1 ∙ ap (state seed) (native.Mathlib.Nat.add_assoc (4 * c.args.dim) r 1),
    )

pub returns-in_err-tensors-clause-over : goal.returns-in_err-tensors-clause-over
unfolding NamesStep
returns-in_err-tensors-clause-over c = let p = err_from_is_err_and c.from_residual-in_err-tensors.result c.from_residual-in_err-tensors.ensures.1 in rw (p.1, p.2) tt

pub returns-clause-tensors : goal.returns-clause-tensors
unfolding bulk bulk_refusal
returns-clause-tensors c =
    let seed = c.args.seed in
    let whole : c.loop-r.r ≡ c.args.dim - 1 = omega arith in
    let same : SameEntries (listed c.loop-r.full) (bulk seed c.args.dim) = subst (λ n. SameEntries (listed c.loop-r.full) (after seed c.args.dim n)) whole c.loop-r.invariant.0 in
    record {
      obtained = ap (first_refused seed c.args.dim) (sym whole) ∙ c.loop-r.invariant.1;
      entries = c.in_ok-tensors.ensures.entries (bulk seed c.args.dim) (bulk_symmetric seed c.args.dim) same;
      letter = c.in_ok-tensors.ensures.letter;
      sound = bulk_sound seed c.args.dim;
    }
