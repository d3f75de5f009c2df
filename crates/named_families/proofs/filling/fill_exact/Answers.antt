use Rattle.std.proofs.Common.{inl, ap, subst, ◌∙◌}
use Rattle.airy_math.specs.RationalLaws.{0ℚ}
use Rattle.sparse_tensor.specs.Entries.{Entries}
use Rattle.airy_curve.specs.Filling.{FitsD}
use Rattle.named_families.proofs.ExactLaw.{d_first, d_second, filled, fits_d, on_ok_both, one_of}
use Rattle.named_families.proofs.filling.fill_exact.Goals as goal

pub fill_d-requires-clause-first : goal.fill_d-requires-clause-first
fill_d-requires-clause-first c = subst (λ n. FitsD c.fill_places.new.tensors.shape n c.eighth.result) c.if-shift-eq0.true (fits_d c.args.shift c.fill_places.new.tensors.shape c.eighth.result (ap (λ (u : Entries). u.shape) c.in_ok-fill_places.ensures.others ∙ c.requires.shape))

pub fill_d-requires-clause-second : goal.fill_d-requires-clause-second
unfolding FitsD 0ℚ
fill_d-requires-clause-second c = inl c.whole.ensures

pub fill_d-requires-else-shift-eq0-clause-first : goal.fill_d-requires-else-shift-eq0-clause-first
unfolding FitsD 0ℚ
fill_d-requires-else-shift-eq0-clause-first c = inl c.whole-else-shift-eq0.ensures

pub fill_d-requires-else-shift-eq0-clause-second : goal.fill_d-requires-else-shift-eq0-clause-second
fill_d-requires-else-shift-eq0-clause-second c = subst (λ n. FitsD c.fill_places.new.tensors.shape n c.eighth-else-shift-eq0.result) (one_of c.args.shift c.requires.shift c.if-shift-eq0.false) (fits_d c.args.shift c.fill_places.new.tensors.shape c.eighth-else-shift-eq0.result (ap (λ (u : Entries). u.shape) c.in_ok-fill_places.ensures.others ∙ c.requires.shape))

pub returns-then-shift-eq0 : goal.returns-then-shift-eq0
unfolding 0ℚ
returns-then-shift-eq0 c =
    on_ok_both c.fill_d.result (λ d others. filled c.args.shift c.eighth.result c.whole.result c.args.tensors.now c.fill_places.new.tensors c.fill_d.new.tensors c.requires.shift c.in_ok-fill_places.ensures others d
    (d_first c.args.shift c.eighth.result c.whole.result c.if-shift-eq0.true c.eighth.ensures c.whole.ensures)) c.fill_d.ensures.filled c.fill_d.ensures.others

pub returns-else-shift-eq0 : goal.returns-else-shift-eq0
unfolding 0ℚ
returns-else-shift-eq0 c =
    on_ok_both c.fill_d-else-shift-eq0.result (λ d others. filled c.args.shift c.whole-else-shift-eq0.result c.eighth-else-shift-eq0.result c.args.tensors.now c.fill_places.new.tensors c.fill_d-else-shift-eq0.new.tensors c.requires.shift c.in_ok-fill_places.ensures others d
    (d_second c.args.shift c.whole-else-shift-eq0.result c.eighth-else-shift-eq0.result (one_of c.args.shift c.requires.shift c.if-shift-eq0.false) c.whole-else-shift-eq0.ensures c.eighth-else-shift-eq0.ensures)) c.fill_d-else-shift-eq0.ensures.filled c.fill_d-else-shift-eq0.ensures.others
