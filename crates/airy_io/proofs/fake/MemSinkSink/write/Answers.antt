use Rattle.std.proofs.Common.{arith, refl, inl, inr, ◌≡◌}
use Rattle.std.specs.Prelude.{◌⊎◌, Contains, vec_len}
use Rattle.std.proofs.lemmas.Grind.{common_steps}
use Rattle.airy_io.proofs.fake.MemSinkSink.write.Goals as goal
use Rattle.airy_io.proofs.fake.MemSinkSink.write.Goals.{then-count-eq0-via-then-count-eq0, then-count-eq0-via-else-count-eq0+then-contains}

pub returns-then-count-eq0-clause-fails : goal.returns-then-count-eq0-clause-fails
returns-then-count-eq0-clause-fails c =
    let why : (c.args.self.now.taken ≡ vec_len c.args.self.now.space) ⊎ Contains c.args.self.now.fail_at.items c.args.self.now.calls = elim c.then-count-eq0.branch [
      | then-count-eq0-via-then-count-eq0 w ↦ inl (omega (arith, w.if-count-eq0))
      | then-count-eq0-via-else-count-eq0+then-contains w ↦ inr (grind (arith, common_steps))
    ] in
    (λ _. why, λ _. refl)
