use Rattle.std.proofs.Common.{sym, ap, ◌∙◌}
use Rattle.airy_json.proofs.Common.{Unmade, kind_seen}
use Rattle.named_families.specs.Families.{Names}
use Rattle.airy_json.proofs.PlanLemmas.{same_limit, same_keys, unmade, passes, plans}
use Rattle.airy_json.proofs.reading.make_plan.Goals as goal

pub returns-in-Err-Over-clause-cause : goal.returns-in-Err-Over-clause-cause
unfolding Names
returns-in-Err-Over-clause-cause c = λ ds.
    let named = rw c.in-Err-Over.field-0-is at c.in-Err-Over.ensures.over in
    unmade (kind_seen c.args.kind) c.args.bound ds c.requires.some c.requires.most c.in-Err-Over.k named ∙ sym (ap Unmade c.in-Err-Over.k-is)

pub returns-in-Ok-make-clause-answer : goal.returns-in-Ok-make-clause-answer
returns-in-Ok-make-clause-answer c = λ ds.
    let kind = kind_seen c.args.kind in
    let same = same_limit c.same_limits.ensures kind c.args.bound c.in-Ok.tensors c.in-Ok.ensures.tensors in
    let keys = same_keys c.below_dim.ensures kind c.args.bound c.in-Ok.tensors c.in-Ok.ensures.tensors in
    rw c.in-Ok-make.ensures.plan (plans kind c.args.bound ds c.requires.some c.requires.most c.in-Ok.tensors c.in-Ok.ensures.made same keys c.in-Ok-make.ensures.within)

pub returns : goal.returns
returns c = record {
  plan = tt;
  answer = tt;
  cause = λ ds.
      let kind = kind_seen c.args.kind in
      let same = same_limit c.same_limits.ensures kind c.args.bound c.in-Ok.tensors c.in-Ok.ensures.tensors in
      passes kind c.args.bound ds c.requires.some c.requires.most c.in-Ok.tensors c.in-Ok.ensures.made same c.in-Err.refusal.cause c.in-Err.ensures.cause c.in_default.not-NoMemory;
}
