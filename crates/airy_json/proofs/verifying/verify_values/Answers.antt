use Rattle.std.proofs.Common.{sym, subst}
use Rattle.airy_json.proofs.Common.{Planning, tensors_of, keys_of, Says}
use Rattle.sparse_tensor.specs.Grades.{AreSound}
use Rattle.airy_json.proofs.verifying.verify_values.Goals as goal

pub returns : goal.returns
unfolding keys_of tensors_of
returns c =
    let p : Planning = c.args.plan.now in
    let sound : AreSound p.tensors = subst AreSound c.tensors.ensures c.soundness_fact.ensures in
    record {
      is = c.first_failure.ensures;
      says = subst (Says (tensors_of p) p.bound c.args.values.now) (sym c.first_failure.ensures) (c.verified_values.ensures (tensors_of p) p.bound c.args.values.now sound.symmetric sound.graded c.requires);
    }
