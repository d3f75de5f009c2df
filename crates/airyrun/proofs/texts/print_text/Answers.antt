use Rattle.airyrun.proofs.TextLemmas.{probe_ends}
use Rattle.airyrun.proofs.texts.print_text.Goals as goal

pub returns : goal.returns
returns g c =
    probe_ends c.args.tensors c.args.bound _ _ _
    (record { jobs = record { unique = c.job_uniqueness.ensures; checked = c.job_checked.ensures; planned = c.planned_once.ensures }; own = c.own_tensors.ensures })
    c.soundness_fact.ensures c.requires.bound c.print_stored.ensures
