use Rattle.std.proofs.Common.{◌∙◌, ap, sym, subst, length, List, Option}
use Rattle.run_reports.proofs.Names.{euler, Outcome}
use Rattle.correlators.specs.Laws.{VolumeOfSolutions}
use Rattle.correlators.specs.Volumes.{IsVolume, parts_of}
use Rattle.run_reports.proofs.ReportLemmas.{full-length}
use Rattle.airyrun.proofs.NumberLemmas.{TableLaws, holds_full}
use Rattle.airyrun.proofs.VolumeLemmas.{division_refusal, has_law, quotients_found}
use Rattle.airyrun.proofs.volumes.print_volume.Goals as goal

pub volume-requires-clause-len : goal.volume-requires-clause-len
volume-requires-clause-len g c = ap (λ (t : List (Option Outcome)). length t) c.requires.valued.table ∙ full-length c.args.plan.now

pub volume-requires-clause-law : goal.volume-requires-clause-law
volume-requires-clause-law g c = λ letter. has_law (euler c.args.genus c.args.places) c.args.plan.now c.args.table.now c.requires.valued

pub refuse_division-requires : goal.refuse_division-requires
refuse_division-requires g c =
    let laws : TableLaws = record { plan = c.planned_once.ensures; below = c.below_dim.ensures; tables = c.same_tables.ensures; unique = c.job_uniqueness.ensures } in
    division_refusal laws c.args.genus c.args.places c.args.plan.now c.args.table.now c.requires.stable c.requires.some c.requires.takes c.requires.valued c.in-Err.refusal
    (subst (IsVolume c.args.plan.now c.args.table.now c.args.genus c.args.places) c.in-Err.is c.volume.ensures.answer)

pub returns-in-Ok : goal.returns-in-Ok
unfolding IsVolume
returns-in-Ok g c =
    let laws : TableLaws = record { plan = c.planned_once.ensures; below = c.below_dim.ensures; tables = c.same_tables.ensures; unique = c.job_uniqueness.ensures } in
    let same = ap parts_of c.deref.ensures.value in
    quotients_found laws c.args.genus c.args.places c.args.plan.now c.args.table.now c.requires.stable c.requires.some c.requires.takes c.requires.valued (parts_of c.deref.result.now)
    c.in-Ok.ensures.answer.0 (same ∙ c.in-Ok.ensures.answer.1)
    (subst (VolumeOfSolutions c.args.plan.now c.args.genus c.args.places) (sym same) (c.in-Ok.ensures.unique (holds_full c.args.plan.now c.args.table.now c.requires.valued.table))) _ _ _ c.say_volume.ensures
