use Rattle.airy_json.proofs.JobVerifiedLaw as law
use Rattle.airy_json.proofs.verifying.verified_job.Goals as goal

pub returns : goal.returns
returns c = law.job_verified
