-- For private functions and for proofs: no public contract rests on this file.
-- What a part of a run ends with: a report that its words lead to, told or cut.
use Rattle.std.specs.Prelude.{◌⊎◌, ℕ}
use Rattle.airy_io.specs.Causes.{Giving, Taking}
use Rattle.sparse_tensor.specs.Entries.{Entries}
use Rattle.run_reports.specs.Report.{Report, Ends, out_of_memory}
use Rattle.run_reports.specs.Leads.{LeadsFromText, LeadsWithBound}

-- it ends with a report of this kind
abbrev pub EndsBy : (Report → Type 0) → Taking → Taking → ℕ → Type 0
EndsBy leads before now result = (report : Report) × leads report × Ends report before now result

-- or memory is wanting
abbrev pub EndsByOrWants : (Report → Type 0) → Taking → Taking → ℕ → Type 0
EndsByOrWants leads before now result = EndsBy leads before now result ⊎ Ends out_of_memory before now result

-- the same of a job with a text
abbrev pub EndsOfText : (Entries → Report → Type 0) → Giving → Giving → Taking → Taking → ℕ → Type 0
EndsOfText next old new before now result = EndsBy (LeadsFromText next old new) before now result

-- the same of a job with a bound and a text
abbrev pub EndsWithBound : ℕ → (Entries → Report → Type 0) → Giving → Giving → Taking → Taking → ℕ → Type 0
EndsWithBound X next old new before now result = EndsBy (LeadsWithBound X next old new) before now result
