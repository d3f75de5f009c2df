-- What is written of the relations of the named structures.
use Rattle.std.specs.Prelude.{ℕ, ◌+◌, ◌*◌, Option, None}
use Rattle.airy_math.specs.declared.Family.{Family}
use Rattle.airy_math.specs.declared.Family.TheVariants.{Wk, Bgw, Wp}
use Rattle.airy_math.specs.Tensors.{Tensors}
use Rattle.airy_math.specs.Named.{wk, bgw}
use Rattle.airy_math.specs.Families.{wp_cut}
use Rattle.airy_relations.specs.Verdicts.{verdict}
use Rattle.named_families.specs.Steps.{wp_refusal}
use Rattle.run_reports.specs.Report.{Report}
use Rattle.run_reports.specs.Tables.{making_report}
use Rattle.run_reports.specs.Relations.{closed, relations_report}

-- ---- the named structures

-- the tensors in which the relations of a family are checked in the places below N: with all indices up to 2N, and for wp all exponents
-- up to 2N + 1
unfoldable pub family_tensors : Family → ℕ → Tensors
family_tensors Wk N = wk (2 * N)
family_tensors Bgw N = bgw (2 * N)
family_tensors Wp N = wp_cut (2 * N + 1) (2 * N + 1)

-- the number of Weil and Petersson at whose making a step leaves the range
unfoldable pub family_over : Family → ℕ → Option ℕ
family_over Wk N = None
family_over Bgw N = None
family_over Wp N = wp_refusal (2 * N + 1) (2 * N + 1)

-- what the check of a family's relations in the places below N says
unfoldable pub family_relations : Family → ℕ → Report
family_relations f N = making_report (family_over f N) (relations_report (verdict (family_tensors f N) N) closed)
