-- What is written of the five relations.
use Rattle.std.specs.Prelude.{◌≡◌, ℕ, min, List, ◌++◌, codes, take}
use Rattle.airy_index.specs.Text.{spaced}
use Rattle.frac128.specs.Fraction.{fraction_text}
use Rattle.airy_relations.specs.declared.verdict.Rel.{Rel}
use Rattle.airy_relations.specs.declared.verdict.Rel.TheVariants.{AA, BA, BB, BC, D}
use Rattle.airy_relations.specs.declared.verdict.Verdict.{Verdict}
use Rattle.airy_relations.specs.declared.verdict.Verdict.TheVariants.{Closed, Differs, Over}
use Rattle.airy_math.specs.Tensors.{Tensors}
use Rattle.airy_math.specs.Rational.{ℚ}
use Rattle.airy_math.specs.Relations.{Close}
use Rattle.airy_relations.specs.Verdicts.{verdict}
use Rattle.sparse_tensor.specs.Entries.{Entries, looked_up}
use Rattle.run_reports.specs.Report.{Report, refusal}

-- the name of a relation
unfoldable pub rel_text : Rel → List ℕ
rel_text AA = codes "AA"
rel_text BA = codes "BA"
rel_text BB = codes "BB"
rel_text BC = codes "BC"
rel_text D = codes "D"

-- how many free indices it has
unfoldable pub free_indices : Rel → ℕ
free_indices AA = 3
free_indices BA = 4
free_indices BB = 4
free_indices BC = 4
free_indices D = 2

-- a place: `REL at I J ..`
unfoldable pub place_text : Rel → List ℕ → List ℕ
place_text rel place = rel_text rel ++ codes " at " ++ spaced (take (free_indices rel) place)

-- the relations hold in all places asked
unfoldable pub closed : Report
closed = record { status = 0; bytes = codes "closed\n" }

-- a relation that fails, or what comes next where none does
unfoldable pub relations_report : Verdict → Report → Report
relations_report Closed next = next
relations_report (Differs rel place left right) next =
    record { status = 4; bytes = refusal (place_text rel place) (codes ": " ++ fraction_text left ++ codes " and " ++ fraction_text right) }
relations_report (Over rel place) next = record { status = 6; bytes = refusal (codes "over in ") (place_text rel place) }

-- ---- texts

-- the relations of a text's entries in all their places, and what comes next where they hold
unfoldable pub of_relations : Entries → Report → Report
of_relations t next = relations_report (verdict (looked_up t) t.dim) next

-- their relations in the places below N, or below dim where that is less
unfoldable pub text_relations : ℕ → Entries → Report
text_relations N t = relations_report (verdict (looked_up t) (min N t.dim)) closed

-- what a verdict on T in the places below N says of the relations there
pub record IsVerdict (T : Tensors) (N : ℕ) : Type 0 where
  pub holds : verdict T N ≡ Closed → Close T N
  pub fails : (rel : Rel) (place : List ℕ) (left right : ℚ) → verdict T N ≡ Differs rel place left right → Close T N → ⊥
