-- What is printed of an intersection number and of a volume, and what it is of every solution.
use Rattle.std.specs.Prelude.{◌≡◌, ◌⊎◌, ℕ, zero, suc, ◌+◌, ◌*◌, ◌-◌, IsTrue, Bool, true, ◌&&◌, cond}
use Rattle.std.specs.Prelude.{nat_le, List, [], ◌∷◌, ◌++◌, map, codes, decimal, length, Option, Some, None}
use Rattle.airy_math.specs.Rational.{ℚ}
use Rattle.airy_math.specs.RationalLaws.{0ℚ}
use Rattle.airy_math.specs.Keys.{Key, euler, key_of, IsSortedFrom}
use Rattle.airy_math.specs.Sums.{keep}
use Rattle.airy_math.specs.Shapes.{covers}
use Rattle.airy_math.specs.Planned.{planned}
use Rattle.airy_math.specs.Ranks.{key_at}
use Rattle.airy_math.specs.Series.{Series}
use Rattle.airy_math.specs.Tensors.{Tensors}
use Rattle.airy_math.specs.Jobs.{Structure, Wk, Bgw, Wp, Bulk, Text, Lettered, IsSolutionOf, planned_tensors, tensors_at}
use Rattle.airy_index.specs.Text.{key_text}
use Rattle.amp_plan.specs.Limits.{limit}
use Rattle.amp_plan.specs.Places.{are_below}
use Rattle.amp_terms.specs.declared.Outcome.{Outcome}
use Rattle.amp_terms.specs.Outcomes.{outcomes, value_in}
use Rattle.amp_terms.specs.Tables.{full_table, first_without}
use Rattle.amp_terms.specs.Text.{value_text}
use Rattle.frac128.specs.Fraction.{fraction_text}
use Rattle.intersection_law.specs.Numbers.{intersection_number, volume_coefficient}
use Rattle.intersection_law.specs.Equations.{MeetsWitten, MeetsNorbury}
use Rattle.correlators.specs.Volumes.{Part, counted, first_lacking, is_of, table_coefficient, table_terms}
use Rattle.correlators.specs.Divisions.{over_odd_factorials}
use Rattle.correlators.specs.Laws.{coefficient_in}
use Rattle.correlators.specs.declared.refusals.CorrErr.{CorrErr}
use Rattle.correlators.specs.declared.refusals.CorrErr.TheVariants as refused
use Rattle.run_reports.specs.Report.{Report, refusal, bound_refused, out_of_memory}
use Rattle.run_reports.specs.Tables.{making_report, plan_report, over_at}
use Rattle.run_reports.specs.StructureTables.{is_bound, making_over}

-- ---- the table that a number is read off

-- the first key in plan order without a Value, or what comes next where there is none
unfoldable pub first_report : List Key → Option ℕ → Report → Report
first_report keys None next = next
first_report keys (Some r) next = over_at (key_text (key_at keys r))

-- what comes next where the table of a structure up to X is made and each key has a Value; else the line of the first step that refuses
unfoldable pub valued_report : Structure → ℕ → Report → Report
valued_report s X next =
    let T = planned_tensors s X in
    cond (is_bound X)
    (making_report (making_over s X) (plan_report X (limit T X) (first_report (planned T X) (first_without (full_table T X)) next)))
    (bound_refused X)

-- ---- numbers

-- the Value of the key over the product of the (2d + 1)!!, where each step is obtained; 0 where the shape does not cover the key
unfoldable pub quotient : Tensors → ℕ → Key → Option ℚ
quotient T X key = cond (covers T.shape key) (over_odd_factorials key.idx (value_in (planned T X) (outcomes T X) key)) (Some 0ℚ)

unfoldable pub quotient_report : Key → Option ℚ → Report
quotient_report key (Some w) = record { status = 0; bytes = fraction_text w ++ codes "\n" }
quotient_report key None = record { status = 6; bytes = refusal (codes "over in number at ") (key_text key) }

abbrev pub euler_of : Key → ℕ
euler_of key = euler key.g (length key.idx)

-- what `number` writes and answers, where memory isn't wanting
unfoldable pub number_report : Structure → Key → Report
number_report s key = let X = euler_of key in valued_report s X (quotient_report key (quotient (planned_tensors s X) X key))

-- the equations that every solution of a named structure meets: string, dilaton and genus 0 for wk, and the dilaton equation of bgw
unfoldable pub MeetsEquations : Structure → ℕ → ℕ → Series → Type 0
MeetsEquations Wk X m f = MeetsWitten X (m - 1) f
MeetsEquations Bgw X m f = MeetsNorbury X (m - 1) f
MeetsEquations Wp X m f = Unit
MeetsEquations (Bulk T) X m f = Unit
MeetsEquations (Text T) X m f = Unit
MeetsEquations (Lettered T) X m f = Unit

-- The printed number is the intersection number of every solution f up to the key's Euler number, of the tensors of every dim m from the
-- table's on that has the key's indices; and f meets the structure's equations.
pub record IsNumber (s : Structure) (key : Key) (bytes : List ℕ) : Type 0 where
  pub number : ℚ
  pub text : bytes ≡ fraction_text number ++ codes "\n"
  pub unique : (m : ℕ) (v : ℚ) (f : Series) → IsSolutionOf s (euler_of key) m v f → IsSortedFrom 0 (tensors_at s m v).dim key.idx
      → intersection_number (tensors_at s m v).dim f key ≡ number
  pub meets : (m : ℕ) (v : ℚ) (f : Series) → IsSolutionOf s (euler_of key) m v f → MeetsEquations s (euler_of key) m f

-- what the division of a key's Value leads to
pub record IsQuotient (s : Structure) (key : Key) (report : Report) : Type 0 where
  pub said : report ≡ quotient_report key (quotient (planned_tensors s (euler_of key)) (euler_of key) key)
  pub shown : report.status ≡ 0 → IsNumber s key report.bytes

-- What `number` leads to: its report, or, at a bound within its limits, want of memory.
pub record LeadsToNumber (s : Structure) (key : Key) (report : Report) : Type 0 where
  pub said : (report ≡ number_report s key) ⊎ (IsTrue (is_bound (euler_of key)) × (report ≡ out_of_memory))
  pub shown : report.status ≡ 0 → IsNumber s key report.bytes

-- ---- volumes

-- ` Lk^m`, where the power m is not 0
unfoldable pub length_text : ℕ → ℕ → List ℕ
length_text k zero = []
length_text k (suc m) = codes " L" ++ decimal k ++ codes "^" ++ decimal (suc m)

-- of each power, counted from k
unfoldable pub lengths_text : ℕ → List ℕ → List ℕ
lengths_text k [] = []
lengths_text k (m ∷ ms) = length_text k m ++ lengths_text (k + 1) ms

unfoldable pub part_text : Part → List ℕ
part_text part = value_text part.coef part.letter ++ lengths_text 1 part.powers

-- what stands behind a term: ` + ` before another, and else the end of the line
unfoldable pub joint : List Part → List ℕ
joint [] = codes "\n"
joint (part ∷ parts) = codes " + "

unfoldable pub parts_text : List Part → List ℕ
parts_text [] = []
parts_text (part ∷ parts) = (part_text part ++ joint parts) ++ parts_text parts

-- the terms joined by ` + `, or `0` where there is none
unfoldable pub volume_text : List Part → List ℕ
volume_text [] = codes "0\n"
volume_text (part ∷ parts) = parts_text (part ∷ parts)

abbrev pub terms_refused : ℕ → Report
terms_refused n = record { status = 5; bytes = refusal (codes "terms ") (decimal n) }

-- the terms, or the first key at which a step of the division leaves the range
unfoldable pub parts_report : List Part → Option Key → Report
parts_report parts None = record { status = 0; bytes = volume_text parts }
parts_report parts (Some key) = record { status = 6; bytes = refusal (codes "over in volume at ") (key_text key) }

-- the first key of the pair (g,n) that has no coefficient
unfoldable pub table_lacks : List Key → List (Option Outcome) → ℕ → ℕ → Option Key
table_lacks keys cells g n = first_lacking (table_coefficient keys cells) (keep (is_of g n) keys)

-- the terms of the volume of (g,n), and the first key at which a step of the division leaves the range
abbrev pub volume_parts : ℕ → ℕ → List Part
volume_parts g n = let T = planned_tensors Wp (euler g n) in table_terms true T.shape (planned T (euler g n)) (full_table T (euler g n)) g n

abbrev pub volume_lacks : ℕ → ℕ → Option Key
volume_lacks g n = let T = planned_tensors Wp (euler g n) in table_lacks (planned T (euler g n)) (full_table T (euler g n)) g n

-- what `volume` writes and answers, where memory isn't wanting: the bound is tested before the number of terms, and that before the table
unfoldable pub volume_report : ℕ → ℕ → Report
volume_report g n =
    cond (is_bound (euler g n))
    (cond (nat_le (counted g n) 100000) (valued_report Wp (euler g n) (parts_report (volume_parts g n) (volume_lacks g n)))
    (terms_refused (counted g n)))
    (bound_refused (euler g n))

-- The printed polynomial is the volume of every solution f up to 2g - 2 + n, at every dim m from the table's on and with every fraction v
-- in the place of the letter: at each list of n indices its coefficient is that of the term with these powers, and 0 where there is none.
pub record IsVolume (g n : ℕ) (bytes : List ℕ) : Type 0 where
  pub parts : List Part
  pub text : bytes ≡ volume_text parts
  pub unique : (m : ℕ) (v : ℚ) (f : Series) → IsSolutionOf Wp (euler g n) m v f → (ds : List ℕ) → length ds ≡ n
      → are_below (tensors_at Wp m v).dim ds ≡ true
      → volume_coefficient (tensors_at Wp m v).dim f (key_of g ds) ≡ coefficient_in v (map (λ d. 2 * d) ds) parts

-- what the divisions of a pair's Values lead to
pub record IsQuotients (g n : ℕ) (report : Report) : Type 0 where
  pub said : report ≡ parts_report (volume_parts g n) (volume_lacks g n)
  pub shown : report.status ≡ 0 → IsVolume g n report.bytes

-- a refusal of a volume whose table is made: the first key at which a step of the division leaves the range, or want of memory
unfoldable pub IsDivision : ℕ → ℕ → CorrErr → Type 0
IsDivision g n (refused.Over key) = volume_lacks g n ≡ Some key
IsDivision g n refused.NoMemory = Unit
IsDivision g n refused.Kind = ⊥
IsDivision g n refused.Beyond = ⊥
IsDivision g n (refused.Terms count) = ⊥
IsDivision g n refused.Index = ⊥
IsDivision g n (refused.NotValue key) = ⊥

-- whether a volume is within its limits: the bound, and the number of terms
unfoldable pub takes_volume : ℕ → ℕ → Bool
takes_volume g n = is_bound (euler g n) && nat_le (counted g n) 100000

-- What `volume` leads to. No memory is taken where the bound or the number of terms is refused.
pub record LeadsToVolume (g n : ℕ) (report : Report) : Type 0 where
  pub said : (report ≡ volume_report g n) ⊎ (IsTrue (takes_volume g n) × (report ≡ out_of_memory))
  pub shown : report.status ≡ 0 → IsVolume g n report.bytes
