-- A printed table has the headline.
use Rattle.std.proofs.Common.{◌≡◌, ℕ, ◌<◌, ◌≤◌, refl, ap, ◌∙◌, subst, length, List, [], get_or, cond}
use Rattle.run_reports.proofs.Names.{Key, ℚ, ◌*ℚ◌, letter_of, power, Series, Solves, Tensors, planned, PlanLaw, key_at, place_of, Structure, Lettered, IsSound, IsSolutionOf, letter_value, planned_tensors, tensors_at, outcomes, full_table, value_of, JobUniquenessLaw, JobCheckedLaw, Shown, series_with, row_text, has_letter, whole_table, Headline, IsLine, ShowsNumber, Wk, Bgw, Wp, Bulk, Text, length-outcomes}
use Rattle.airy_math.proofs.ExactLaw.{power-one}
use Rattle.amp_terms.specs.declared.Outcome.TheVariants.{Value, Over}
use Rattle.run_reports.proofs.LineLemmas.{lines_of, rows-lines, length-lines, line_at}

-- the laws that the headline rests on
pub record JobLaws : Type 0 where
  pub unique : JobUniquenessLaw
  pub checked : JobCheckedLaw
  pub planned : PlanLaw

-- the power of the letter is that of its value
letter_power : (s : Structure) (v : ℚ) (n : ℕ) → power (letter_value s v) n ≡ power (letter_value s v) (cond (has_letter s) n 0)
unfolding letter_value has_letter power
letter_power Wk v n = power-one n
letter_power Bgw v n = power-one n
letter_power Wp v n = refl
letter_power (Bulk T) v n = power-one n
letter_power (Text T) v n = power-one n
letter_power (Lettered T) v n = refl

-- the table up to X shows what every solution up to X has, at each dim from that of the tensors for Y on
abbrev pub TableShows : Structure → ℕ → ℕ → Type 0
TableShows s X Y = (m : ℕ) (v : ℚ) (f : Series) → (planned_tensors s Y).dim ≤ m → Solves (tensors_at s m v) X f
    → Shown X (letter_value s v) (planned_tensors s Y) (tensors_at s m v) (outcomes (planned_tensors s Y) X) f

-- what the table's Value at a key shows
pub shown_value : (s : Structure) (X Y : ℕ) → TableShows s X Y → (key : Key) (w : ℚ)
    → get_or (outcomes (planned_tensors s Y) X) (place_of key (planned (planned_tensors s Y) X)) Over ≡ Value w
    → ShowsNumber s X Y key w (cond (has_letter s) (letter_of (planned_tensors s Y).shape key) 0)
unfolding ShowsNumber
shown_value s X Y shows key w e =
    λ m v f wide so. (shows m v f wide so).values key w e ∙ ap (λ q. q *ℚ w) (letter_power s v (letter_of (planned_tensors s Y).shape key))

-- a table with a Value at each rank, whose series is a solution
module _ (unique : JobUniquenessLaw) (once : PlanLaw) (s : Structure) (X : ℕ) (sound : IsSound s) (some : 0 < X) where
  abbrev T : Tensors
  T = planned_tensors s X

  abbrev keys : List Key
  keys = planned T X

  abbrev lines : List (List ℕ)
  lines = lines_of (has_letter s) T.shape keys (outcomes T X)

  module _ (value_there : (r : ℕ) → r < length (planned (planned_tensors s X) X) → (w : ℚ) × (get_or (outcomes (planned_tensors s X) X) r Over ≡ Value w)) where
    line_there : (r : ℕ) → r < length keys → IsLine s X (key_at keys r) (get_or lines r [])
    unfolding row_text value_of
    line_there r h =
        let v = value_there r h in record {
          value = v.0;
          exponent = cond (has_letter s) (letter_of T.shape (key_at keys r)) 0;
          text = line_at (has_letter s) T.shape keys (outcomes T X) r h (length-outcomes T X) ∙ ap (λ o. row_text (has_letter s) T.shape (key_at keys r) (value_of o)) v.1;
          shown = shown_value s X X (λ m u f wide so. unique s X sound some m u f (record { wide = wide; solves = so })) (key_at keys r) v.0 (ap (λ n. get_or (outcomes T X) n Over) ((once T X).once r h) ∙ v.1);
        }

    long : length lines ≡ length keys
    long = length-lines (has_letter s) T.shape keys (outcomes T X) (length-outcomes T X)

    pub headline_by : ((m : ℕ) (v : ℚ) → (planned_tensors s X).dim ≤ m → IsSolutionOf s X m v (series_with (letter_value s v) (planned_tensors s X) X (outcomes (planned_tensors s X) X)))
        → Headline s X (whole_table s X)
    unfolding whole_table full_table
    headline_by solution = record {
      lines = lines;
      whole = long;
      bytes_are = rows-lines (has_letter s) T.shape keys (outcomes T X);
      printed = λ r h. line_there r (subst (λ n. r < n) long h);
      unique = unique s X sound some;
      solution = solution;
    }
