-- Keys and pairs that are stable.
use Rattle.std.proofs.Common.{◌≡◌, ℕ, ◌<◌, true, false, List, length, refl, ap, ◌∙◌, sym, rules}
use Rattle.std.specs.Prelude.{nat_le, Result, Ok, Err, IfOk}
use Rattle.airy_math.specs.Keys.{euler, ordered}
use Rattle.airy_math.proofs.CutLaw.{length-ordered}
use Rattle.command_words.specs.declared.asked.Asked.{Asked}
use Rattle.command_words.specs.declared.asked.Asked.TheVariants as asked
use Rattle.command_words.specs.Words.{Reading, settled, is_stable}
use Rattle.command_words.specs.Asked.{reading, reading_by, IsFit}

stable_test : (e : ℕ) → 0 < e → nat_le 1 e ≡ true
stable_test e h = search rules

pub unstable_key : (g : ℕ) (idx : List ℕ) → euler g (length idx) ≡ 0 → nat_le 1 (euler g (length (ordered idx))) ≡ false
unstable_key g idx e = ap (λ n. nat_le 1 (euler g n)) (length-ordered idx) ∙ ap (nat_le 1) e

fit_stable : (a : Asked) → IsFit a → is_stable (reading a) ≡ true
fit_stable (asked.Table k bound workers) fit = refl
fit_stable (asked.Session k bound workers script) fit = refl
fit_stable (asked.Probe bound workers) fit = refl
fit_stable (asked.Relations places k) fit = refl
fit_stable (asked.Number family key) fit = stable_test _ fit.0.stable
fit_stable (asked.Volume genus places) fit = stable_test _ fit.0
fit_stable (asked.Bulk seed dim bound workers) fit = refl
fit_stable (asked.Refused before) fit = refl

-- what is asked for is stable
pub settles : (r : Result Asked ℕ) (place : ℕ) (s : Reading) → IfOk r IsFit → reading_by r ≡ s → reading_by r ≡ settled place s
settles (Ok a) place s fit e = let is : is_stable s ≡ true = sym (ap is_stable e) ∙ fit_stable a fit in rw (is, e) refl
settles (Err before) place s fit e = let is : is_stable s ≡ true = sym (ap is_stable e) in rw (is, e) refl
