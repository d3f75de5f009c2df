use Rattle.std.proofs.Common.{◌≡◌, ℕ, List, get_or, sym, ap, subst, ◌∙◌, arith, rules, Some, set}
use Rattle.std.specs.Option.{is_some}
use Rattle.airy_math.specs.Rational.{ℚ}
use Rattle.airy_math.specs.RationalLaws.{0ℚ}
use Rattle.bulk_tensors.specs.Full.{Lists}
use Rattle.bulk_tensors.specs.Change.{gained, obtained_gained}
use Rattle.bulk_tensors.proofs.FullLemmas.{list_entry, list_gained}
use Rattle.bulk_tensors.proofs.full_tensors.FullTensors.d_changed.Goals as goal

pub returns-in_err-d-clause-obtained : goal.returns-in_err-d-clause-obtained
returns-in_err-d-clause-obtained c =
    let d : c.self.inside.d ≡ c.args.self.now.d = ap (λ (t : Lists). t.d) c.self.view_is in
    let dim : c.self.inside.dim ≡ c.args.self.now.dim = ap (λ (t : Lists). t.dim) c.self.view_is in
    let e = list_entry c.args.gain.now c.self.inside.d c.index-d-gain.result c.index-d-gain-2.result (omega arith) (omega arith) in
    let same : is_some c.from_residual.result ≡ is_some c.entry.result = search rules in
    same ∙ ap is_some (c.entry.ensures ∙ e) ∙ ap (λ (d : List ℚ). is_some (obtained_gained c.args.gain.now (λ i. get_or d i 0ℚ) c.args.gain.now.to)) d

pub returns-clause-obtained : goal.returns-clause-obtained
returns-clause-obtained c =
    let d : c.self.inside.d ≡ c.args.self.now.d = ap (λ (t : Lists). t.d) c.self.view_is in
    let dim : c.self.inside.dim ≡ c.args.self.now.dim = ap (λ (t : Lists). t.dim) c.self.view_is in
    let e = list_entry c.args.gain.now c.self.inside.d c.index-d-gain.result c.index-d-gain-2.result (omega arith) (omega arith) in
    let some : c.entry.result ≡ Some c.in_ok-d.field-0 = search rules in
    sym (ap is_some some) ∙ ap is_some (c.entry.ensures ∙ e) ∙ ap (λ (d : List ℚ). is_some (obtained_gained c.args.gain.now (λ i. get_or d i 0ℚ) c.args.gain.now.to)) d

pub returns-clause-changed : goal.returns-clause-changed
returns-clause-changed c =
    let d : c.self.inside.d ≡ c.args.self.now.d = ap (λ (t : Lists). t.d) c.self.view_is in
    let dim : c.self.inside.dim ≡ c.args.self.now.dim = ap (λ (t : Lists). t.dim) c.self.view_is in
    let e = list_entry c.args.gain.now c.self.inside.d c.index-d-gain.result c.index-d-gain-2.result (omega arith) (omega arith) in
    let some : c.entry.result ≡ Some c.in_ok-d.field-0 = search rules in
    subst (λ (d : List ℚ). (i : ℕ) → get_or (set c.self.inside.d c.args.gain.now.to c.in_ok-d.field-0) i 0ℚ ≡ gained c.args.gain.now (λ i. get_or d i 0ℚ) i) d
    (list_gained c.args.gain.now c.self.inside.d c.in_ok-d.field-0 (omega arith) (sym (c.entry.ensures ∙ e) ∙ some))
