-- What a structure constant is, and what a verdict on all places says of the operators.
use Prim.Native.Nat.{ℕ, ◌<◌}
use mathlib.Core.Path.{◌≡◌, refl, sym, ap, ◌∙◌}
use Rattle.std.specs.Prelude.{Option, Some, None, IfSome}
use Rattle.airy_math.specs.Rational.{ℚ, ◌+ℚ◌, neg_ℚ}
use Rattle.airy_math.specs.RationalLaws.{+ℚ_comm}
use Rattle.airy_math.specs.Tensors.{Tensors, IsSymmetric}
use Rattle.airy_math.specs.Relations.{Close}
use Rattle.airy_math.proofs.ObtainedLaw.{sum_exact}
use Rattle.airy_relations.specs.declared.verdict.Verdict.{Verdict}
use Rattle.airy_relations.specs.declared.verdict.Verdict.TheVariants.{Closed, Differs, Over}
use Rattle.airy_relations.specs.Numbers.{TellsFailure}
use Rattle.airy_closing.specs.Closing.{ClosingLaw, BracketLaw, structure_constant}
use Rattle.airy_closing.specs.Constants.{obtained_constant, IsConstant, TellsClosing}
use Rattle.airy_closing.proofs.BracketSum.{neg_add}
use Rattle.airy_closing.proofs.ClosingLaw.{neg_neg}

turned : (x y : ℚ) → y +ℚ neg_ℚ x ≡ neg_ℚ (x +ℚ neg_ℚ y)
turned x y = +ℚ_comm y (neg_ℚ x) ∙ sym (neg_add x (neg_ℚ y) ∙ ap (λ t. neg_ℚ x +ℚ t) (neg_neg y))

-- What is obtained is the structure constant.
pub obtained_is : BracketLaw → (T : Tensors) → IsSymmetric T → (i j a : ℕ) → i < T.dim → j < T.dim → a < T.dim
    → (r : Option ℚ) → r ≡ obtained_constant T i j a → IfSome r (λ f. IsConstant T i j a f)
unfolding obtained_constant
obtained_is law T sy i j a hi hj ha None e = tt
obtained_is law T sy i j a hi hj ha (Some x) e =
    let is : x ≡ structure_constant T i j a = sum_exact _ _ x (sym e) in
    record { value = is; only = λ f b. law T sy i j f hi hj b a ha ∙ sym is; turned = turned (T.B i j a) (T.B j i a) ∙ ap neg_ℚ (sym is) }

-- A verdict that holds of the relations holds of the operators.
pub operators_of : ClosingLaw → (T : Tensors) → IsSymmetric T → (v : Verdict) → (v ≡ Closed → Close T T.dim) → TellsFailure T T.dim v
    → TellsClosing T v
unfolding TellsClosing TellsFailure
operators_of law T sy Closed closed fails = (law T sy).1 (closed refl)
operators_of law T sy (Differs rel place left right) closed fails = λ o. fails.not_closed ((law T sy).0 o)
operators_of law T sy (Over rel place) closed fails = tt
