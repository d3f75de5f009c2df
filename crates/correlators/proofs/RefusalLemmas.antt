-- What the plan and the pair alone refuse.
use Rattle.std.proofs.Common.{◌≡◌, ℕ, ◌≤◌, Bool, true, false, List, Option, Some, None, Ok, Err, refl, sym, inl, inr, leb, ◌&&◌}
use Rattle.correlators.proofs.Words.{and_parts, Key, Planning, Within, PassesBound, limit_of, limit-bound, CorrErr, NotValue, NoMemory, Outcome, Poly, keys_of_pair, coefficient_of, first_lacking, asked_refusal, table_refusal, first_of, refusal, volume_terms, parts_of, IsVolume, TellsOver}
use Rattle.std.proofs.lemmas.Bool.{leb-true}
use Rattle.correlators.specs.Volumes.{value_of}

-- the bound of a plan is at most 24
pub bound_small : (p : Planning) → limit_of p ≡ Within → p.bound ≤ 24
bound_small p e = by (leb 1 p.bound && leb p.bound 24) refl
  where
    passes : limit_of p ≡ PassesBound → ⊥
    passes h = cc

    by : (t : Bool) → (leb 1 p.bound && leb p.bound 24) ≡ t → p.bound ≤ 24
    by true h = leb-true p.bound 24 (and_parts (leb 1 p.bound) (leb p.bound 24) h).1
    by false h = absurd (passes (limit-bound p h))

module _ (p : Planning) (cells : List (Option Outcome)) (g n : ℕ) where
  pub asked_answer : (e : CorrErr) → Some e ≡ asked_refusal p g n → IsVolume p cells g n (Err e)
  unfolding IsVolume refusal first_of
  asked_answer e h = inl (let a = sym h in rw a refl)

  module _ (none : None ≡ asked_refusal p g n) where
    asked : asked_refusal p g n ≡ None
    asked = sym none

    pub value_answer : (key : Key) → Some key ≡ first_lacking (value_of p cells) (keys_of_pair p g n) → IsVolume p cells g n (Err (NotValue key))
    unfolding IsVolume refusal table_refusal first_of
    value_answer key h = inl (let v = sym h in rw (asked, v) refl)

    pub memory_answer : IsVolume p cells g n (Err NoMemory)
    unfolding IsVolume
    memory_answer = inr (refl, asked)

    module _ (valued : None ≡ first_lacking (value_of p cells) (keys_of_pair p g n)) where
      pub over_answer : (e : CorrErr) → TellsOver p cells g n e → IsVolume p cells g n (Err e)
      unfolding IsVolume TellsOver refusal table_refusal first_of
      over_answer e (inl h) = inl (let v = sym valued in rw (asked, v) h)
      over_answer e (inr h) = inr (h, asked)

      pub terms_answer : (poly : Poly) → first_lacking (coefficient_of p cells) (keys_of_pair p g n) ≡ None → parts_of poly.terms.items ≡ volume_terms p cells g n → IsVolume p cells g n (Ok poly)
      unfolding IsVolume refusal table_refusal first_of
      terms_answer poly h e = (let v = sym valued in rw (asked, v, h) refl, e)
