-- The first word that is refused.
use Rattle.std.proofs.Common.{◌≡◌, ℕ, inl, List, [], ◌∷◌, refl, ap, Option, Some, None}
use Rattle.std.specs.Prelude.{codes, Result, Ok, Err}
use Rattle.std.specs.Str.{bytes_eq}
use Rattle.airy_math.specs.Rational.{ℚ}
use Rattle.airy_math.specs.declared.Family.TheVariants.{Wk}
use Rattle.tensor_text.specs.Values.{read_value_of}
use Rattle.command_words.specs.Words.{Named, kind_of_word, long_number, short_number}
use Rattle.command_words.specs.Options.{Parted, Dashed, with_rest}
use Rattle.command_words.proofs.RefusalLemmas.{Stops, finds_first}
use Rattle.command_words.proofs.StopLemmas.{Good, IsPlain, place_good, end_good, good_along, err_of, items_good, Command, none, one, or_else, commands_stop}
use Rattle.more_words.specs.MoreWords.{Reading, Curve, CurveRelations, Brackets, Quick, Json, Verify, numbered, goes_on, ends, reads, reads_u, values, crew_number, read_curve, read_curve_relations, read_brackets, read_quick, read_json, read_verify, read_behind, reading_of}
use Rattle.more_words.specs.FirstRefused.{refused_of, refuses, RefusesFirst, FirstRefusedLaw}

-- ---- the places

more_place : {A : Type 0} (read : List ℕ → Option A) (f : A → Parted → Reading) (w : List ℕ) (x : A) → IsPlain w → read w ≡ Some x
    → ((x : A) → Good (λ s. refused_of (f x s))) → Good (λ s. refused_of (reads read f s))
more_place read f = place_good read (λ s. refused_of (reads read f s)) (λ x s. refused_of (f x s)) (record {
  lacks = λ p w s e. ap (λ o. refused_of (goes_on (λ x. f x.0 x.1) (with_rest o p s))) e;
  goes = λ p w s x e. ap (λ o. refused_of (goes_on (λ x. f x.0 x.1) (with_rest o p s))) e;
  ends = λ p k. refl;
  broken = λ p. refl;
})

more_number : (read : List ℕ → Option ℕ) → read (codes "1") ≡ Some 1 → (f : ℕ → Parted → Reading) → ((n : ℕ) → Good (λ s. refused_of (f n s)))
    → Good (λ s. refused_of (reads read f s))
more_number read is f = more_place read f (codes "1") 1 (λ may n. refl) is

end : (r : Reading) → refused_of r ≡ None → Good (λ s. refused_of (ends r s))
end r fine = end_good (λ s. refused_of (ends r s)) (record { word = λ p w s. refl; fine = λ p k. fine; broken = λ p. refl })

numbers : (f : List ℚ → Reading) → ((us : List ℚ) → refused_of (f us) ≡ None) → Good (λ s. refused_of (reads_u f s))
numbers f fine = good_along _ _ (items_good read_value_of 24) (λ s. by (values 24 s))
  where
    by : (r : Result (List ℚ) ℕ) → refused_of (goes_on f r) ≡ err_of r
    by (Ok us) = fine us
    by (Err p) = refl

-- ---- the commands

curve_good : Good (λ s. refused_of (read_curve s))
curve_good = more_number long_number refl _ λ X. more_number crew_number refl _ λ n. numbers (Curve X n) (λ us. refl)

curve_relations_good : Good (λ s. refused_of (read_curve_relations s))
curve_relations_good = more_number (short_number 1 32) refl _ λ N. numbers (CurveRelations N) (λ us. refl)

quick_good : Good (λ s. refused_of (read_quick s))
quick_good = more_number long_number refl _ λ X. more_number crew_number refl _ λ n. end (Quick X n) refl

json_good : Good (λ s. refused_of (read_json s))
json_good = more_place kind_of_word _ (codes "wk") (Named Wk) (λ may n. refl) refl λ kind. more_number long_number refl _ λ X. more_number crew_number refl _ λ n. end (Json kind X n) refl

leads : (R : Parted → Reading) → Good (λ s. refused_of (R s)) → Command (λ xs. refused_of (R (numbered 2 xs)))
leads R good = one _ (Dashed 0) good (λ xs. refl)

command : (w : List ℕ) → Command (λ xs. refuses (w ∷ xs))
unfolding reading_of read_behind
command w =
    or_else refused_of (bytes_eq w (codes "curve")) _ _ (leads read_curve curve_good)
    (or_else refused_of (bytes_eq w (codes "curve-relations")) _ _ (leads read_curve_relations curve_relations_good)
    (or_else refused_of (bytes_eq w (codes "brackets")) _ _ (leads read_brackets (end Brackets refl))
    (or_else refused_of (bytes_eq w (codes "quick")) _ _ (leads read_quick quick_good)
    (or_else refused_of (bytes_eq w (codes "json")) _ _ (leads read_json json_good)
    (or_else refused_of (bytes_eq w (codes "verify")) _ _ (leads read_verify (end Verify refl)) (none (λ xs. refl)))))))

stops : (ws : List (List ℕ)) (n : ℕ) → refuses ws ≡ Some n → Stops refuses 1 ws n
unfolding reading_of read_behind
stops = commands_stop refuses (codes "brackets" ∷ []) refl refl command

pub more_refuses_first : (r : Reading) (ws : List (List ℕ)) → r ≡ reading_of ws → RefusesFirst r ws
unfolding RefusesFirst
more_refuses_first r ws e = finds_first refuses refuses stops (λ ws. inl refl) (refused_of r) ws (ap refused_of e)

pub first_refused : FirstRefusedLaw
first_refused ws = more_refuses_first (reading_of ws) ws refl
