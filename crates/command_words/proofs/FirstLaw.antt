-- The first word that is refused.
use Rattle.std.proofs.Common.{◌≡◌, ◌⊎◌, inl, inr, ℕ, ◌+◌, Bool, true, false, List, [], ◌∷◌, length, refl, ap, ◌∙◌, Option, Some, None}
use Rattle.std.specs.Prelude.{cond, codes, Result, Ok, Err}
use Rattle.std.specs.Str.{bytes_eq}
use Rattle.airy_math.specs.declared.Family.TheVariants.{Wk}
use Rattle.airy_math.specs.Keys.{key_of, ordered}
use Rattle.command_words.specs.declared.line.Line.{Line}
use Rattle.command_words.specs.Words.{Kind, Named, Reading, Table, Session, Probe, Relations, Number, Volume, Bulk, Refused, kind_of_word, family_of_word, long_number, short_number, is_stable, default_workers}
use Rattle.command_words.specs.Scripts.{byte_of_word}
use Rattle.command_words.specs.Options.{Parted, Options, parted, ends, goes_on, with_rest, reads, items, with_item, fault_of, script, script_by, read_table, read_probe, read_session, read_relations, read_number, read_volume, read_bulk, worded_of, reading_of}
use Rattle.command_words.specs.FirstRefused.{refused_of, breaks, refuses, RefusesFirst, FirstRefusedLaw}
use Rattle.command_words.proofs.RefusalLemmas.{Stops, Settles, finds_first}
use Rattle.command_words.proofs.StopLemmas.{Good, IsPlain, place_good, end_good, good_along, err_of, err_with, items_good, script_good, Command, none, one, or_else, commands_stop}

-- ---- the places

place : {A : Type 0} (read : List ℕ → Option A) (f : A → Parted → Reading) (w : List ℕ) (x : A) → IsPlain w → read w ≡ Some x
    → ((x : A) → Good (λ s. refused_of (f x s))) → Good (λ s. refused_of (reads read f s))
place read f = place_good read (λ s. refused_of (reads read f s)) (λ x s. refused_of (f x s)) (record {
  lacks = λ p w s e. ap (λ o. refused_of (goes_on (λ x. f x.0 x.1) (with_rest o p s))) e;
  goes = λ p w s x e. ap (λ o. refused_of (goes_on (λ x. f x.0 x.1) (with_rest o p s))) e;
  ends = λ p k. refl;
  broken = λ p. refl;
})

kind : (f : Kind → Parted → Reading) → ((x : Kind) → Good (λ s. refused_of (f x s))) → Good (λ s. refused_of (reads kind_of_word f s))
kind f = place kind_of_word f (codes "wk") (Named Wk) (λ may n. refl) refl

number : (read : List ℕ → Option ℕ) → read (codes "1") ≡ Some 1 → (f : ℕ → Parted → Reading) → ((n : ℕ) → Good (λ s. refused_of (f n s)))
    → Good (λ s. refused_of (reads read f s))
number read is f = place read f (codes "1") 1 (λ may n. refl) is

end : (f : ℕ → Reading) → ((n : ℕ) → refused_of (f n) ≡ None) → Good (λ s. refused_of (ends f s))
end f fine = end_good (λ s. refused_of (ends f s)) (record { word = λ p w s. refl; fine = λ p k. fine k; broken = λ p. refl })

indices : (d : ℕ) (f : List ℕ → Reading) → ((ds : List ℕ) → refused_of (f ds) ≡ None) → Good (λ s. refused_of (goes_on f (with_item d (items byte_of_word 25 s))))
indices d f fine = good_along _ _ (items_good byte_of_word 25) (λ s. by (with_item d (items byte_of_word 25 s)) ∙ err_with d (items byte_of_word 25 s))
  where
    by : (r : Result (List ℕ) ℕ) → refused_of (goes_on f r) ≡ err_of r
    by (Ok ds) = fine ds
    by (Err p) = refl

a_script : (k : Kind) (X : ℕ) → Good (λ s. refused_of (script X (Session k X) s))
a_script k X = good_along _ _ (script_good X) (λ s. by _ _ (fault_of false false X s))
  where
    by : (n : ℕ) (lines : List Line) (o : Option ℕ) → refused_of (script_by o (Session k X n lines)) ≡ o
    by n lines None = refl
    by n lines (Some p) = refl

-- ---- the commands

table_good : Good (λ s. refused_of (read_table s))
table_good = kind _ λ k. number long_number refl _ λ X. end (λ n. Table k X n) (λ n. refl)

probe_good : Good (λ s. refused_of (read_probe s))
probe_good = number long_number refl _ λ X. end (λ n. Probe X n) (λ n. refl)

session_good : Good (λ s. refused_of (read_session s))
session_good = kind _ λ k. number long_number refl _ λ X. a_script k X

relations_good : Good (λ s. refused_of (read_relations s))
relations_good = number (short_number 1 32) refl _ λ N. kind _ λ k. end (λ n. Relations N k) (λ n. refl)

number_good : Good (λ s. refused_of (read_number s))
number_good = place family_of_word _ (codes "wk") Wk (λ may n. refl) refl λ family. number byte_of_word refl _ λ g. number byte_of_word refl _ λ d.
    indices d (λ ds. Number family (key_of g (ordered ds))) (λ ds. refl)

volume_good : Good (λ s. refused_of (read_volume s))
volume_good = number byte_of_word refl _ λ g. number (short_number 1 26) refl _ λ n. end (λ k. Volume g n) (λ k. refl)

bulk_good : Good (λ s. refused_of (read_bulk s))
bulk_good = number long_number refl _ λ seed. number (short_number 1 8) refl _ λ dim. number long_number refl _ λ X. end (λ n. Bulk seed dim X n) (λ n. refl)

leads : (R : Parted → Reading) (lists : Bool) → Good (λ s. refused_of (R s)) → Command (λ xs. refused_of (R (parted (Options lists default_workers) 2 xs)))
leads R lists good = one _ (Options lists default_workers) good (λ xs. refl)

command : (w : List ℕ) → Command (λ xs. breaks (w ∷ xs))
unfolding worded_of
command w =
    or_else refused_of (bytes_eq w (codes "table")) _ _ (leads read_table true table_good)
    (or_else refused_of (bytes_eq w (codes "probe")) _ _ (leads read_probe true probe_good)
    (or_else refused_of (bytes_eq w (codes "session")) _ _ (leads read_session true session_good)
    (or_else refused_of (bytes_eq w (codes "relations")) _ _ (leads read_relations false relations_good)
    (or_else refused_of (bytes_eq w (codes "number")) _ _ (leads read_number false number_good)
    (or_else refused_of (bytes_eq w (codes "volume")) _ _ (leads read_volume false volume_good)
    (or_else refused_of (bytes_eq w (codes "bulk")) _ _ (leads read_bulk true bulk_good) (none (λ xs. refl))))))))

stops : (ws : List (List ℕ)) (n : ℕ) → breaks ws ≡ Some n → Stops breaks 1 ws n
unfolding worded_of
stops = commands_stop breaks (codes "probe" ∷ codes "1" ∷ []) refl refl command

-- ---- what isn't stable

-- words that ask for what isn't stable break no rule
worded : (r : Reading) → is_stable r ≡ false → refused_of r ≡ None
worded (Table k X n) is = refl
worded (Probe X n) is = refl
worded (Session k X n lines) is = refl
worded (Relations N k) is = refl
worded (Number family key) is = refl
worded (Volume g n) is = refl
worded (Bulk seed dim X n) is = refl
worded (Refused p) is = cc

settles : (ws : List (List ℕ)) → Settles breaks refuses ws
unfolding reading_of
settles ws = by (is_stable (worded_of ws)) refl
  where
    by : (b : Bool) → is_stable (worded_of ws) ≡ b
        → (refused_of (cond b (worded_of ws) (Refused (length ws + 1))) ≡ breaks ws) ⊎ ((breaks ws ≡ None) × (refused_of (cond b (worded_of ws) (Refused (length ws + 1))) ≡ Some (length ws + 1)))
    by true is = inl refl
    by false is = inr (worded (worded_of ws) is, refl)

pub refuses_first : (r : Reading) (ws : List (List ℕ)) → r ≡ reading_of ws → RefusesFirst r ws
unfolding RefusesFirst
refuses_first r ws e = finds_first breaks refuses stops settles (refused_of r) ws (ap refused_of e)

pub first_refused : FirstRefusedLaw
first_refused ws = refuses_first (reading_of ws) ws refl
