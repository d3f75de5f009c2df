-- The first word that is refused.
use Rattle.std.proofs.Common.{◌≡◌, ℕ, List, [], ◌∷◌, refl, inl, ap, ◌∙◌, Option, Some, None, Result, Ok, Err, codes}
use Rattle.run_reports.proofs.Names.{Key}
use Rattle.airy_math.specs.declared.Family.TheVariants.{Wk}
use Rattle.command_words.specs.OptionExamples.{words_compute}
use Rattle.command_words.specs.Options.{Parted, Dashed, read_item, with_rest}
use Rattle.command_words.specs.Words.{Named, kind_of_word, long_number}
use Rattle.command_words.proofs.RefusalLemmas.{finds_first}
use Rattle.command_words.proofs.StopLemmas.{Good, IsPlain, err_of, err_with, good_along, items_good, place_good}
use Rattle.airy_wait.specs.Words.{Reading, Waiting, Refused, key_of_word, keys, all_keys, goes_on, reads, reads_keys, crew_number, caller_number, read_waiting, reading_of, refused_of, refuses, RefusesFirst, FirstRefusedLaw}

wait_place : {A : Type 0} (read : List ℕ → Option A) (f : A → Parted → Reading) (w : List ℕ) (x : A) → IsPlain w → read w ≡ Some x
    → ((x : A) → Good (λ s. refused_of (f x s))) → Good (λ s. refused_of (reads read f s))
wait_place read f = place_good read (λ s. refused_of (reads read f s)) (λ x s. refused_of (f x s)) (record {
  lacks = λ p w s e. ap (λ o. refused_of (goes_on (λ x. f x.0 x.1) (with_rest o p s))) e;
  goes = λ p w s x e. ap (λ o. refused_of (goes_on (λ x. f x.0 x.1) (with_rest o p s))) e;
  ends = λ p k. refl;
  broken = λ p. refl;
})

-- ---- keys

a_key : Key
a_key = record { g = 0; idx = 0 ∷ 0 ∷ 0 ∷ [] }

is_key : key_of_word (codes "0:0,0,0") ≡ Some a_key
unfolding words_compute key_of_word a_key
is_key = refl

one_or_more : Good (λ s. err_of (all_keys s))
one_or_more = place_good key_of_word (λ s. err_of (all_keys s)) (λ key s. err_of (keys 255 s)) (record {
  lacks = λ p w s e. ap (λ o. err_of (read_item o p (keys 255 s))) e;
  goes = λ p w s key e. ap (λ o. err_of (read_item o p (keys 255 s))) e ∙ err_with key (keys 255 s);
  ends = λ p k. refl;
  broken = λ p. refl;
}) (codes "0:0,0,0") a_key (λ may n. refl) is_key (λ key. items_good key_of_word 255)

keys_good : (f : List Key → Reading) → ((ks : List Key) → refused_of (f ks) ≡ None) → Good (λ s. refused_of (reads_keys f s))
keys_good f fine = good_along _ _ one_or_more (λ s. by (all_keys s))
  where
    by : (r : Result (List Key) ℕ) → refused_of (goes_on f r) ≡ err_of r
    by (Ok ks) = fine ks
    by (Err p) = refl

waiting_good : Good (λ s. refused_of (read_waiting s))
waiting_good =
    wait_place kind_of_word _ (codes "wk") (Named Wk) (λ may n. refl) refl λ kind.
    wait_place long_number _ (codes "1") 1 (λ may n. refl) refl λ X.
    wait_place crew_number _ (codes "1") 1 (λ may n. refl) refl λ n.
    wait_place caller_number _ (codes "1") 1 (λ may n. refl) refl λ c.
    keys_good (Waiting kind X n c) (λ ks. refl)

pub wait_refuses_first : (r : Reading) (ws : List (List ℕ)) → r ≡ reading_of ws → RefusesFirst r ws
unfolding reading_of RefusesFirst
wait_refuses_first r ws e = finds_first refuses refuses (λ ws n e. waiting_good.stopped ws (Dashed 0) 1 n e) (λ ws. inl refl) (refused_of r) ws (ap refused_of e)

pub first_refused : FirstRefusedLaw
first_refused ws = wait_refuses_first (reading_of ws) ws refl
