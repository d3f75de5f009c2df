-- Words that are keys, one after another.
use Rattle.std.proofs.Common.{◌≡◌, ℕ, zero, suc, ◌+◌, ◌-◌, ◌<◌, ◌≤◌, List, [], ◌∷◌, map, length, refl, sym, ap, ap₂, ◌∙◌, subst, arith, Option, Some, None, Result, Ok, Err, OnOk, slice_get, option_map, is_none, true, false}
use Rattle.run_reports.proofs.Names.{Key}
use Rattle.std.specs.List.{cons_option}
use Rattle.std.proofs.lemmas.List.{length-map}
use Rattle.std.proofs.lemmas.Option.{slice_get-map}
use Rattle.command_words.specs.Options.{with_item, read_item}
use Rattle.more_words.specs.MoreWords.{numbered}
use Rattle.more_words.specs.Asked.{whole}
use Rattle.airy_wait.specs.Words.{key_of_word, keys}
use Rattle.airy_wait.specs.Asked.{keys_of, AreKeys}

-- ---- keys

pub some_key : (o : Option Key) → is_none o ≡ false → (key : Key) × (o ≡ Some key)
some_key None e = absurd cc
some_key (Some key) e = (key, refl)

keys_more : (w : List ℕ) (vs : List (List ℕ)) (key : Key) → key_of_word w ≡ Some key → keys_of (w ∷ vs) ≡ key ∷ keys_of vs
keys_more w vs key e = ap (λ o. cons_option o (keys_of vs)) e

pub are_more : (w : List ℕ) (vs : List (List ℕ)) (key : Key) → key_of_word w ≡ Some key → AreKeys vs → AreKeys (w ∷ vs)
are_more w vs key e h = ap₂ (λ a b. a ∷ b) e h ∙ sym (ap (map Some) (keys_more w vs key e))

with_more : (w : List ℕ) (vs : List (List ℕ)) (key : Key) (r : Result (Unit {0}) ℕ) → key_of_word w ≡ Some key
    → whole (λ u. keys_of (w ∷ vs)) r ≡ with_item key (whole (λ u. keys_of vs) r)
with_more w vs key (Ok u) e = ap Ok (keys_more w vs key e)
with_more w vs key (Err place) e = refl

-- one word more
pub first_more : (room p : ℕ) (w : List ℕ) (vs : List (List ℕ)) (key : Key) (r : Result (Unit {0}) ℕ) → key_of_word w ≡ Some key
    → whole (λ u. keys_of vs) r ≡ keys room (numbered (p + 1) vs)
    → whole (λ u. keys_of (w ∷ vs)) r ≡ read_item (key_of_word w) p (keys room (numbered (p + 1) vs))
first_more room p w vs key r e h =
    with_more w vs key r e ∙ ap (with_item key) h ∙ ap (λ o. read_item o p (keys room (numbered (p + 1) vs))) (sym e)

pub read_more : (room p : ℕ) (w : List ℕ) (vs : List (List ℕ)) (key : Key) (r : Result (Unit {0}) ℕ) → 0 < room → key_of_word w ≡ Some key
    → whole (λ u. keys_of vs) r ≡ keys (room - 1) (numbered (p + 1) vs) → whole (λ u. keys_of (w ∷ vs)) r ≡ keys room (numbered p (w ∷ vs))
read_more zero p w vs key r some e h = absurd (omega arith)
read_more (suc room) p w vs key r some e h =
    let less : suc room - 1 ≡ room = omega arith in first_more room p w vs key r e (h ∙ ap (λ n. keys n (numbered (p + 1) vs)) less)

pub on_ok : {P Q : Type 0} (r : Result (Unit {0}) ℕ) → (P → Q) → OnOk r P → OnOk r Q
on_ok (Ok u) f h = f h
on_ok (Err place) f h = tt

-- ---- one of the words

at_both : (ws : List (List ℕ)) (ks : List Key) (i : ℕ) (w : List ℕ) → map key_of_word ws ≡ map Some ks → slice_get ws i ≡ Some w
    → Some (key_of_word w) ≡ option_map Some (slice_get ks i)
at_both ws ks i w e is =
    sym (ap (option_map key_of_word) is) ∙ sym (slice_get-map key_of_word ws i) ∙ ap (λ l. slice_get l i) e ∙ slice_get-map Some ks i

-- its key stands at its place among the keys
pub key_there : (ws : List (List ℕ)) (i : ℕ) (w : List ℕ) → AreKeys ws → slice_get ws i ≡ Some w → (key : Key) × (key_of_word w ≡ Some key) × (slice_get (keys_of ws) i ≡ Some key)
key_there ws i w are is = by (slice_get (keys_of ws) i) refl (at_both ws (keys_of ws) i w are is)
  where
    by : (o : Option Key) → slice_get (keys_of ws) i ≡ o → Some (key_of_word w) ≡ option_map Some o → (key : Key) × (key_of_word w ≡ Some key) × (slice_get (keys_of ws) i ≡ Some key)
    by None at e = absurd cc
    by (Some key) at e = (key, cc, at)

-- there are as many keys as words
pub asked_many : (ws : List (List ℕ)) → AreKeys ws → length (keys_of ws) ≡ length ws
asked_many ws are = omega (arith, ap length are, length-map ws key_of_word, length-map (keys_of ws) (λ (k : Key). Some k))
