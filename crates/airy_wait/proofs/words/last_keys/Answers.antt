use Rattle.std.proofs.Common.{◌≡◌, ◌+◌, ◌≤◌, ◌∷◌, rules, arith, map, string_bytes, length, Some, ◌∙◌, ap, subst, Ok}
use Rattle.std.proofs.lemmas.List.{length-map}
use Rattle.more_words.specs.MoreWords.{numbered}
use Rattle.more_words.specs.Asked.{numbered_of, whole}
use Rattle.airy_wait.specs.Words.{key_of_word, keys, all_keys}
use Rattle.airy_wait.specs.Asked.{keys_of, AreKeys}
use Rattle.airy_wait.proofs.KeyLemmas.{some_key, are_more, first_more}
use Rattle.airy_wait.proofs.words.last_keys.Goals as goal

pub returns : goal.returns
returns c =
    let ok = c.in_ok-word in let w = ok.word.now in let vs = map string_bytes ok.behind.words.now in let p = c.args.left.before in
    let e : w ∷ vs ≡ map string_bytes c.args.left.words.now = ok.ensures.words in
    let key = some_key (key_of_word w) (search rules) in
    let checked = c.in_ok-check_keys in
    let read : whole (λ u. keys_of vs) (Ok checked.field-0) ≡ keys 255 (numbered_of ok.behind) = checked.ensures.read in
    let most : length ok.behind.words.now ≤ 255 = checked.ensures.most in
    record {
      read = subst (λ ws. Ok (keys_of ws) ≡ all_keys (numbered (p + 1) ws)) e
          (first_more 255 (p + 1) w vs key.0 (Ok checked.field-0) key.1 (read ∙ ap (λ n. keys 255 (numbered (n + 1) vs)) ok.ensures.before));
      most = omega (arith, most, ap length e, length-map c.args.left.words.now string_bytes, length-map ok.behind.words.now string_bytes);
      keys = subst AreKeys e (are_more w vs key.0 key.1 checked.ensures.keys);
    }
