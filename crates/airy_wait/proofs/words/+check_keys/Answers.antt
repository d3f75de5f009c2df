use Rattle.std.proofs.Common.{◌≡◌, refl, ◌+◌, ◌-◌, ◌<◌, ◌≤◌, [], ◌∷◌, rules, arith, map, string_bytes, length, Some, ◌∙◌, sym, ap, subst, Ok, OnOk}
use Rattle.std.proofs.lemmas.List.{length-map}
use Rattle.more_words.specs.MoreWords.{numbered}
use Rattle.more_words.specs.Asked.{whole}
use Rattle.airy_wait.specs.Words.{key_of_word, keys}
use Rattle.airy_wait.specs.Asked.{keys_of, AreKeys}
use Rattle.airy_wait.proofs.KeyLemmas.{some_key, are_more, read_more, on_ok}
use Rattle.airy_wait.proofs.words.+check_keys.Goals as goal

pub returns-in_default : goal.returns-in_default
returns-in_default t c =
    let e : [] ≡ map string_bytes c.args.left.words.now = search rules in
    record {
      read = subst (λ ws. Ok (keys_of ws) ≡ keys c.args.room (numbered (c.args.left.before + 1) ws)) e refl;
      most = omega (arith, ap length e, length-map c.args.left.words.now string_bytes);
      keys = subst AreKeys e refl;
    }

pub returns : goal.returns
returns t c =
    let ok = c.in-Ok in let w = ok.word.now in let vs = map string_bytes ok.behind.words.now in let p = c.args.left.before in
    let e : w ∷ vs ≡ map string_bytes c.args.left.words.now = ok.ensures.words in
    let key = some_key (key_of_word w) (search rules) in
    let some : 0 < c.args.room = search rules in
    record {
      read = subst (λ ws. whole (λ u. keys_of ws) c.check_keys.result ≡ keys c.args.room (numbered (p + 1) ws)) e
          (read_more c.args.room (p + 1) w vs key.0 c.check_keys.result some key.1 (c.check_keys.ensures.read ∙ ap (λ n. keys (c.args.room - 1) (numbered (n + 1) vs)) ok.ensures.before));
      most = on_ok c.check_keys.result (λ h. omega (arith, h, some, ap length e, length-map c.args.left.words.now string_bytes, length-map ok.behind.words.now string_bytes)) c.check_keys.ensures.most;
      keys = on_ok c.check_keys.result (λ h. subst AreKeys e (are_more w vs key.0 key.1 h)) c.check_keys.ensures.keys;
    }
