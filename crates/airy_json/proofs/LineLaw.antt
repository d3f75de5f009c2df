-- A line feed behind a printed text changes none of its tokens.
use Rattle.std.proofs.Common.{◌≡◌, ℕ, Bool, true, false, cond, ◌&&◌, List, [], ◌∷◌, ◌++◌, refl, sym, ap, ap₂, ◌∙◌, append_assoc, append-nil}
use Rattle.airy_json.proofs.Common.{escape, quoted, token_text, begins, ends, print_from, print, IsPrintable, ArePrintable, content-escape, lex-escape}
use Rattle.json.specs.Token.{Token, begin_object, end_object, begin_array, end_array, key, string, number, boolean, null, bad}
use Rattle.json.specs.Word.{ends_word, word}
use Rattle.json.specs.Lex.{Lexeme, token, comma, colon, string_token, lex, between, fresh, punctuate, tokens}
use Rattle.json.proofs.Printed.Numbers.{lex-number, in_word-ended}
use Rattle.json.proofs.Printed.Tokens.{tokens-print}

abbrev token_lexemes : Token → List Lexeme
token_lexemes begin_object = token begin_object ∷ []
token_lexemes end_object = token end_object ∷ []
token_lexemes begin_array = token begin_array ∷ []
token_lexemes end_array = token end_array ∷ []
token_lexemes (key s) = token (string s) ∷ colon ∷ []
token_lexemes (string s) = token (string s) ∷ []
token_lexemes (number s) = token (number s) ∷ []
token_lexemes (boolean b) = token (boolean b) ∷ []
token_lexemes null = token null ∷ []
token_lexemes bad = []

abbrev lexemes : Bool → List Token → List Lexeme
lexemes c [] = []
lexemes c (t ∷ ts) = cond (c && begins t) (comma ∷ []) [] ++ (token_lexemes t ++ lexemes (ends t) ts)

of_quoted : (s r : List ℕ) → lex between (quoted s ++ r) ≡ token (string s) ∷ lex between r
unfolding lex
of_quoted s r =
    ap (λ l. lex between (34 ∷ l)) (append_assoc (escape s) (34 ∷ []) r) ∙ ap₂ (λ o l. token (string_token o) ∷ l) (content-escape s r) (lex-escape s r)

of_token : (t : Token) (r : List ℕ) → IsPrintable t → (ends t ≡ true → ends_word r ≡ true) → lex between (token_text t ++ r) ≡ token_lexemes t ++ lex between r
unfolding lex word
of_token begin_object r h ended = refl
of_token end_object r h ended = refl
of_token begin_array r h ended = refl
of_token end_array r h ended = refl
of_token (key s) r h ended = ap (lex between) (append_assoc (quoted s) (58 ∷ []) r) ∙ of_quoted s (58 ∷ r)
of_token (string s) r h ended = of_quoted s r
of_token (number s) r h ended = lex-number s r h (ended refl)
of_token (boolean true) r h ended = ap₂ (λ b l. token (cond b (boolean true) bad) ∷ l) (ended refl) (in_word-ended r (ended refl))
of_token (boolean false) r h ended = ap₂ (λ b l. token (cond b (boolean false) bad) ∷ l) (ended refl) (in_word-ended r (ended refl))
of_token null r h ended = ap₂ (λ b l. token (cond b null bad) ∷ l) (ended refl) (in_word-ended r (ended refl))
of_token bad r h ended = absurd h

of_comma : (b : Bool) (r : List ℕ) → lex between (cond b (44 ∷ []) [] ++ r) ≡ cond b (comma ∷ []) [] ++ lex between r
unfolding lex
of_comma true r = refl
of_comma false r = refl

module _ (behind : List ℕ) (ended : ends_word behind ≡ true) (blank : lex between behind ≡ []) where
  value_ended : (ts : List Token) → ends_word (print_from true ts ++ behind) ≡ true
  unfolding print_from
  value_ended [] = ended
  value_ended (begin_object ∷ ts) = refl
  value_ended (end_object ∷ ts) = refl
  value_ended (begin_array ∷ ts) = refl
  value_ended (end_array ∷ ts) = refl
  value_ended (key s ∷ ts) = refl
  value_ended (string s ∷ ts) = refl
  value_ended (number s ∷ ts) = refl
  value_ended (boolean b ∷ ts) = refl
  value_ended (null ∷ ts) = refl
  value_ended (bad ∷ ts) = refl

  of_printed : (c : Bool) (ts : List Token) → ArePrintable ts → lex between (print_from c ts ++ behind) ≡ lexemes c ts
  unfolding print_from ArePrintable
  of_printed c [] h = blank
  of_printed c (t ∷ ts) h =
      let mark = cond (c && begins t) (44 ∷ []) [] in
      let rest = print_from (ends t) ts in
      ap (lex between) (append_assoc mark (token_text t ++ rest) behind ∙ ap (λ l. mark ++ l) (append_assoc (token_text t) rest behind))
      ∙ of_comma (c && begins t) (token_text t ++ (rest ++ behind))
      ∙ ap (λ l. cond (c && begins t) (comma ∷ []) [] ++ l)
      (of_token t (rest ++ behind) h.0 (λ e. ap (λ b. ends_word (print_from b ts ++ behind)) e ∙ value_ended ts) ∙ ap (λ l. token_lexemes t ++ l) (of_printed (ends t) ts h.1))

pub tokens-line : (ts : List Token) → ArePrintable ts → tokens (print ts ++ 10 ∷ []) ≡ ts
unfolding lex
tokens-line ts h =
    ap (punctuate fresh) (of_printed (10 ∷ []) refl refl false ts h ∙ sym (of_printed [] refl refl false ts h) ∙ ap (lex between) (append-nil (print ts)))
    ∙ tokens-print ts h
