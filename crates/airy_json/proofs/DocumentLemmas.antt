-- What reading the bytes of a document gives.
use Rattle.std.proofs.Common.{◌≡◌, ℕ, ◌≤◌, nat_lt, Bool, true, false, cond, List, length, Some, None, IsUtf8, refl, ap, ◌∙◌, arith}
use Rattle.airy_json.proofs.Common.{form_of, form_answer, data_answer, json_of, answer_of, nat_tests, IsUtf8-from_is_utf8, is_utf8-from_IsUtf8, Data, read, NoJson, Long}
use Rattle.std.specs.Str.{is_utf8}

not_long : (n : ℕ) → n ≤ 16777216 → nat_lt 16777216 n ≡ false
not_long n h = grind (arith, nat_tests)

short_answer : (bytes : List ℕ) → length bytes ≤ 16777216 → answer_of bytes ≡ data_answer (json_of bytes)
unfolding answer_of
short_answer bytes h = ap (λ b. cond b Long (data_answer (json_of bytes))) (not_long (length bytes) h)

pub answer-data : (bytes : List ℕ) (d : Data) → length bytes ≤ 16777216 → IsUtf8 bytes → read bytes ≡ Some d → answer_of bytes ≡ form_answer (form_of d)
unfolding json_of data_answer
answer-data bytes d h utf8 e =
    short_answer bytes h ∙ ap (λ b. data_answer (cond b (read bytes) None)) (is_utf8-from_IsUtf8 bytes utf8) ∙ ap data_answer e

pub answer-none : (bytes : List ℕ) → length bytes ≤ 16777216 → (IsUtf8 bytes → read bytes ≡ None) → answer_of bytes ≡ NoJson
unfolding json_of data_answer
answer-none bytes h none = short_answer bytes h ∙ by (is_utf8 bytes) refl
  where
    by : (t : Bool) → is_utf8 bytes ≡ t → data_answer (cond t (read bytes) None) ≡ NoJson
    by true e = ap data_answer (none (IsUtf8-from_is_utf8 bytes e))
    by false e = refl

pub answer-long : (bytes : List ℕ) → length bytes ≡ 16777217 → answer_of bytes ≡ Long
unfolding answer_of
answer-long bytes e = rw e refl
