-- Small documents, each by computation.
use Rattle.std.specs.Prelude.{◌≡◌, refl, ℕ, [], ◌∷◌, codes, pos, negsuc, false}
use Rattle.std.specs.Str.{chars, is_utf8}
use Rattle.airy_math.specs.Rational.{◌/ℚ◌}
use Rattle.airy_math.specs.RationalLaws.{1ℚ}
use Rattle.airy_math.specs.Examples.{computes}
use Rattle.airy_math.specs.Families.{top_wk, top_bgw, wp_cut}
use Rattle.airy_math.specs.Named.{bgw}
use Rattle.airy_math.specs.Terms.{needs}
use Rattle.airy_math.specs.Ranks.{place_of, key_at, no_key}
use Rattle.airy_math.specs.Jobs.{planned_tensors}
use Rattle.airy_math.specs.declared.Family.TheVariants.{Wk, Bgw}
use Rattle.airy_math.specs.declared.Shape.TheVariants.{All}
use Rattle.sparse_tensor.specs.Entries.{looked_up, no_entries}
use Rattle.tensor_text.specs.Examples.{text_computes}
use Rattle.amp_plan.specs.Needs.{has, named_ranks, needs_rank, needed, need_counts, first_past}
use Rattle.amp_plan.specs.Limits.{limit, past}
use Rattle.serde_json.proofs.OnLiterals.{serde_json_on_literals}
use Rattle.airy_json.specs.Reading.{named, text, kind_of, kind_text, kind_tensors, making_over, count, three}
use Rattle.airy_json.specs.Reading.{whole, whole_at, array_at, string_at, form_with, form_of, is_whole}
use Rattle.airy_json.specs.Reading.{are_indices, are_indices_at, is_cell_of, cell_value, first_bad, with_value}
use Rattle.airy_json.specs.Reading.{cell_values, NoJson, BadForm, BadKind, BadBound, BadCell, Gives, cells_answer}
use Rattle.airy_json.specs.Reading.{plan_answer, made_answer, bound_answer, kind_answer, form_answer, data_answer, json_of, answer_of}

-- To name this on an `unfolding` line opens the reading of a document there, for `refl` at documents.
unfoldable pub document_computes : ℕ → ℕ
unfolding computes text_computes serde_json_on_literals chars is_utf8 top_wk top_bgw wp_cut bgw needs place_of key_at no_key
    planned_tensors looked_up has named_ranks needs_rank needed need_counts first_past limit past kind_of kind_text kind_tensors
    making_over count three whole whole_at array_at string_at form_with form_of is_whole are_indices are_indices_at is_cell_of cell_value
    first_bad with_value cell_values cells_answer plan_answer made_answer bound_answer kind_answer form_answer data_answer json_of
    answer_of
document_computes n = n

-- the table of wk up to 1
a_document :
    answer_of (codes "{\"bound\":1,\"cells\":[{\"g\":0,\"i\":[0,0,0],\"v\":\"1\"},{\"g\":1,\"i\":[1],\"v\":\"1/8\"}],\"kind\":\"wk\"}\n")
    ≡ Gives (named Wk) 1 (1ℚ ∷ (pos 1 /ℚ 8) ∷ [])
unfolding document_computes
a_document = refl

-- the members may come in any order, and of two with one name the last counts
the_last_counts :
    answer_of (codes "{\"kind\":\"wk\",\"cells\":7,\"bound\":0,\"cells\":[{\"v\":\"1\",\"g\":0,\"i\":[0]}],\"kind\":\"bgw\",\"bound\":1}")
    ≡ BadCell 0
unfolding document_computes
the_last_counts = refl

-- a cell with the value 1/8 in another form
a_cell_of_bgw : answer_of (codes "{\"kind\":\"bgw\",\"cells\":[{\"v\":\"+02/16\",\"g\":0,\"g\":1,\"i\":[0]}],\"bound\":1}")
    ≡ Gives (named Bgw) 1 ((pos 1 /ℚ 8) ∷ [])
unfolding document_computes
a_cell_of_bgw = refl

nothing : answer_of [] ≡ NoJson
unfolding document_computes
nothing = refl

one_member_too_many : answer_of (codes "{\"a\":1,\"bound\":1,\"cells\":[],\"kind\":\"wk\"}") ≡ BadForm
unfolding document_computes
one_member_too_many = refl

no_digits_alone : answer_of (codes "{\"bound\":1.0,\"cells\":[],\"kind\":\"wk\"}") ≡ BadForm
unfolding document_computes
no_digits_alone = refl

no_kind : answer_of (codes "{\"bound\":0,\"cells\":[],\"kind\":\"wq\"}") ≡ BadKind
unfolding document_computes
no_kind = refl

the_bound_before_the_cells : answer_of (codes "{\"bound\":25,\"cells\":[],\"kind\":\"airy 1\\ndim 1\\nend\"}") ≡ BadBound 25
unfolding document_computes
the_bound_before_the_cells = refl

-- the second cell left out
a_cell_too_few : answer_of (codes "{\"bound\":1,\"cells\":[{\"g\":0,\"i\":[0,0,0],\"v\":\"1\"}],\"kind\":\"wk\"}") ≡ BadCell 1
unfolding document_computes
a_cell_too_few = refl

-- a text that isn't canonical, with cells of the value 2 and -1/3
a_text :
    answer_of (codes "{\"bound\":1,\"cells\":[{\"g\":0,\"i\":[0,0,0],\"v\":\"2\"},{\"g\":1,\"i\":[0],\"v\":\"-1/3\"}],\"kind\":\"airy 1\\n\\ndim 1\\nend\"}")
    ≡ Gives (text (no_entries 1 All false)) 1 ((pos 2 /ℚ 1) ∷ (negsuc 0 /ℚ 3) ∷ [])
unfolding document_computes
a_text = refl

a_byte_order_mark : answer_of (239 ∷ 187 ∷ 191 ∷ codes "{\"bound\":0,\"cells\":[],\"kind\":\"wk\"}") ≡ NoJson
unfolding document_computes
a_byte_order_mark = refl
