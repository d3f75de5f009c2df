use Rattle.std.proofs.Common.{rules, arith, tests, ◌≡◌, cond, ltb, length, Some, None}
use Rattle.std.specs.List.{position_or_len}
use Rattle.std.proofs.lemmas.Iterator.{YieldsList-from_slice}
use Rattle.std.proofs.lemmas.Iterator.Search.{position_from_yields_List}
use Rattle.tensor_text.specs.Lines.{is_blank}
use Rattle.tensor_text.proofs.PlaceLemmas.{place_found, place_within}
use Rattle.tensor_text.proofs.places.blank_place.Goals as goal

pub returns-clause-place : goal.returns-clause-place
returns-clause-place c =
    let bytes = c.args.bytes.now in
    let found : c.position.result ≡ cond (ltb (position_or_len is_blank bytes) (length bytes)) (Some (position_or_len is_blank bytes)) None =
    position_from_yields_List is_blank _ _ c.position.result c.position.ensures.ran (YieldsList-from_slice bytes cc) (λ x b q k. search (rules, tests)) in
    place_found is_blank bytes c.position.result c.unwrap_or.result found c.unwrap_or.ensures

pub returns-clause-within : goal.returns-clause-within
returns-clause-within c =
    let bytes = c.args.bytes.now in
    let found : c.position.result ≡ cond (ltb (position_or_len is_blank bytes) (length bytes)) (Some (position_or_len is_blank bytes)) None =
    position_from_yields_List is_blank _ _ c.position.result c.position.ensures.ran (YieldsList-from_slice bytes cc) (λ x b q k. search (rules, tests)) in
    let place : c.unwrap_or.result ≡ position_or_len is_blank bytes = place_found is_blank bytes c.position.result c.unwrap_or.result found c.unwrap_or.ensures in
    let within = place_within is_blank bytes in
    omega arith
