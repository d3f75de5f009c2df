use Rattle.std.proofs.Common.{◌≡◌, ◌<◌, [], length, map, ◌*◌, nat_eq, get_or, sym, ap, ◌∙◌, subst, arith, Some, None, cond, is_some, refl}
use Rattle.std.specs.Slots.{slots_items}
use Rattle.cell_words.specs.Closings.{AreOf, HasJust}
use Rattle.cell_words.proofs.Names.{FILLED, has, AreDistinct, outcome_at, AreAll, SomeKnows, numbers_in, receipts_of, length-map}
use Rattle.cell_words.proofs.AloneLemmas.{same_numbers}
use Rattle.cell_words.proofs.CloseLemmas.{last_is, closed_numbers, closed_few, closed_once, closed_low, closed_needs, closed_known, closed_state}
use Rattle.cell_words.proofs.ReceiptLemmas.{cell_some, first_of, are_receipts, can_resume}
use Rattle.cell_words.proofs.DealLemmas.{whole}
use Rattle.cell_words.proofs.countdown.Countdown.close.Goals as goal

pub read_out-table-requires-clause-words : goal.read_out-table-requires-clause-words
read_out-table-requires-clause-words c =
    let b = c.args.self in let old = c.as_mut_slice.result.now in let e = c.gather-place.ensures in let place = c.gather-place.result in
    let same : old ≡ c.args.seats.items = c.as_mut_slice.ensures.value in
    let all : AreAll b old = subst (AreAll b) (sym same) c.requires.seats in
    let end = c.close_with-closed.ensures.values.2 in let ws = slots_items c.close_with-closed.result.words in
    (last_is b old place e.token e.gathered all ws _ end).values

pub sorted-requires : goal.sorted-requires
sorted-requires c =
    let b = c.args.self in let old = c.as_mut_slice.result.now in let e = c.gather-place.ensures in let place = c.gather-place.result in
    let same : old ≡ c.args.seats.items = c.as_mut_slice.ensures.value in
    let all : AreAll b old = subst (AreAll b) (sym same) c.requires.seats in
    let end = c.close_with-closed.ensures.values.2 in let ws = slots_items c.close_with-closed.result.words in
    let now = c.gather-place.new.seats in
    let len : length now ≡ c.args.seats.len = e.taken.len ∙ ap length same ∙ sym c.args.seats.ok.0 in
    let back = whole c.args.seats.len now c.args.seats.items len (sym c.args.seats.ok.0) in record {
      distinct = subst AreDistinct (sym (ap numbers_in back ∙ same_numbers old now e.taken.len e.taken.number)) (closed_numbers b old place e.token e.gathered all ws _ end);
      low = λ j d l.
          let inside : j < length old = omega (arith, l, len, e.taken.len) in
          let number = ap (λ ss. (get_or ss j d).number) back ∙ e.taken.number j d inside in
          omega (arith, number, closed_few b old place e.token e.gathered all ws _ end j d inside, b.spare.1);
    }

pub returns : goal.returns
returns c =
    let b = c.args.self in let p = b.base.plan in let old = c.as_mut_slice.result.now in let ss = c.args.seats.items in let rs = c.sorted.result in
    let e = c.gather-place.ensures in let place = c.gather-place.result in let now = c.gather-place.new.seats in
    let same : old ≡ ss = c.as_mut_slice.ensures.value in
    let all : AreAll b old = subst (AreAll b) (sym same) c.requires.seats in
    let end = c.close_with-closed.ensures.values.2 in let ws = slots_items c.close_with-closed.result.words in
    let len : length now ≡ c.args.seats.len = e.taken.len ∙ ap length same ∙ sym c.args.seats.ok.0 in
    let back = whole c.args.seats.len now ss len (sym c.args.seats.ok.0) in
    let state = closed_state b old place e.token e.gathered all ws _ end in
    let low = closed_low b old place e.token e.gathered all ws _ end in
    let receipts : AreOf ss (map (λ v. v.items) rs.items) = (λ j d inner.
    let l : j < c.args.seats.len = omega (arith, inner, c.args.seats.ok.0) in
    let inside : j < length old = omega (arith, l, len, e.taken.len) in
    let number = ap (λ ss. (get_or ss j d).number) back ∙ e.taken.number j d inside ∙ ap (λ ss. (get_or ss j d).number) same in
    let done = ap (λ ss. (get_or ss j d).done.items) back ∙ ap (λ v. v.items) (e.taken.done j d inside) ∙ ap (λ ss. (get_or ss j d).done.items) same in
    ap (λ n. get_or (map (λ v. v.items) rs.items) n []) (sym number) ∙ c.sorted.ensures.placed j d l ∙ done) in
    let table : HasJust p (receipts_of ss) c.read_out-table.result = (λ r l.
    c.read_out-table.ensures.cells r l ∙ ap (λ t. cond t (Some (outcome_at p r)) None) (state r l ∙ ap (λ ss. has r (receipts_of ss)) same)) in
    let many : length (map (λ v. v.items) rs.items) ≡ b.base.seats = length-map rs.items (λ v. v.items) ∙ sym rs.ok.0 ∙ c.sorted.ensures.len ∙ b.spare.1 in
    let d = first_of ss c.requires.seats.seats.some in record {
      plan = refl;
      many = c.sorted.ensures.len ∙ b.spare.1;
      receipts = receipts;
      each = are_receipts ss _ _ (outcome_at p) d
          (λ k l. c.requires.seats.all k (omega (arith, l, many)))
          (λ j l. let few = closed_few b old place e.token e.gathered all ws _ end j d (subst (λ xs. j < length xs) (sym same) l) in omega (arith, many, subst (λ xs. (get_or xs j d).number < b.base.seats) same few))
          (λ j l. receipts j d l)
          (subst (λ xs. AreDistinct (receipts_of xs)) same (closed_once b old place e.token e.gathered all ws _ end))
          (λ r h. subst (λ n. r < n) (sym c.read_out-table.ensures.len) (low r (ap (λ xs. has r (receipts_of xs)) same ∙ h)))
          (λ r l. table r (subst (λ n. r < n) c.read_out-table.ensures.len l));
      len = c.read_out-table.ensures.len;
      table = table;
      known = λ r k.
          let there = closed_known b old place e.token e.gathered all ws _ end r (subst (λ ss. SomeKnows ss r) (sym same) k) in
          ap is_some (c.read_out-table.ensures.cells r (low r there)) ∙ cell_some (nat_eq (get_or ws (5 * r) 0) FILLED) (outcome_at p r) ∙ state r (low r there) ∙ there;
      resumes = can_resume p (receipts_of ss) _ c.read_out-table.ensures.len table (λ r h. low r (ap (λ xs. has r (receipts_of xs)) same ∙ h))
          (λ r q h n. ap (λ xs. has q (receipts_of xs)) (sym same) ∙ closed_needs b old place e.token e.gathered all ws _ end r q (ap (λ xs. has r (receipts_of xs)) same ∙ h) n);
    }
