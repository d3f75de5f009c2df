use Rattle.std.proofs.Common.{◌≡◌, ℕ, ◌<◌, ◌*◌, ◌≤◌, [], ◌∷◌, length, get_or, arith, sym, ap, ◌∙◌, subst}
use Rattle.cell_words.proofs.Names.{IsBlank, IsReady, cells, carried_in, AreResumed, View}
use Rattle.cell_words.specs.Countdown.{Lawful, first_view}
use Rattle.cell_words.proofs.OpeningLemmas.{begins}
use Rattle.cell_words.proofs.ResumeLemmas.{are_carried, resumed_opening, first_length, first_ready, dealt_resumed, all_resumed}
use Rattle.cell_words.proofs.PlanFacts.{is_planned}
use Rattle.cell_words.proofs.DealLemmas.{whole}
use Rattle.cell_words.proofs.make.opened.Goals as goal

pub of_words-requires : goal.of_words-requires
of_words-requires c =
    let p = c.args.plan in let t = c.args.table.now in let room = c.in-Ok.room in let ws = c.as_slice.result.now in
    let words : AreResumed p t (cells p) ws = subst (AreResumed p t (cells p)) (sym c.as_slice.ensures.value) c.in-Ok.ensures.words in
    let len : length ws ≡ length room.words.items = ap length c.as_slice.ensures.value in
    let long : 5 * cells p ≤ length ws = omega (arith, len, room.words.ok.0, c.in-Ok.ensures.long) in
    subst (λ l. Lawful ws (first_view p c.from.result l ∷ [])) (sym c.in-Ok.ensures.carried)
    (begins p c.from.result (carried_in t) ws (is_planned p c.needs_fact.ensures c.limits_fact.ensures.few) (omega (arith, c.from.ensures, c.requires.seats)) (are_carried p t ws c.requires.can words) (resumed_opening p t ws long words))

pub deal-requires-clause-many : goal.deal-requires-clause-many
deal-requires-clause-many c =
    let p = c.args.plan in let n : ℕ = c.from.result in
    let e = c.in-Ok-of_words.ensures {u = tt} in
    let view = ap (λ m. m.0) e.4 ∙ ap (first_view p n) c.in-Ok.ensures.carried in
    let seats = c.in-Ok.room.seats in
    let len : length c.as_mut_slice.result.now ≡ length seats.items = ap length c.as_mut_slice.ensures.value in
    ap (λ (v : View). length v.portions) view ∙ first_length p n (carried_in c.args.table.now) ∙ omega (arith, len, seats.ok.0, c.in-Ok.ensures.len, c.from.ensures)

pub deal-requires-clause-ready : goal.deal-requires-clause-ready
deal-requires-clause-ready c = λ j q d l.
    let p = c.args.plan in let n : ℕ = c.from.result in let now = c.as_mut_slice.result.now in
    let e = c.in-Ok-of_words.ensures {u = tt} in
    let view = ap (λ m. m.0) e.4 ∙ ap (first_view p n) c.in-Ok.ensures.carried in
    let seats = c.in-Ok.room.seats in
    let len : length now ≡ length seats.items = ap length c.as_mut_slice.ensures.value in
    let low : j < c.args.seats = omega (arith, l, len, seats.ok.0, c.in-Ok.ensures.len) in
    let blank = subst (λ xs. IsBlank (cells p) (carried_in c.args.table.now) j (get_or xs j d)) (sym c.as_mut_slice.ensures.value) (c.in-Ok.ensures.seats j d low) in
    subst (λ (v : View). IsReady p (get_or v.portions j q) (get_or now j d)) (sym view) (first_ready p n (carried_in c.args.table.now) j q (get_or now j d) (omega (arith, low, c.from.ensures)) blank)

pub returns-in-Ok-of_words-clause-seats : goal.returns-in-Ok-of_words-clause-seats
returns-in-Ok-of_words-clause-seats c = λ k d l.
    let p = c.args.plan in let n : ℕ = c.from.result in let now = c.as_mut_slice.result.now in
    let e = c.in-Ok-of_words.ensures {u = tt} in
    let view = ap (λ m. m.0) e.4 ∙ ap (first_view p n) c.in-Ok.ensures.carried in
    let seats = c.in-Ok.room.seats in
    let len : length now ≡ length seats.items = ap length c.as_mut_slice.ensures.value in
    let back = whole seats.len c.deal.new.seats seats.items (omega (arith, c.deal.ensures.len, len, seats.ok.0)) (omega (arith, seats.ok.0)) in
    let blank = subst (λ xs. IsBlank (cells p) (carried_in c.args.table.now) k (get_or xs k d)) (sym c.as_mut_slice.ensures.value) (c.in-Ok.ensures.seats k d l) in
    let dealt = c.deal.ensures.dealt k d (omega (arith, l, len, seats.ok.0, c.in-Ok.ensures.len)) in
    dealt_resumed p n (carried_in c.args.table.now) k d (get_or now k d) c.deal.new.seats _ view back blank dealt

pub returns-in-Ok-of_words-clause-all : goal.returns-in-Ok-of_words-clause-all
returns-in-Ok-of_words-clause-all c =
    let seats = c.in-Ok.room.seats in
    let len : length c.as_mut_slice.result.now ≡ length seats.items = ap length c.as_mut_slice.ensures.value in
    let back = ap length (whole seats.len c.deal.new.seats seats.items (omega (arith, c.deal.ensures.len, len, seats.ok.0)) (omega (arith, seats.ok.0))) in
    let all : length c.deal.new.seats ≡ c.args.seats = omega (arith, c.deal.ensures.len, len, seats.ok.0, c.in-Ok.ensures.len) in
    all_resumed _ (carried_in c.args.table.now) _ (c.from.ensures ∙ sym (back ∙ all)) (λ k d l. returns-in-Ok-of_words-clause-seats c k d (omega (arith, l, back, all)))
