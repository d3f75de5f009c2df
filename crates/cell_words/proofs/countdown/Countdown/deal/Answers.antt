use Rattle.std.proofs.Common.{◌≡◌, ℕ, ◌-◌, ◌<◌, [], length, drop, get_or, refl, sym, ap, ◌∙◌, arith, add-one, length-set, length-drop, get_or-set_other}
use Rattle.cell_words.proofs.Names.{with_portions, left_part, right_part, Portion, CountSeat, View}
use Rattle.cell_words.proofs.PartLemmas.{splits}
use Rattle.cell_words.proofs.SeatLemmas.{token_after}
use Rattle.cell_words.proofs.DealLemmas.{head_drop, tail_drop, one_left, deal_more}
use Rattle.cell_words.proofs.countdown.Countdown.deal.Goals as goal

pub split_seat-one-requires : goal.split_seat-one-requires
split_seat-one-requires c =
    let i = c.loop-k.invariant in
    let count = ap (λ (v : View). length v.portions) i.view ∙ length-drop c.loop-k.k c.args.place.me.0.portions in
    (i.token.table, omega (arith, c.args.self.now.sized), splits c.loop-k.place.id c.loop-k.place.me.0 (omega (arith, count, c.requires.many, c.loop-k-test.true)))

pub loop-k-preserved : goal.loop-k-preserved
loop-k-preserved c =
    let i = c.loop-k.invariant in let e = c.split_seat-one.ensures in let b = c.args.self.now in let x = c.loop-k.place in let k : ℕ = c.loop-k.k in
    let v = c.args.place.me.0 in let y = c.split_seat-one.result in let some_seat : CountSeat = c.index-seats-k.result in
    let q : Portion = record { number = 0; acts = [] } in
    let low : k < length c.args.seats.now = omega (arith, c.loop-k-test.true) in
    let right : y.me.0 ≡ right_part (with_portions v (drop k v.portions)) = ap (λ m. m.0) e.4 ∙ ap right_part i.view in
    rw (add-one k) record {
      token = token_after b x c.split_seat-one.new.seat (left_part x.me.0) i.token e.0 e.2 refl refl;
      view = ap (λ m. m.0) e.2 ∙ ap left_part i.view ∙ ap (with_portions v) (tail_drop v.portions k);
      len = length-set c.loop-k.seats k _ ∙ i.len;
      dealt = deal_more b v c.args.seats.now c.loop-k.seats k some_seat y (get_or v.portions k q) i.len low i.dealt i.left (λ d. c.requires.ready k q d low)
          (token_after b x y (right_part x.me.0) i.token e.3 (e.4 ∙ ap (λ l. (right_part x.me.0, l)) (sym i.token.slots)) refl refl)
          (ap (λ (u : View). u.portions) right ∙ head_drop v.portions k q (omega (arith, c.requires.many, low)))
          (ap (λ (u : View). u.seen) right) (λ _. ap (λ (u : View). u.looks) right) (λ _. ap (λ (u : View). u.latest) right);
      left = λ j d l. get_or-set_other c.loop-k.seats k j _ d (λ z. omega (arith, z, l)) ∙ i.left j d (omega (arith, l));
    }

pub returns-clause-dealt : goal.returns-clause-dealt
returns-clause-dealt c = λ j d l.
    let i = c.loop-k.invariant in let b = c.args.self.now in let x = c.loop-k.place in
    let k : ℕ = length c.args.seats.now - 1 in
    let v = c.args.place.me.0 in
    let q : Portion = record { number = 0; acts = [] } in
    let at : c.loop-k.k ≡ k = omega (arith, c.loop-k.auto.k-end, c.loop-k-test.false) in
    let view : x.me.0 ≡ with_portions v (drop k v.portions) = i.view ∙ ap (λ n. with_portions v (drop n v.portions)) at in
    let low : k < length c.args.seats.now = omega (arith, c.requires.some) in
    deal_more b v c.args.seats.now c.loop-k.seats k c.index-seats-last.result x (get_or v.portions k q) i.len low
    (λ n e h. i.dealt n e (omega (arith, h, at))) (λ n e h. i.left n e (omega (arith, h, at))) (λ e. c.requires.ready k q e low) i.token
    (ap (λ (u : View). u.portions) view ∙ one_left v.portions k q (omega (arith, c.requires.many, c.requires.some)))
    (ap (λ (u : View). u.seen) view) (λ z. ap (λ (u : View). u.looks) view ∙ z) (λ z. ap (λ (u : View). u.latest) view ∙ z) j d (omega (arith, l))
