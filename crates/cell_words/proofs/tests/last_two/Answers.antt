use Rattle.std.proofs.Common.{◌≡◌, ℕ, ◌+◌, ◌<◌, None, List, [], ◌∷◌, ◌++◌, length, get_or, ap, ◌∙◌, subst, arith, length-append}
use Rattle.std.proofs.Math.ListN.{get_or-append}
use Rattle.std.proofs.Math.Seq.{get_or-append_seam}
use Rattle.cell_words.proofs.Names.{IsSeatOf, held_of, number_of, Countdown, CountSeat}
use Rattle.cell_words.proofs.tests.last_two.Goals as goal

-- What holds of each seat at its place holds of the last, and of each of the rest.
module _ (P : ℕ → CountSeat → Type 0) (all rest : List CountSeat) (own : CountSeat) (is : all ≡ rest ++ own ∷ []) (each : (k : ℕ) (d : CountSeat) → k < length all → P k (get_or all k d)) where
  long : length all ≡ length rest + 1
  long = ap length is ∙ length-append rest (own ∷ [])

  last : P (length rest) own
  last = subst (P (length rest)) (ap (λ ss. get_or ss (length rest) own) is ∙ get_or-append_seam rest own [] own) (each (length rest) own (omega (arith, long)))

  front : (k : ℕ) (d : CountSeat) → k < length rest → P k (get_or rest k d)
  front k d l = subst (P k) (ap (λ ss. get_or ss k d) is ∙ get_or-append rest (own ∷ []) d k l) (each k d (omega (arith, long, l)))

-- a seat of this number that holds no rank
IsFree : Countdown → ℕ → CountSeat → Type 0
IsFree b k s = IsSeatOf b s × (held_of s ≡ None) × (number_of s ≡ k)

pub returns-clause-second : goal.returns-clause-second
unfolding IsFree
returns-clause-second c =
    let free = IsFree c.args.board.now in let all = c.args.seats in let rest = c.pop.new.self.items in let own = c.in-Some.second in
    let each : (k : ℕ) (d : CountSeat) → k < length all.items → free k (get_or all.items k d) = λ k d l. c.requires.each k d (omega (arith, l, c.requires.many.1, all.ok.0)) in
    subst (λ k. free k own) (omega (arith, long free all.items rest own c.in-Some.ensures.items each, c.requires.many.1, all.ok.0)) (last free all.items rest own c.in-Some.ensures.items each)

pub returns-clause-first : goal.returns-clause-first
unfolding IsFree
returns-clause-first c =
    let free = IsFree c.args.board.now in let all = c.args.seats in let rest = c.pop.new.self.items in let own = c.in-Some.second in
    let rest' = c.pop-2.new.self.items in let own' = c.in-Some-pop.first in
    let each : (k : ℕ) (d : CountSeat) → k < length all.items → free k (get_or all.items k d) = λ k d l. c.requires.each k d (omega (arith, l, c.requires.many.1, all.ok.0)) in
    let before = front free all.items rest own c.in-Some.ensures.items each in
    subst (λ k. free k own') (omega (arith, long free all.items rest own c.in-Some.ensures.items each, long free rest rest' own' c.in-Some-pop.ensures.items before, c.requires.many.1, all.ok.0))
    (last free rest rest' own' c.in-Some-pop.ensures.items before)
