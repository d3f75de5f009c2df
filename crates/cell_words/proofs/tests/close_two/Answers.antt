use Rattle.std.proofs.Common.{◌≡◌, ℕ, zero, suc, ◌<◌, None, true, [], ◌∷◌, get_or, refl, sym, ap₂, ◌∙◌, subst, arith, rules}
use Rattle.cell_words.proofs.Names.{has, AreAll, IsSeatOf, seats_of, held_of, number_of, Countdown, CountSeat}
use Rattle.cell_words.proofs.tests.close_two.Goals as goal

below_two : (k : ℕ) → k < 2 → has k (0 ∷ 1 ∷ []) ≡ true
unfolding has
below_two zero l = refl
below_two (suc zero) l = refl
below_two (suc (suc k)) l = absurd (omega arith)

-- two seats are all seats of a board of two
two_all : (b : Countdown) (s t : CountSeat) → seats_of b ≡ 2 → IsSeatOf b s × (held_of s ≡ None) × (number_of s ≡ 0) → IsSeatOf b t × (held_of t ≡ None) × (number_of t ≡ 1) → AreAll b (s ∷ t ∷ [])
two_all b s t two f g = record {
  seats = record { some = omega arith; each = each; free = free };
  all = λ k l. ap₂ (λ m n. has k (m ∷ n ∷ [])) f.2 g.2 ∙ below_two k (omega (arith, l, two));
}
  where
    each : (j : ℕ) (d : CountSeat) → j < 2 → IsSeatOf b (get_or (s ∷ t ∷ []) j d)
    each zero d l = f.0
    each (suc zero) d l = g.0
    each (suc (suc j)) d l = absurd (omega arith)

    free : (j : ℕ) (d : CountSeat) → j < 2 → held_of (get_or (s ∷ t ∷ []) j d) ≡ None
    free zero d l = f.1
    free (suc zero) d l = g.1
    free (suc (suc j)) d l = absurd (omega arith)

pub close-requires : goal.close-requires
close-requires c =
    let items : c.push-2.new.self.items ≡ c.args.first ∷ c.args.second ∷ [] = search rules in
    record { seats = subst (AreAll c.args.board) (sym items) (two_all c.args.board c.args.first c.args.second c.requires.two c.requires.first c.requires.second) }
