use Rattle.std.proofs.Common.{◌≡◌, ◌≤◌, All, vec_len, vec_capacity}
use Rattle.cell_words.specs.LevelSeats.{IsPlaceOf, IsAsker, IsUnseen}
use Rattle.cell_words.proofs.frontier.Frontier.askers.Given as goal

abbrev pub invariant-loop : goal.invariant-loop
invariant-loop l =
    IsPlaceOf l.self l.filler × (l.filler.me.0 ≡ l.initial.filler.me.0) × All (λ s. IsAsker l.self s × IsUnseen s) l.seats.items × (vec_len l.seats ≡ l.counter) × (l.count ≤ vec_capacity l.seats) × (l.counter ≤ l.count)
