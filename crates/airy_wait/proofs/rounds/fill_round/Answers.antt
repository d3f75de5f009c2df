use Rattle.std.proofs.Common.{rules, ◌<◌, ◌≤◌, inl, arith, refl, sym, ap, subst}
use Rattle.run_reports.proofs.Names.{cells}
use mathlib.Core.Logic.{dite}
use native.Mathlib.Decide.{ℕ_discrete}
use Rattle.cell_words.specs.declared.view.Standing.{Standing}
use Rattle.ask_seats.specs.Counts.{Knows}
use Rattle.fill_crew.proofs.CrewLemmas.{worked_none}
use Rattle.airy_wait.proofs.RoundLemmas.{worked_again, worked_looked, ordered_none, ordered_more, ordered_same, ordered_wider}
use Rattle.airy_wait.proofs.rounds.fill_round.Goals as goal

pub loop-rank-init : goal.loop-rank-init
loop-rank-init g c = (worked_none c.args.board.now c.args.seat.now c.requires, ordered_none c.args.seat.now)

pub fill_in_turn-requires-clause-seat : goal.fill_in_turn-requires-clause-seat
fill_in_turn-requires-clause-seat g c = (c.loop-rank.invariant.0.back.seat, c.loop-rank.invariant.0.back.held)

pub loop-rank-preserved : goal.loop-rank-preserved
loop-rank-preserved g c = (
  worked_again c.args.board.now c.args.seat.now c.loop-rank.seat c.fill_in_turn.new.seat c.loop-rank.invariant.0 c.fill_in_turn.ensures.back,
  ordered_more c.loop-rank.rank c.args.seat.now c.loop-rank.seat c.fill_in_turn.new.seat c.loop-rank.invariant.1 c.fill_in_turn.ensures.fills,
)

pub look_wait-requires-clause-seat : goal.look_wait-requires-clause-seat
look_wait-requires-clause-seat g c = c.loop-awaited.invariant.0.back.seat

pub loop-awaited-init : goal.loop-awaited-init
loop-awaited-init g c =
    let all : c.loop-rank.rank ≤ cells c.args.board.now.base.plan = search rules in (
      c.loop-rank.invariant.0,
      ordered_wider c.loop-rank.rank (cells c.args.board.now.base.plan) c.args.seat.now c.loop-rank.seat c.loop-rank.invariant.1 all,
      λ r l. absurd (omega (arith, l)),
    )

pub loop-awaited-preserved : goal.loop-awaited-preserved
loop-awaited-preserved g c =
    let e = c.look_wait.ensures in let s = c.args.seat.now in let t = c.loop-awaited.seat in let u = c.look_wait.new.seat in
    let low : c.loop-awaited.awaited < cells c.args.board.now.base.plan = search rules in (
      worked_looked c.args.board.now s t u c.loop-awaited.invariant.0 e.seat e.standing e.keeps,
      ordered_same (cells c.args.board.now.base.plan) s t u c.loop-awaited.invariant.1 (ap (λ (x : Standing). x.done) e.standing),
      λ r l. dite (ℕ_discrete r c.loop-awaited.awaited)
          (λ is. subst (Knows u) (sym is) (e.knows c.loop-awaited.awaited low (inl refl)))
          (λ other. e.keeps r (c.loop-awaited.invariant.2 r (omega (arith, l, other)))),
    )
