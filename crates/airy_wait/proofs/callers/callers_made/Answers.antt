use Rattle.std.proofs.Common.{◌≡◌, ◌+◌, arith, length, sym, ap, ◌∙◌, subst, vec_len}
use Rattle.run_reports.proofs.Names.{IsIdle, EachAt}
use Rattle.airy_wait.specs.declared.callers.Caller.{Caller}
use Rattle.airy_wait.specs.Turns.{IsFresh}
use Rattle.airy_wait.proofs.SeatLemmas.{each_before, each_last, each_more}
use Rattle.airy_wait.proofs.callers.callers_made.Goals as goal

pub loop-preserved : goal.loop-preserved
loop-preserved c =
    let b = c.args.board.now in let n = length c.args.job.asks.now in let s = c.in-Some.seat in
    let caller : Caller = record { seat = s; told = c.in_ok-told.told } in
    let len : vec_len c.pop.new.self + 1 ≡ vec_len c.loop.seats = c.in-Some.ensures.cases in
    let fresh : IsFresh b n caller = record {
      seat = (each_last (IsIdle b) c.pop.new.self.items s c.loop.seats.items c.in-Some.ensures.items c.loop.invariant.idle).0;
      told = c.in_ok-told.ensures.items;
      room = c.in_ok-told.ensures.capacity;
    } in record {
      idle = each_before (IsIdle b) c.pop.new.self.items s c.loop.seats.items c.in-Some.ensures.items c.loop.invariant.idle;
      many = omega (arith, c.loop.invariant.many, len);
      made = c.in_ok-push.ensures.len ∙ ap (λ k. k + 1) c.loop.invariant.made;
      fresh = subst (EachAt (IsFresh b n)) (sym c.in_ok-push.ensures.items) (each_more (IsFresh b n) c.loop.callers.items caller c.loop.invariant.fresh fresh);
    }
