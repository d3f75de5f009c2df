use Rattle.std.proofs.Common.{◌≡◌, ◌<◌, ◌≤◌, rules, arith, length, refl}
use Rattle.std.proofs.KnownBytes.{Appends-trans, Appends-nil}
use Rattle.std.proofs.lemmas.Result.{err_from_is_err_and}
use Rattle.ask_seats.specs.Replies.{lines_text}
use Rattle.airy_wait.specs.Waits.{told_reply}
use Rattle.airy_wait.proofs.LineLemmas.{lines-cut, lines-done, lines-more}
use Rattle.airy_wait.proofs.replies.write_replies.Goals as goal

pub loop-k-init : goal.loop-k-init
unfolding lines_text
loop-k-init g c = record { written = λ all told e. Appends-nil (g.W.Sink.state c.args.out.now).taken; kept = refl }

pub loop-k-preserved : goal.loop-k-preserved
loop-k-preserved g c = record {
  written = λ all told e.
      let low : c.loop-k.k < length all = omega (arith, e) in
      rw (lines-more all c.loop-k.k (told_reply c.told_at.result.now) (c.told_at.ensures all told low))
      (Appends-trans _ _ _ _ _ (c.loop-k.invariant.written all told e) c.in_ok-write_reply.ensures.written);
  kept = search rules;
}

pub returns-in_err-write_reply : goal.returns-in_err-write_reply
returns-in_err-write_reply g c = λ all told e.
    let low : c.loop-k.k < length all = omega (arith, e) in
    let p = err_from_is_err_and c.from_residual.result c.from_residual.ensures.1 in
    rw (p.1, p.2) (lines-cut all c.loop-k.k (told_reply c.told_at.result.now) (g.W.Sink.state c.args.out.now) (g.W.Sink.state c.loop-k.out) (g.W.Sink.state c.write_reply.new.out) _
    (c.told_at.ensures all told low) (c.loop-k.invariant.written all told e) c.loop-k.invariant.kept c.in_err-write_reply.ensures)

pub returns : goal.returns
returns g c = λ all told e.
    let past : length all ≤ c.loop-k.k = omega (arith, e) in
    lines-done all c.loop-k.k (g.W.Sink.state c.args.out.now) (g.W.Sink.state c.loop-k.out) tt past (c.loop-k.invariant.written all told e) c.loop-k.invariant.kept
