use Rattle.std.proofs.Common.{sym, subst}
use Rattle.run_reports.proofs.Names.{tensors_of}
use Rattle.ask_seats.specs.Asks.{Fails}
use Rattle.ask_seats.specs.Sessions.{Session}
use Rattle.session_law.specs.Sessions.{answered}
use Rattle.airyrun.specs.Sessions.{EndsReplies}
use Rattle.airyrun.proofs.TalkLemmas.{spoken-ends, cut-ends, memory-ends}
use Rattle.airyrun.proofs.talk.talk_planned.Goals as goal
use Rattle.airyrun.proofs.talk.talk_planned.Goals.{in-Ok, in-Err-WriteFault, in-Err-NoMemory}

pub returns : goal.returns
returns g c =
    let p = c.args.plan in let out = c.args.out.now in
    let s : Session = record { tensors = tensors_of p; letter = p.tensors.letter; crew = c.args.workers } in
    elim c.match-session.branch [
      | in-Ok w ↦
          subst (λ n. EndsReplies s p.bound c.args.lines.now answered (g.W.Sink.state out) (g.W.Sink.state c.match-session.out) n) (sym w.result-is)
          (subst (λ q. EndsReplies s p.bound c.args.lines.now answered (g.W.Sink.state out) (g.W.Sink.state q) 0) (sym w.out-is)
          (spoken-ends s p.bound c.args.lines.now _ _ w.in-Ok.ensures.spoken w.in-Ok.ensures.steady))
      | in-Err-WriteFault w ↦
          (let f = subst (Fails s p.bound c.args.lines.now (g.W.Sink.state out) (g.W.Sink.state c.session.new.out)) w.in-Err-WriteFault.field-0-is w.in-Err-WriteFault.ensures.fails in
          subst (λ n. EndsReplies s p.bound c.args.lines.now answered (g.W.Sink.state out) (g.W.Sink.state c.match-session.out) n) (sym w.result-is)
          (subst (λ q. EndsReplies s p.bound c.args.lines.now answered (g.W.Sink.state out) (g.W.Sink.state q) 9) (sym w.out-is)
          (cut-ends s p.bound c.args.lines.now _ _ f.0 f.1 f.2)))
      | in-Err-NoMemory w ↦
          (let f = subst (Fails s p.bound c.args.lines.now (g.W.Sink.state out) (g.W.Sink.state c.session.new.out)) w.in-Err-NoMemory.field-0-is w.in-Err-NoMemory.ensures.fails in
          subst (λ n. EndsReplies s p.bound c.args.lines.now answered (g.W.Sink.state out) (g.W.Sink.state c.match-session.out) n) (sym w.result-is)
          (subst (λ q. EndsReplies s p.bound c.args.lines.now answered (g.W.Sink.state out) (g.W.Sink.state q) w.refuse_behind.result) (sym w.out-is)
          (memory-ends s p.bound c.args.lines.now _ _ _ w.in-Err-NoMemory.lines w.refuse_behind.result f w.refuse_behind.ensures.first w.refuse_behind.ensures.later)))
    ]
