use Rattle.std.proofs.Common.{◌≡◌, ◌∙◌, rules, length, ◌∷◌}
use Rattle.std.proofs.KnownBytes.{Appends-trans}
use Rattle.std.proofs.lemmas.Result.{err_from_is_err_and}
use Rattle.airyrun.proofs.VolumeLemmas.{terms_cut, terms_done, terms-next}
use Rattle.airyrun.proofs.volumes.write_terms.Goals as goal

pub loop-term-preserved : goal.loop-term-preserved
loop-term-preserved g c =
    let left : c.loop-term.left.now ≡ c.in-Some.term.now ∷ c.in-Some.behind.now = search rules in
    let before = c.loop-term.invariant.written in record {
      written = (_, Appends-trans _ _ _ _ _ before.1 c.in_ok-write_term.ensures.written, terms-next before.0 c.in-Some.term.now c.in-Some.behind.now c.loop-term.left.now _ left before.2);
      kept = c.in_ok-write_term.ensures.cause.kept ∙ c.loop-term.invariant.kept;
    }

pub returns-in_err-write_term : goal.returns-in_err-write_term
returns-in_err-write_term g c =
    let left : c.loop-term.left.now ≡ c.in-Some.term.now ∷ c.in-Some.behind.now = search rules in
    let before = c.loop-term.invariant.written in
    let p = err_from_is_err_and c.from_residual.result c.from_residual.ensures.1 in
    rw (p.1, p.2)
    (terms_cut (g.W.Sink.state c.args.out.now) (g.W.Sink.state c.loop-term.out) (g.W.Sink.state c.write_term.new.out) before.0 c.in-Some.term.now c.in-Some.behind.now c.loop-term.left.now _ _
    before.1 c.loop-term.invariant.kept left before.2 c.in_err-write_term.ensures)

pub returns : goal.returns
returns g c =
    let none : length c.loop-term.left.now ≡ 0 = search rules in
    let before = c.loop-term.invariant.written in
    terms_done (g.W.Sink.state c.args.out.now) (g.W.Sink.state c.loop-term.out) before.0 c.loop-term.left.now _ tt before.1 c.loop-term.invariant.kept none before.2
