use Rattle.std.proofs.Common.{◌≡◌, ◌∷◌, ◌++◌, ◌∙◌, ap, sym, subst, rules, None, IfSome}
use Rattle.airymore.proofs.Words.{looked_up, first_over, numbers_text, from, from_any, IsPlace}
use Rattle.std.proofs.KnownBytes.{Appends-trans}
use Rattle.std.proofs.lemmas.Result.{err_from_is_err_and}
use Rattle.airymore.proofs.BracketLemmas.{from_none, from_some, over_none, shorter, text-more, text_cut, text_done, text_end}
use Rattle.airymore.proofs.PlaceLemmas.{head_of}
use Rattle.airymore.proofs.brackets.write_numbers.Goals as goal

pub write_number-requires-clause-obtained : goal.write_number-requires-clause-obtained
write_number-requires-clause-obtained g c =
    let T = looked_up c.args.tensors.now in
    let m = c.args.tensors.now.dim in
    let p = c.in-Some.place in
    let is : IsPlace m p = subst (λ o. IfSome o (IsPlace m)) c.in-Some.is c.loop-at.invariant.place in
    let head = head_of m p is.2 in
    (over_none T p head.0 (ap (first_over T) (sym head.1 ∙ sym (from_some m c.loop-at.at p c.in-Some.is)) ∙ c.loop-at.invariant.obtained)).0

pub returns-in_err-write_number : goal.returns-in_err-write_number
returns-in_err-write_number g c =
    let T = looked_up c.args.tensors.now in
    let m = c.args.tensors.now.dim in
    let p = c.in-Some.place in
    let is : IsPlace m p = subst (λ o. IfSome o (IsPlace m)) c.in-Some.is c.loop-at.invariant.place in
    let head = head_of m p is.2 in
    let before = c.loop-at.invariant.written in
    let e = err_from_is_err_and c.from_residual.result c.from_residual.ensures.1 in
    rw (e.1, e.2)
    (text_cut T p head.0 (g.W.Sink.state c.args.out.now) (g.W.Sink.state c.loop-at.out) (g.W.Sink.state c.write_number.new.out) before.0 _ _ before.1 c.loop-at.invariant.kept
    (ap (λ ps. before.0 ++ numbers_text T ps) (sym head.1 ∙ sym (from_some m c.loop-at.at p c.in-Some.is)) ∙ before.2) c.in_err-write_number.ensures)

pub loop-at-smaller : goal.loop-at-smaller
loop-at-smaller g c =
    let next = c.next_place-at.result in
    shorter c.args.tensors.now.dim c.loop-at.at next c.in-Some.place c.in-Some.is
    (subst (λ d. from d c.in-Some.place ≡ c.in-Some.place ∷ from_any d next) c.dim-in-Some.ensures c.next_place-at.ensures.behind)

pub loop-at-preserved : goal.loop-at-preserved
loop-at-preserved g c =
    let T = looked_up c.args.tensors.now in
    let m = c.args.tensors.now.dim in
    let p = c.in-Some.place in
    let next = c.next_place-at.result in
    let behind = subst (λ d. from d p ≡ p ∷ from_any d next) c.dim-in-Some.ensures c.next_place-at.ensures.behind in
    let walk = sym behind ∙ sym (from_some m c.loop-at.at p c.in-Some.is) in
    let before = c.loop-at.invariant.written in record {
      place = subst (λ d. IfSome next (IsPlace d)) c.dim-in-Some.ensures c.next_place-at.ensures.place;
      obtained = (over_none T p (from_any m next) (ap (first_over T) walk ∙ c.loop-at.invariant.obtained)).1;
      written = (
        _,
        Appends-trans _ _ _ _ _ before.1 c.in_ok-write_number.ensures.written,
        text-more T p (from_any m next) before.0 _ (ap (λ ps. before.0 ++ numbers_text T ps) walk ∙ before.2),
      );
      kept = c.in_ok-write_number.ensures.cause.kept ∙ c.loop-at.invariant.kept;
    }

pub returns : goal.returns
returns g c =
    let T = looked_up c.args.tensors.now in
    let none : c.loop-at.at ≡ None = search rules in
    let before = c.loop-at.invariant.written in
    text_done (g.W.Sink.state c.args.out.now) (g.W.Sink.state c.loop-at.out) before.0 _ tt before.1 c.loop-at.invariant.kept
    (ap (λ xs. before.0 ++ xs) (text_end T (from_any c.args.tensors.now.dim c.loop-at.at) (from_none c.args.tensors.now.dim c.loop-at.at none)) ∙ before.2)
