use Rattle.std.proofs.lemmas.Result.{IfOk-weaker, IfErr-weaker, on_ok_weaker}
use Rattle.ask_seats.proofs.Names.{◌≡◌, ℕ, ◌<◌, ◌≤◌, ◌+◌, [], ◌++◌, List, Option, true, false, true≢false, take, drop, length, arith, refl, sym, ap, ◌∙◌, subst, take-append-drop, Result, Ok, Err, IfOk, IfErr, OnOk, None, Taking, has, Planning, tensors_of, full_table, IsPartial, CanResume, carried_of, start, CutShort, Rises, session_of, Closed, LeavesFirst, KeepsCarried, Carried, GoesOn, IsPart, Paused, Line}
use Rattle.ask_seats.specs.Talks.{Writes}
use Rattle.ask_seats.proofs.FrontLemmas.{leads-new, keeps-none}
use Rattle.ask_seats.proofs.SessionLemmas.{stands-first, cut-first, goes-first}
use Rattle.ask_seats.proofs.sessions.session.Goals as goal

on_ok_map : {T E Q : Type 0} {P : T → Type 0} (r : Result T E) → ((x : T) → P x → Q) → IfOk r P → OnOk r Q
on_ok_map (Ok x) f h = f x h
on_ok_map (Err e) f h = tt

none_has : (r : ℕ) → has r [] ≡ true → ⊥
unfolding has
none_has r h = true≢false (sym h)

pub talk-requires-clause-knows : goal.talk-requires-clause-knows
talk-requires-clause-knows g c κs within = λ j d l r h. absurd (none_has r (ap (has r) (sym c.in-Ok.ensures.carried) ∙ h))

pub returns-in_default-talk-clause-fails : goal.returns-in_default-talk-clause-fails
returns-in_default-talk-clause-fails g c =
    let p = c.in-Ok.board.base.plan in let lines = c.args.lines.now in let at : ℕ = c.part_end-at.result in let crew : ℕ = c.args.crew in
    let e = c.in_default-talk.ensures in let same = c.in-Ok.ensures.plan in
    let old = (g.W.Sink.state c.args.out.now).taken in let new = (g.W.Sink.state c.talk.new.out).taken in
    let broke = e.cut (start p.bound) (stands-first p crew (λ r. has r (carried_of c.in-Ok.board) ≡ true)) refl in
    let up = subst (Rises p.bound) (sym (take-append-drop at lines)) (subst (λ (z : Planning). Rises z.bound lines) (sym same) c.requires.rises) in (
      subst (λ ls. CutShort (session_of c.args.plan crew) c.args.plan.bound ls old new) (take-append-drop at lines)
          (subst (λ (z : Planning). CutShort (session_of z crew) z.bound (take at lines ++ drop at lines) old new) same (cut-first p crew (take at lines) (drop at lines) old new up broke)),
      e.cause.failed,
      e.cause.later,
    )

pub talk-requires-clause-leads : goal.talk-requires-clause-leads
talk-requires-clause-leads g c κs within = let e = c.in-Ok.ensures in leads-new _ (c.args.crew + 1) _ (omega arith) e.carried e.seats

pub go_on-requires-clause-left : goal.go_on-requires-clause-left
go_on-requires-clause-left g c κs within =
    let e = c.in-Ok-talk.ensures in let t = c.in-Ok-talk.rest.closed.table in record {
      partial = subst (λ z. IsPartial z t) (sym e.plan) e.table;
      resumes = subst (λ z. CanResume z t) (sym e.plan) e.resumes;
      full = λ h. e.full h ∙ ap (λ (z : Planning). full_table (tensors_of z) z.bound) (sym e.plan);
      many = e.many ∙ c.in-Ok.ensures.board_seats;
      receipts = e.receipts;
    }

pub go_on-requires-clause-more : goal.go_on-requires-clause-more
go_on-requires-clause-more g c κs within =
    let e = c.part_end-at.ensures in let lines = c.args.lines.now in
    subst (λ (z : Planning). GoesOn z.bound lines c.part_end-at.result) (sym (c.in-Ok-talk.ensures.plan ∙ c.in-Ok.ensures.plan))
    (goes-first c.args.plan.bound lines c.part_end-at.result e.part c.requires.rises e.within e.there c.requires.finish)

-- where the first part leaves a session
begins : (q p : Planning) (crew : ℕ) (f : Option ℕ) (c : Closed) (ls : List Line) (ranks : List ℕ) (old new : Option (List ℕ)) → p ≡ q → c.plan ≡ p → Writes p crew None f (λ r. has r ranks ≡ true) (Carried c.table) ls old new
    → IsPart ls → ranks ≡ [] → LeavesFirst ranks c → Paused q c.plan crew f c.table ls old new × KeepsCarried q ls c
begins q p crew f c ls ranks old new e same w part none first = (
  subst (λ x. Paused x c.plan crew f c.table ls old new) e
      (subst (λ y. Paused p y crew f c.table ls old new) (sym same) (record { tensors = refl; wrote = w (start p.bound) (stands-first p crew (λ r. has r ranks ≡ true)) refl })),
  keeps-none q ls ranks c part none first,
)

pub returns : goal.returns
returns g c =
    let rest = c.in-Ok-talk.rest in let e = c.in-Ok-talk.ensures in let r = c.go_on.result in let went = c.go_on.ensures in
    let b = begins c.args.plan c.in-Ok.board.base.plan c.args.crew rest.finished rest.closed (take c.part_end-at.result c.args.lines.now) c.in-Ok.board.base.carried.items (g.W.Sink.state c.args.out.now).taken (g.W.Sink.state c.talk.new.out).taken
    c.in-Ok.ensures.plan e.plan e.written c.part_end-at.ensures.part c.in-Ok.ensures.carried e.first in record {
      tensors = IfOk-weaker r _ _ (λ x h. (h c.args.plan _ b.0 b.1).0) went.spoken;
      bound = IfOk-weaker r _ _ (λ x h. (h c.args.plan _ b.0 b.1).1) went.spoken;
      table = IfOk-weaker r _ _ (λ x h. h.partial) went.left;
      full = IfOk-weaker r _ _ (λ x h. h.full) went.left;
      many = IfOk-weaker r _ _ (λ x h. h.many) went.left;
      receipts = IfOk-weaker r _ _ (λ x h. h.receipts) went.left;
      carried = IfOk-weaker r _ _ (λ x h. (h c.args.plan _ b.0 b.1).3) went.spoken;
      spoken = on_ok_map r (λ x h. (h c.args.plan _ b.0 b.1).2) went.spoken;
      steady = on_ok_weaker r (λ h. h ∙ e.cause.kept) went.steady;
      fails = IfErr-weaker r _ _ (λ x h. h c.args.plan (g.W.Sink.state c.args.out.now) c.requires.rises b.0 e.cause.kept) went.fails;
    }
