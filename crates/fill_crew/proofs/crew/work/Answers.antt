use Rattle.std.proofs.Common.{◌≡◌, ℕ, arith, refl, [], ◌∷◌, ◌++◌, Option, None, sym, ap, ◌∙◌, subst, append-nil}
use Rattle.cell_words.specs.Claims.{Claims}
use Rattle.cell_words.specs.declared.claim.Claim.{Claim}
use Rattle.cell_words.specs.declared.claim.Claim.TheVariants.{Mine, Needs, Taken, Done}
use Rattle.cell_words.specs.declared.view.View.{View}
use Rattle.cell_words.proofs.Names.{Planning, view_of}
use Rattle.fill_crew.specs.Crews.{HasWorked}
use Rattle.fill_crew.proofs.CrewLemmas.{worked_more, holds_none}
use Rattle.fill_crew.proofs.crew.work.Goals.{in-Mine, in_default-claim}
use Rattle.fill_crew.proofs.crew.work.Goals as goal

pub loop-preserved : goal.loop-preserved
loop-preserved g c = elim c.match-claim.branch [
  | in-Mine w ↦ (
    subst (λ m. HasWorked c.args.board.now c.args.member.now.seat m.seat) (sym w.member-is)
        (worked_more c.args.board.now c.args.member.now.seat c.loop.member.seat w.fill.new.seat (c.in-Some.rank ∷ []) c.loop.invariant.0 (w.fill.ensures.seat, w.fill.ensures.held)
        (w.fill.ensures.number ∙ c.claim.ensures.number) (w.fill.ensures.done ∙ ap (λ l. l ++ (c.in-Some.rank ∷ [])) c.claim.ensures.done) (λ r k. w.fill.ensures.keeps r (c.claim.ensures.keeps r k))),
    omega (arith, w.done-is, c.loop.invariant.1),
  )
  | in_default-claim w ↦ (
    let none = holds_none c.args.board.now.base.plan c.in-Some.rank (view_of c.loop.member.seat) (view_of c.claim.new.seat) c.claim.new.seat.held c.claim.result c.claim.ensures.answer w.in_default-claim.not-Mine in
        subst (λ m. HasWorked c.args.board.now c.args.member.now.seat m.seat) (sym w.member-is)
        (worked_more c.args.board.now c.args.member.now.seat c.loop.member.seat c.claim.new.seat [] c.loop.invariant.0 (c.claim.ensures.seat, none)
        c.claim.ensures.number (c.claim.ensures.done ∙ sym (append-nil c.loop.member.seat.done.items)) c.claim.ensures.keeps),
    omega (arith, w.done-is, c.loop.invariant.1),
  )
]
