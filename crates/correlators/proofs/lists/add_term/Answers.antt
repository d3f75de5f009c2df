use Rattle.std.proofs.Common.{◌≡◌, Bool, true, false, arith, sym, ap, ◌∙◌}
use Rattle.correlators.proofs.Words.{euler, key_of, ordered, Planning, rank_at, place_in}
use Rattle.correlators.proofs.TermLemmas.{placed, ranked, adds_nothing, adds_one}
use Rattle.correlators.proofs.lists.add_term.Goals as goal

pub unreachable-requires-in_default-rank_of : goal.unreachable-requires-in_default-rank_of
unreachable-requires-in_default-rank_of c =
    let p : Planning = c.args.source.now.plan.now in
    c.in_default-rank_of.not-At (rank_at p (key_of c.args.source.now.genus (ordered c.args.list.now)))
    (c.rank_of.ensures ∙ ap (place_in p) c.in-Ok.ensures.key ∙ placed p c.args.source.now.genus c.args.source.now.places c.requires.asked c.args.list.now c.requires.places c.requires.sum)

pub bounds-source-rank : goal.bounds-source-rank
bounds-source-rank c =
    omega (
      arith,
      c.requires.len,
      ranked c.args.source.now.plan.now c.args.source.now.genus c.args.source.now.places c.requires.asked c.args.list.now c.requires.places c.requires.sum
          c.planned_fact.ensures c.in-Ok.key c.in-Ok.ensures.key c.validity_fact.ensures c.in-At.rank (sym c.rank_of.ensures ∙ c.in-At.is),
    )

pub returns-then-is_zero : goal.returns-then-is_zero
returns-then-is_zero c =
    adds_nothing c.args.source.now.plan.now c.args.source.now.genus c.args.source.now.places c.requires.asked c.args.list.now c.requires.places c.requires.sum
    c.planned_fact.ensures c.in-Ok.key c.in-Ok.ensures.key c.validity_fact.ensures c.in-At.rank (sym c.rank_of.ensures ∙ c.in-At.is)
    c.args.source.now.coefficients.now c.index-source-rank.result c.index-source-rank.is c.requires.len c.args.terms.now.items (c.index-source-rank.is ∙ c.is_zero.ensures.0 c.if-is_zero.true)

pub doubled-requires-clause-small : goal.doubled-requires-clause-small
unfolding euler
doubled-requires-clause-small c = omega (arith, c.requires.sum, c.requires.asked.small)

not_both : (t : Bool) → t ≡ false → t ≡ true → ⊥
not_both t e h = cc

pub returns : goal.returns
returns c =
    adds_one c.args.source.now.plan.now c.args.source.now.genus c.args.source.now.places c.requires.asked c.args.list.now c.requires.places c.requires.sum
    c.planned_fact.ensures c.in-Ok.key c.in-Ok.ensures.key c.validity_fact.ensures c.in-At.rank (sym c.rank_of.ensures ∙ c.in-At.is)
    c.args.source.now.coefficients.now c.index-source-rank.result c.index-source-rank.is c.requires.len c.args.terms.now.items c.push.new.self.items _
    (λ z. not_both c.is_zero.result c.if-is_zero.false (c.is_zero.ensures.1 (sym c.index-source-rank.is ∙ z))) c.in_ok-push.ensures.items (sym c.index-source-rank.is) c.letter.ensures c.doubled.ensures
