use Rattle.std.proofs.Common.{rules, ◌≡◌, ◌++◌, ◌∷◌, [], ℕ, Bool, true, false, cond, sym, ap, ◌∙◌, arith, append-nil}
use Rattle.amp_plan.proofs.RowLemmas.{keep-below_more}
use Rattle.cell_words.proofs.Names.{keep, below, count_from, cells, carried_in}
use Rattle.cell_words.specs.Starts.{can_start, starts}
use Rattle.cell_words.proofs.resume.start_ranks.Goals.{then-is_ready+in_ok-push, else-is_ready}
use Rattle.cell_words.proofs.resume.start_ranks.Goals as goal

pub loop-rank-init : goal.loop-rank-init
unfolding keep below count_from
loop-rank-init c = search rules

pub loop-rank-preserved : goal.loop-rank-preserved
loop-rank-preserved c =
    let f : ℕ → Bool = can_start c.args.plan.now (carried_in c.args.table.now) in let r : ℕ = c.loop-rank.rank in
    elim c.if-is_ready.branch [
      | then-is_ready+in_ok-push w ↦
          (let there : f r ≡ true = sym c.is_ready.ensures ∙ w.if-is_ready.true in
          let pushed : c.if-is_ready.ranks.items ≡ c.loop-rank.ranks.items ++ r ∷ [] = search rules in
          pushed ∙ ap (λ l. l ++ r ∷ []) c.loop-rank.invariant ∙ sym (keep-below_more f r ∙ ap (λ t. keep f (below r) ++ cond t (r ∷ []) []) there))
      | else-is_ready w ↦
          (let none : f r ≡ false = sym c.is_ready.ensures ∙ w.if-is_ready.false in
          ap (λ v. v.items) w.ranks-is ∙ c.loop-rank.invariant ∙ sym (keep-below_more f r ∙ ap (λ t. keep f (below r) ++ cond t (r ∷ []) []) none ∙ append-nil (keep f (below r))))
    ]

pub returns : goal.returns
unfolding starts
returns c =
    let e : c.loop-rank.rank ≡ cells c.args.plan.now = omega (arith, c.len-rank-end.ensures, c.loop-rank.auto.rank-end, c.loop-rank-test.false) in
    c.loop-rank.invariant ∙ ap (λ n. keep (can_start c.args.plan.now (carried_in c.args.table.now)) (below n)) e
