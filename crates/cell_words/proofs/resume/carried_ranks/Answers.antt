use Rattle.std.proofs.Common.{rules, ◌≡◌, ◌++◌, ◌∷◌, [], ℕ, Bool, true, false, cond, sym, ap, ◌∙◌, arith, append-nil, length}
use Rattle.amp_plan.proofs.RowLemmas.{keep-below_more}
use Rattle.cell_words.proofs.Names.{keep, below, count_from, carries, carried_in}
use Rattle.cell_words.proofs.resume.carried_ranks.Goals.{then-is_some+in_ok-push, else-is_some}
use Rattle.cell_words.proofs.resume.carried_ranks.Goals as goal

pub loop-rank-init : goal.loop-rank-init
unfolding keep below count_from
loop-rank-init c = record { ranks = search rules; room = search rules }

pub loop-rank-preserved : goal.loop-rank-preserved
loop-rank-preserved c =
    let f : ℕ → Bool = carries c.args.table.now in let r : ℕ = c.loop-rank.rank in let i = c.loop-rank.invariant in
    elim c.if-is_some.branch [
      | then-is_some+in_ok-push w ↦
          (let there : f r ≡ true = search rules in
          let pushed : c.if-is_some.ranks.items ≡ c.loop-rank.ranks.items ++ r ∷ [] = search rules in
          record { ranks = pushed ∙ ap (λ l. l ++ r ∷ []) i.ranks ∙ sym (keep-below_more f r ∙ ap (λ t. keep f (below r) ++ cond t (r ∷ []) []) there); room = search rules })
      | else-is_some w ↦
          (let none : f r ≡ false = search rules in
          record { ranks = ap (λ v. v.items) w.ranks-is ∙ i.ranks ∙ sym (keep-below_more f r ∙ ap (λ t. keep f (below r) ++ cond t (r ∷ []) []) none ∙ append-nil (keep f (below r))); room = search rules })
    ]

pub returns-clause-ranks : goal.returns-clause-ranks
unfolding carried_in
returns-clause-ranks c =
    let e : c.loop-rank.rank ≡ length c.args.table.now = omega (arith, c.len-rank-end.ensures, c.loop-rank.auto.rank-end, c.loop-rank-test.false) in
    c.loop-rank.invariant.ranks ∙ ap (λ n. keep (carries c.args.table.now) (below n)) e
