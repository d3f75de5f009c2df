use Rattle.std.proofs.Common.{rules, ◌≡◌, ℕ, suc, List, take, get_or, Bool, true, false, not, sym, ◌∙◌, arith, add-one}
use Rattle.cell_words.proofs.Names.{count_of, carries, when, unless}
use Rattle.cell_words.proofs.ResumeLemmas.{count_more}
use Rattle.cell_words.proofs.resume.needs_left.Goals.{then-is_none, else-is_none}
use Rattle.cell_words.proofs.resume.needs_left.Goals as goal

pub loop-i-preserved : goal.loop-i-preserved
loop-i-preserved c =
    let f : ℕ → Bool = λ q. not (carries c.args.table.now q) in let xs : List ℕ = c.needs-needs.result.now in let k : ℕ = c.loop-i.i in let i = c.loop-i.invariant in
    let so_far : ℕ = count_of f (take k xs) in
    let more = count_more f xs k (omega (arith, c.loop-i-test.true)) in
    rw (add-one k) (elim c.if-is_none.branch [
      | then-is_none w ↦
          (let none : f (get_or xs k 0) ≡ true = search rules in
          record { left = w.left-is ∙ omega (arith, i.left, more ∙ when (f (get_or xs k 0)) (suc so_far) so_far none); few = omega (arith, w.left-is, i.few) })
      | else-is_none w ↦
          (let there : f (get_or xs k 0) ≡ false = search rules in
          record { left = w.left-is ∙ i.left ∙ sym (more ∙ unless (f (get_or xs k 0)) (suc so_far) so_far there); few = omega (arith, w.left-is, i.few) })
    ])
