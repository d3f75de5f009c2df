use Rattle.std.proofs.Common.{rules, ◌≡◌, ℕ, true, false, not, nat_eq, sym, ap, ◌∙◌, ◌&&◌}
use Rattle.cell_words.proofs.Names.{needs_at, carries, carried_in}
use Rattle.cell_words.specs.Starts.{all_in}
use Rattle.cell_words.proofs.ResumeLemmas.{has_carried, all_counted}
use Rattle.cell_words.proofs.resume.is_ready.Goals as goal

pub returns-then-is_some : goal.returns-then-is_some
returns-then-is_some c =
    let t = c.args.table.now in let r : ℕ = c.args.rank in
    let there : carries t r ≡ true = search rules in
    sym (ap (λ b. not b && all_in (carried_in t) (needs_at c.args.plan.now r)) (has_carried t r ∙ there))

pub returns : goal.returns
returns c =
    let t = c.args.table.now in let r : ℕ = c.args.rank in let p = c.args.plan.now in
    let none : carries t r ≡ false = search rules in
    ap (λ n. nat_eq n 0) c.needs_left.ensures ∙ all_counted t (needs_at p r) ∙ sym (ap (λ b. not b && all_in (carried_in t) (needs_at p r)) (has_carried t r ∙ none))
