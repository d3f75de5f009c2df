use Rattle.std.proofs.Common.{ℕ, ◌<◌, List, length, get_or, sym, subst}
use Rattle.cell_words.proofs.Names.{cells}
use Rattle.fill_crew.proofs.CrewLemmas.{start_low}
use Rattle.fill_crew.proofs.crew.push_starts.Goals as goal

pub give-requires : goal.give-requires
give-requires g c =
    let b = c.args.board.now in let i : ℕ = c.loop-i.i in let e = c.ready_at_start-starts.ensures in
    subst (λ n. get_or c.ready_at_start-starts.result.now i 0 < n) (sym c.requires.limit)
    (subst (λ l. get_or l i 0 < cells b.base.plan) (sym e) (start_low b.base.plan b.base.carried.items i (subst (λ (l : List ℕ). i < length l) e c.loop-i-test.true)))
