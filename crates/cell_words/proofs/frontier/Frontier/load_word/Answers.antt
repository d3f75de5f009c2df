use Rattle.std.proofs.Common.{ℕ, suc, ◌*◌, ◌<◌, arith, sym, subst, add-one}
use Rattle.cell_words.proofs.Names.{none, Allows, step, Planning, cells_to}
use Rattle.cell_words.specs.Levels.{Keeps, Reads}
use Rattle.cell_words.proofs.LevelSteps.{reads}
use Rattle.cell_words.proofs.LevelLemmas.{level-inside}
use Rattle.cell_words.proofs.frontier.Frontier.load_word.Goals as goal

pub overflow_add-at : goal.overflow_add-at
overflow_add-at c = let b = c.args.self.now in omega (arith, c.requires.known, level-inside b.plan c.args.seat.now.me.0.count c.requires.seat.3, b.few)

pub load-requires : goal.load-requires
load-requires c =
    let b = c.args.self.now in let me = c.args.seat.now.me in let i : ℕ = c.args.at in
    let ok : Allows Keeps b.table.shared.table_id.slots c.args.seat.now.id me (suc i) (λ n. n) (Reads (step b.table.shared.table_id.slots (suc i) 0 0 none) me) =
    reads _ c.args.seat.now.id me i c.requires.asks (subst (λ (p : Planning). i < 4 * cells_to p me.0.count) (sym c.requires.seat.1) c.requires.known) in
    (c.requires.seat.0, omega (arith, b.sized, c.requires.known, level-inside b.plan me.0.count c.requires.seat.3), rw (add-one i) ok)

pub returns-clause-seat : goal.returns-clause-seat
returns-clause-seat c = let e = c.load.ensures in λ i. record { marker = c.args.seat.now.marker; table_id = e.0 i; id = e.1 i; me = e.2.0 i }
