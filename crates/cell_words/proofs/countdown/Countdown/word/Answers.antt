use Rattle.std.proofs.Common.{◌≡◌, ℕ, suc, ◌+◌, ◌*◌, arith, sym, ap, ◌∙◌, subst, Some}
use Rattle.cell_words.proofs.Names.{none, Allows, step, Planning, code_of, outcome_at, IsSized, Known, view_in}
use Rattle.cell_words.specs.Countdown.{Keeps, Read}
use Rattle.cell_words.proofs.StepLemmas.{reads}
use Rattle.cell_words.proofs.SeatLemmas.{token_in, live}
use Rattle.cell_words.proofs.countdown.Countdown.word.Goals as goal

pub load-requires : goal.load-requires
load-requires c =
    let b = c.args.self.now in let x = c.in-Some.place in let r : ℕ = c.args.rank in let k : ℕ = c.args.at in
    let q = token_in b c.args.seat.now x c.in-Some.is c.requires.token in
    let slots = b.table.shared.table_id.slots in
    let ok : Allows Keeps slots x.id x.me (5 * r + suc k) (λ n. n) (Read (step slots (5 * r + suc k) 0 0 none) x.me)
    = reads _ x.id x.me r k (live b x q) (subst (λ o. Known (view_in o) r) c.in-Some.is c.requires.known) c.requires.at in
    let at : 5 * r + k + 1 ≡ 5 * r + suc k = omega arith in
    (q.table, omega (arith, b.sized, c.requires.rank), rw at ok)

pub returns : goal.returns
returns c =
    let b = c.args.self.now in let s = c.args.seat.now in let x = c.in-Some.place in let r : ℕ = c.args.rank in let k : ℕ = c.args.at in let e = c.load.ensures in
    let q = token_in b s x c.in-Some.is c.requires.token in
    let at : 5 * r + k + 1 ≡ 5 * r + suc k = omega arith in
    let same : Some c.load.new.seat ≡ s.place = (λ i. Some (record { marker = x.marker; table_id = e.0 i; id = e.1 i; me = e.2.0 i })) ∙ sym c.in-Some.is in
    let read = e.2.1 r k at c.requires.at in record {
      seat = λ i. record { place = same i; number = s.number; held = s.held; done = s.done };
      value = read.0 ∙ ap (λ (p : Planning). code_of p r k) q.plan;
      sized = subst (λ (p : Planning). IsSized (outcome_at p r)) q.plan read.1;
    }
