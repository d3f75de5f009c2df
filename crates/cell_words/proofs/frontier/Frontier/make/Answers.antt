use Rattle.std.proofs.Common.{rules, ◌∷◌, ◌≡◌, ℕ, ◌+◌, ◌*◌, [], length, arith, refl, sym, ap, ◌∙◌, replicate, get_or, take, List}
use Rattle.std.proofs.lemmas.List.{get_or-replicate, length-replicate}
use Rattle.cell_words.proofs.Names.{cells, all_outcomes, Outcome}
use Rattle.cell_words.proofs.LevelSteps.{begins}
use Rattle.cell_words.proofs.LevelLemmas.{no-levels}
use Rattle.cell_words.specs.Levels.{first_view, settled}
use Rattle.cell_words.specs.declared.level_view.View.{View}
use Rattle.cell_words.proofs.frontier.Frontier.make.Goals as goal

pub of_words-requires : goal.of_words-requires
of_words-requires c =
    let p = c.args.plan in
    let n : ℕ = 4 * cells p + 1 in
    let words = c.as_slice.ensures.value ∙ c.in-Ok.ensures.words ∙ ap (λ k. replicate (4 * k + 1) 0) c.len.ensures in
    begins p _ (no-levels p) (ap (λ ws. get_or ws 0 0) words ∙ get_or-replicate n 0 0 0 (omega arith)) (ap length words ∙ length-replicate n 0 ∙ omega arith)

none : (l : List Outcome) → length l ≡ 0 → l ≡ []
none [] h = refl
none (o ∷ l) h = absurd (omega arith)

pub returns-clause-filler : goal.returns-clause-filler
returns-clause-filler c =
    let p = c.args.plan in let room = c.in-Ok.room.outcomes in let start = no-levels p in
    let e : c.askers-seats.new.filler.me.0 ≡ first_view p = search rules in
    let empty : length room.items ≡ 0 = omega (arith, room.ok.0, c.in-Ok.ensures.outcomes.0) in (
      record {
        of = c.askers-seats.ensures.filler.0;
        fills = ap (λ (v : View). v.role) e;
        published = sym (ap (λ (v : View). v.count) e);
        written = ap settled e ∙ omega arith;
        outcomes = none room.items empty ∙ sym (ap (λ n. take n (all_outcomes p)) start);
        room = omega (arith, c.in-Ok.ensures.outcomes.1, c.len.ensures);
      },
      refl,
    )
