use Rattle.std.proofs.Common.{◌≡◌, ℕ, ◌+◌, ◌*◌, arith, ap, ◌∙◌}
use Rattle.cell_words.proofs.Names.{outcome_at, value_word}
use Rattle.cell_words.proofs.LevelLemmas.{word-of-rank}
use Rattle.cell_words.proofs.frontier.Frontier.outcome.Goals as goal

pub decode-requires : goal.decode-requires
decode-requires c =
    let p = c.args.self.now.plan in let r : ℕ = c.args.rank in
    let first : 4 * r ≡ 4 * r + 0 = omega arith in
    record {
      outcome = outcome_at p r;
      sized = c.requires.sized;
      first = c.load_word-a.ensures.value ∙ ap (value_word p) first ∙ word-of-rank p r 0 (omega arith);
      second = c.load_word-b.ensures.value ∙ word-of-rank p r 1 (omega arith);
      third = c.load_word-c.ensures.value ∙ word-of-rank p r 2 (omega arith);
      fourth = c.load_word-d.ensures.value ∙ word-of-rank p r 3 (omega arith);
    }

pub returns-clause-value : goal.returns-clause-value
returns-clause-value c =
    let p = c.args.self.now.plan in let r : ℕ = c.args.rank in
    let first : 4 * r ≡ 4 * r + 0 = omega arith in
    c.decode.ensures (outcome_at p r) c.requires.sized (c.load_word-a.ensures.value ∙ ap (value_word p) first ∙ word-of-rank p r 0 (omega arith)) (c.load_word-b.ensures.value ∙ word-of-rank p r 1 (omega arith))
    (c.load_word-c.ensures.value ∙ word-of-rank p r 2 (omega arith)) (c.load_word-d.ensures.value ∙ word-of-rank p r 3 (omega arith))
