use Rattle.std.proofs.Common.{arith, sym, ap, ◌∙◌, ◌*◌, ◌%◌, ℕ, length-set, refl}
use lib.ListN.{length-replicate}
use Rattle.key_index.specs.Codes.{code_of_index, code_root, code_prime}
use Rattle.key_index.proofs.CodeLemmas.{codes-more, index_code-next}
use Rattle.key_index.proofs.codes.index_codes.Goals as goal

pub loop-index-init : goal.loop-index-init
unfolding code_of_index code_root
loop-index-init c = record { code = refl; long = length-replicate {A = ℕ} 256 0; before = λ x h. absurd (omega arith) }

pub loop-index-preserved : goal.loop-index-preserved
loop-index-preserved c =
    record {
      code = c.next_code-code.ensures ∙ ap (λ n. n * code_root % code_prime) c.loop-index.invariant.code ∙ sym (index_code-next c.loop-index.index);
      long = length-set c.loop-index.codes c.loop-index.index c.loop-index.code ∙ c.loop-index.invariant.long;
      before = codes-more c.loop-index.codes c.loop-index.index c.loop-index.code (omega (arith, c.loop-index.invariant.long, c.loop-index-test.true)) c.loop-index.invariant.code c.loop-index.invariant.before;
    }
