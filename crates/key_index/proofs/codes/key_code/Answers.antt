use Rattle.std.proofs.Common.{arith, ap, length}
use Rattle.key_index.proofs.CodeLemmas.{list_code-small}
use Rattle.key_index.proofs.codes.key_code.Goals as goal

pub overflow_add-result : goal.overflow_add-result
overflow_add-result c = omega (arith, c.genus_code.ensures.small, c.list_code.ensures, list_code-small c.idx.result.now, ap length c.idx.ensures, c.validity_fact.ensures.room)
