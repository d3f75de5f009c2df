use Rattle.std.proofs.Common.{rules, arith, ◌≡◌, get_or}
use Rattle.key_index.specs.Codes.{code_of_index}
use Rattle.key_index.proofs.CodeLemmas.{index_code-small}
use Rattle.key_index.proofs.index.KeyIndex.index_code.Goals as goal

pub returns-clause-small : goal.returns-clause-small
returns-clause-small c =
    let code : get_or c.self.inside.codes c.args.index 0 ≡ code_of_index c.args.index = search rules in
    omega (arith, code, index_code-small c.args.index)
