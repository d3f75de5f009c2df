use Rattle.std.proofs.Common.{◌+◌, arith}
use Rattle.constraint_check.proofs.PieceLemmas.{cut_up, cut_within}
use Rattle.constraint_check.proofs.crew.pass_piece.Goals as goal

pub pass-requires-clause-from : goal.pass-requires-clause-from
pass-requires-clause-from c = omega (arith, c.cut-from.ensures, c.cut-to.ensures, cut_up c.len-len.result c.args.pieces c.args.k)

pub pass-requires-clause-to : goal.pass-requires-clause-to
pass-requires-clause-to c = omega (arith, c.cut-to.ensures, c.len-len.ensures, cut_within c.len-len.result c.args.pieces (c.args.k + 1) (omega (arith, c.requires.pieces.0)))

pub returns : goal.returns
returns c = rw (← c.len-len.ensures, ← c.cut-from.ensures, ← c.cut-to.ensures) c.pass.ensures
