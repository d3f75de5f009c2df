use Rattle.std.proofs.Common.{arith}
use Rattle.airymore.proofs.Words.{from_any, place}
use Rattle.airymore.proofs.PlaceLemmas.{first_none, first_of}
use Rattle.airymore.proofs.places.first_place.Goals as goal

pub returns-then-dim-lt2-clause-all : goal.returns-then-dim-lt2-clause-all
unfolding from_any
returns-then-dim-lt2-clause-all c = first_none c.args.dim (omega arith)

pub returns-clause-all : goal.returns-clause-all
unfolding from_any place
returns-clause-all c = first_of c.args.dim (omega arith)
