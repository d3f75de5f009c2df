use Rattle.std.proofs.Common.{◌≡◌, suc, ◌+◌, arith}
use Rattle.airymore.proofs.Words.{from_any, place}
use Rattle.airymore.proofs.PlaceLemmas.{next_a, next_i, next_j, next_none}
use Rattle.airymore.proofs.places.next_place.Goals as goal

pub returns-then-a-dim-clause-behind : goal.returns-then-a-dim-clause-behind
unfolding from_any place
returns-then-a-dim-clause-behind c = let p = c.args.place in next_a c.args.dim p.i p.j p.a (p.a + 1) (omega arith) (omega arith)

pub returns-then-j-dim-clause-behind : goal.returns-then-j-dim-clause-behind
unfolding from_any place
returns-then-j-dim-clause-behind c =
    let p = c.args.place in
    let last : suc p.a ≡ c.args.dim = omega arith in
    next_j c.args.dim p.i p.j p.a (p.j + 1) last (omega arith) (omega arith)

pub returns-then-i-dim-clause-behind : goal.returns-then-i-dim-clause-behind
unfolding from_any place
returns-then-i-dim-clause-behind c =
    let p = c.args.place in
    let last : suc p.a ≡ c.args.dim = omega arith in
    let end : suc p.j ≡ c.args.dim = omega arith in
    next_i c.args.dim p.i p.j p.a (p.i + 1) (p.i + 2) last end (omega arith) (omega arith) (omega arith)

pub returns-clause-behind : goal.returns-clause-behind
unfolding from_any place
returns-clause-behind c =
    let p = c.args.place in
    let last : suc p.a ≡ c.args.dim = omega arith in
    let end : suc p.j ≡ c.args.dim = omega arith in
    next_none c.args.dim p.i p.j p.a last end (omega arith) (omega arith)
