use Rattle.std.proofs.Common.{rules, ◌≡◌, to_z, of_z, ap, ◌∙◌, Some}
use Rattle.std.specs.Int.{w128}
use Rattle.running_sum.proofs.UnreducedLemmas.{some_of}
use Rattle.running_sum.proofs.words.Word.unreduced.Goals as goal

pub returns : goal.returns
returns c =
    let n : to_z w128 (of_z w128 c.from.result) ≡ c.self.inside.num = search rules in
    let o : c.from-2.result ≡ c.self.inside.odd = search rules in
    rw (n, o) (some_of c.self.inside.num c.self.inside.odd c.self.inside.twos c.self.invariant.odd_above ∙ ap Some c.self.view_is)
