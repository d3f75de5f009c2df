use Rattle.std.proofs.Common.{arith, ap, ap₂, length, ◌∙◌, ◌≡◌, ◌≤◌, ◌<◌, sym, subst, true, false, ltb}
use Rattle.amp_plan.proofs.Words.{euler, covers, place_of, Planning, tensors_of, keys_of, rank_at, place_in, are_below, AreInOrder, At, Zero, Beyond, BadIndex}
use Rattle.amp_plan.proofs.PlanLemmas.{beyond, zero_there, bad_index, at_rank, planned_there}
use Rattle.amp_plan.proofs.ranking.Ranking.rank_of.Goals as goal

pub returns-then-euler-from : goal.returns-then-euler-from
returns-then-euler-from c =
    let p : Planning = record { tensors = c.self.inside.tensors; bound = c.self.inside.bound } in
    let above : ltb c.self.inside.bound (euler c.args.key.now.g (length c.args.key.now.idx)) ≡ true = grind arith in
    subst (λ v. Beyond ≡ place_in v c.args.key.now) c.self.view_is (sym (beyond p c.args.key.now above))

pub returns-then-not-covers : goal.returns-then-not-covers
returns-then-not-covers c =
    let p : Planning = record { tensors = c.self.inside.tensors; bound = c.self.inside.bound } in
    let above : ltb c.self.inside.bound (euler c.args.key.now.g (length c.args.key.now.idx)) ≡ false = grind arith in
    let covered : covers c.self.inside.tensors.shape c.args.key.now ≡ false = ap (λ s. covers s c.args.key.now) (sym c.shape.ensures) ∙ sym c.covers.ensures ∙ c.if-not-covers.true in
    subst (λ v. Zero ≡ place_in v c.args.key.now) c.self.view_is (sym (zero_there p c.args.key.now above covered))

pub returns-then-not-are_below : goal.returns-then-not-are_below
returns-then-not-are_below c =
    let p : Planning = record { tensors = c.self.inside.tensors; bound = c.self.inside.bound } in
    let above : ltb c.self.inside.bound (euler c.args.key.now.g (length c.args.key.now.idx)) ≡ false = grind arith in
    let covered : covers c.self.inside.tensors.shape c.args.key.now ≡ true = ap (λ s. covers s c.args.key.now) (sym c.shape.ensures) ∙ sym c.covers.ensures ∙ c.if-not-covers.false in
    let small : are_below c.self.inside.tensors.dim c.args.key.now.idx ≡ false = sym (c.are_below.ensures ∙ ap₂ are_below c.dim.ensures c.idx.ensures) ∙ c.if-not-are_below.true in
    subst (λ v. BadIndex ≡ place_in v c.args.key.now) c.self.view_is (sym (bad_index p c.args.key.now above covered small))

pub place_among-requires-clause-few : goal.place_among-requires-clause-few
place_among-requires-clause-few c = omega (arith, c.self.invariant.few, ap length c.self.invariant.keys, ap length c.keys.ensures)

pub place_among-requires-clause-order : goal.place_among-requires-clause-order
unfolding keys_of
place_among-requires-clause-order c =
    let p : Planning = record { tensors = c.self.inside.tensors; bound = c.self.inside.bound } in
    subst AreInOrder (sym (c.keys.ensures ∙ c.self.invariant.keys)) (c.plan_ascends.ensures.strictly (tensors_of p) p.bound).all

pub place_among-requires-clause-there : goal.place_among-requires-clause-there
unfolding keys_of
place_among-requires-clause-there c =
    let p : Planning = record { tensors = c.self.inside.tensors; bound = c.self.inside.bound } in
    let level : euler c.args.key.now.g (length c.args.key.now.idx) ≤ c.self.inside.bound = omega (arith, c.if-euler-from.false, c.from.ensures, c.euler.ensures) in
    let covered : covers c.self.inside.tensors.shape c.args.key.now ≡ true = ap (λ s. covers s c.args.key.now) (sym c.shape.ensures) ∙ sym c.covers.ensures ∙ c.if-not-covers.false in
    let small : are_below c.self.inside.tensors.dim c.args.key.now.idx ≡ true = sym (c.are_below.ensures ∙ ap₂ are_below c.dim.ensures c.idx.ensures) ∙ c.if-not-are_below.false in
    subst (λ l. place_of c.args.key.now l < length l) (sym (c.keys.ensures ∙ c.self.invariant.keys))
    ((c.planned_once.ensures (tensors_of p) p.bound).all c.args.key.now (planned_there p c.args.key.now c.validity_fact.ensures level covered small))

pub returns : goal.returns
unfolding rank_at
returns c =
    let p : Planning = record { tensors = c.self.inside.tensors; bound = c.self.inside.bound } in
    let above : ltb c.self.inside.bound (euler c.args.key.now.g (length c.args.key.now.idx)) ≡ false = grind arith in
    let covered : covers c.self.inside.tensors.shape c.args.key.now ≡ true = ap (λ s. covers s c.args.key.now) (sym c.shape.ensures) ∙ sym c.covers.ensures ∙ c.if-not-covers.false in
    let small : are_below c.self.inside.tensors.dim c.args.key.now.idx ≡ true = sym (c.are_below.ensures ∙ ap₂ are_below c.dim.ensures c.idx.ensures) ∙ c.if-not-are_below.false in
    subst (λ v. At c.place_among.result ≡ place_in v c.args.key.now) c.self.view_is (ap At (c.place_among.ensures ∙ ap (place_of c.args.key.now) (c.keys.ensures ∙ c.self.invariant.keys)) ∙ sym (at_rank p c.args.key.now above covered small))
