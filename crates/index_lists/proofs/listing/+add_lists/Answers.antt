use Rattle.std.proofs.Common.{arith, ◌≡◌, ap, sym, subst, ◌∙◌, length, ◌++◌, ◌∷◌, [], ◌-◌, ◌+◌, take}
use Rattle.index_lists.proofs.Words.{err_from_is_err_and, on_ok_weaker, IsSortedFrom, key_of, found}
use Rattle.std.proofs.lemmas.List.{length_push}
use Rattle.index_lists.proofs.ListingLemmas.{sorted-front, sorted-next, found-key, found-no_key, found-end, listed-more, listed-same, too_many, popped, append-none}
use Rattle.index_lists.proofs.listing.+add_lists.Goals as goal
use Rattle.index_lists.proofs.listing.+add_lists.Goals.{then-can_reach+in_ok-done, else-can_reach}

pub returns-then-not-has-clause-listed : goal.returns-then-not-has-clause-listed
returns-then-not-has-clause-listed t c = append-none c.args.keys.now.items (found-no_key c.args.listing.now c.args.prefix.now.items c.args.places c.args.least c.args.sum (omega arith) (sym c.has.ensures ∙ c.if-not-has.true))

pub add_key-requires-clause-sorted : goal.add_key-requires-clause-sorted
add_key-requires-clause-sorted t c = subst (IsSortedFrom 0 256) (sym c.as_slice.ensures.value) (sorted-front 0 256 c.args.least c.args.prefix.now.items c.requires.sorted)

pub returns-then-places-eq0-clause-listed : goal.returns-then-places-eq0-clause-listed
returns-then-places-eq0-clause-listed t c =
    let e = found-key c.args.listing.now c.args.prefix.now.items c.args.places c.args.least c.args.sum (omega arith) (sym c.has.ensures ∙ c.if-not-has.false) in
    on_ok_weaker c.add_key.result (λ h. h ∙ ap (λ k. c.args.keys.now.items ++ k) (ap (λ i. key_of c.args.listing.now.genus i ∷ []) c.as_slice.ensures.value ∙ sym e)) c.add_key.ensures.added

pub returns-then-places-eq0-clause-full : goal.returns-then-places-eq0-clause-full
returns-then-places-eq0-clause-full t c = λ f.
    let e = found-key c.args.listing.now c.args.prefix.now.items c.args.places c.args.least c.args.sum (omega arith) (sym c.has.ensures ∙ c.if-not-has.false) in
    omega (arith, c.add_key.ensures.full f, ap length e)

pub add_lists-done-requires : goal.add_lists-done-requires
add_lists-done-requires t c =
    let items : c.push.new.self.items ≡ c.args.prefix.now.items ++ c.loop-index.index ∷ [] = c.push.ensures.items ∙ ap (λ v. v.items ++ c.loop-index.index ∷ []) c.loop-index.invariant.prefix in
    let n : length c.push.new.self.items ≡ length c.args.prefix.now.items + 1 = ap length items ∙ length_push c.args.prefix.now.items c.loop-index.index in
    let sorted : IsSortedFrom 0 256 (c.push.new.self.items ++ c.loop-index.index ∷ []) = subst (λ l. IsSortedFrom 0 256 (l ++ c.loop-index.index ∷ [])) (sym items) (sorted-next 0 256 c.args.least c.loop-index.index c.args.prefix.now.items c.requires.sorted (omega arith) (omega arith)) in
    (omega arith, (omega arith, (omega arith, (omega arith, (omega arith, (sorted, (omega arith, omega arith)))))))

pub returns-in_err-done-clause-full : goal.returns-in_err-done-clause-full
returns-in_err-done-clause-full t c = λ e.
    let p = err_from_is_err_and c.from_residual.result c.from_residual.ensures.1 in
    let items : c.push.new.self.items ≡ c.args.prefix.now.items ++ c.loop-index.index ∷ [] = c.push.ensures.items ∙ ap (λ v. v.items ++ c.loop-index.index ∷ []) c.loop-index.invariant.prefix in
    too_many c.args.listing.now c.args.prefix.now.items c.push.new.self.items c.args.places c.loop-index.index c.args.sum c.loop-index.keys.items (found c.args.listing.now c.args.prefix.now.items c.args.places c.args.least c.args.sum) c.args.keys.now.items (omega arith) (omega arith) items (c.add_lists-done.ensures.full (cc (p.1, p.2, c.in_err-done.was))) c.loop-index.invariant.listed

pub loop-index-preserved : goal.loop-index-preserved
loop-index-preserved t c = elim c.if-can_reach.branch [
  | then-can_reach+in_ok-done w ↦
      let items : w.push.new.self.items ≡ c.args.prefix.now.items ++ c.loop-index.index ∷ [] = w.push.ensures.items ∙ ap (λ v. v.items ++ c.loop-index.index ∷ []) c.loop-index.invariant.prefix in
      let front : w.pop.new.self.items ≡ c.args.prefix.now.items = popped c.args.prefix.now.items w.pop.new.self.items c.loop-index.index (w.pop.ensures.rest ∙ ap (λ l. take (length l - 1) l) (ap (λ v. v.items) w.add_lists-done.ensures.prefix ∙ items)) in
      record {
        prefix = w.prefix-is ∙ (λ i. record { items = front i });
        few = rw w.keys-is w.in_ok-done.ensures.few;
        listed = rw w.keys-is (listed-more c.args.listing.now c.args.prefix.now.items w.push.new.self.items c.args.places c.loop-index.index c.args.sum c.loop-index.keys.items w.add_lists-done.new.keys.items (c.args.keys.now.items ++ found c.args.listing.now c.args.prefix.now.items c.args.places c.args.least c.args.sum) (omega arith) (omega arith) items w.in_ok-done.ensures.listed c.loop-index.invariant.listed);
      }
  | else-can_reach w ↦ record {
    prefix = w.prefix-is ∙ c.loop-index.invariant.prefix;
    few = rw w.keys-is c.loop-index.invariant.few;
    listed = rw w.keys-is (listed-same c.args.listing.now c.args.prefix.now.items c.args.places c.loop-index.index c.args.sum c.loop-index.keys.items (c.args.keys.now.items ++ found c.args.listing.now c.args.prefix.now.items c.args.places c.args.least c.args.sum) (omega arith) (omega arith) (sym c.can_reach.ensures ∙ w.if-can_reach.false) c.loop-index.invariant.listed);
  }
]

pub returns-clause-listed : goal.returns-clause-listed
returns-clause-listed t c =
    append-none c.loop-index.keys.items (found-end c.args.listing.now c.args.prefix.now.items c.args.places c.loop-index.index c.args.sum (omega arith) (omega arith)) ∙ c.loop-index.invariant.listed
