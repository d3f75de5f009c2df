use Rattle.std.proofs.Common.{arith, ◌≡◌, refl, ap, sym, subst, ◌∙◌, length, ◌++◌, ◌∷◌, [], ◌-◌, ◌+◌, ◌*◌, ◌≤◌}
use Rattle.index_lists.proofs.Words.{on_ok_weaker, IsSortedFrom, key_of, covers, looked_up, keys_at, found}
use Rattle.index_lists.proofs.ListingLemmas.{append-none}
use Rattle.index_lists.proofs.LevelLemmas.{keys_at-found, keys_at-none}
use Rattle.index_lists.proofs.listing.add_genus.Goals as goal

pub returns-then-places-eq0-clause-listed : goal.returns-then-places-eq0-clause-listed
returns-then-places-eq0-clause-listed c = append-none c.args.keys.now.items (keys_at-none (looked_up c.args.tensors.now) c.args.level c.args.genus (omega arith))

pub add_lists-requires-clause-sorted : goal.add_lists-requires-clause-sorted
unfolding IsSortedFrom
add_lists-requires-clause-sorted c = subst (λ l. IsSortedFrom 0 256 (l ++ 0 ∷ [])) (sym c.new-prefix.ensures) (omega arith, omega arith, tt)

-- what the window that was made says, and what is found with it
listed_is : (c : goal.After-add_lists) → keys_at (looked_up c.args.tensors.now) c.args.level c.args.genus ≡ found (record { genus = c.args.genus; dim = c.dim.result; window = c.of.result }) c.new-prefix.result.items (c.args.level + 2 - 2 * c.args.genus) 0 0
unfolding looked_up
listed_is c =
    let most : c.args.tensors.now.dim ≤ 72 = c.soundness_fact.ensures.entries.most in
    keys_at-found (looked_up c.args.tensors.now) c.args.level c.args.genus (c.args.level + 2 - 2 * c.args.genus) c.of.result refl (omega arith) (omega arith) most (record { says = λ xs e h. ap (λ s. covers s (key_of c.args.genus xs)) (sym c.shape.ensures) ∙ c.of.ensures xs e h })
    ∙ ap (λ d. found (record { genus = c.args.genus; dim = d; window = c.of.result }) [] (c.args.level + 2 - 2 * c.args.genus) 0 0) (sym c.dim.ensures)
    ∙ ap (λ l. found (record { genus = c.args.genus; dim = c.dim.result; window = c.of.result }) l (c.args.level + 2 - 2 * c.args.genus) 0 0) (sym c.new-prefix.ensures)

pub returns-clause-listed : goal.returns-clause-listed
returns-clause-listed c = on_ok_weaker c.add_lists.result (λ h. h ∙ ap (λ k. c.args.keys.now.items ++ k) (sym (listed_is c))) c.add_lists.ensures.listed

pub returns-clause-full : goal.returns-clause-full
returns-clause-full c = λ f. omega (arith, c.add_lists.ensures.full f, ap length (listed_is c))
