-- The products of the splits of a list, run by run.
use Rattle.std.proofs.Common.{◌≡◌, ℕ, suc, List, [], ◌∷◌, map, sym, ap, ◌∙◌}
use Rattle.amp_plan.proofs.Words.{Split, each, put_before, chosen_split, all_splits, splits-all, Planning, RankedTerm, split_part, genus_part, more_of, no_split, choice_part, Share}
use Rattle.airy_math.specs.Splits.{runs}
use Rattle.airy_math.specs.Sums.{below}
use Rattle.index_lists.specs.Parts.{behind}
use Rattle.airy_math.proofs.EachLemmas.{each-cong, each-each, each-map}
use Rattle.index_lists.proofs.SplitLemmas.{each-one, behind-more, behind-end, behind-none}

-- by how many copies of the first run's index the part takes
pub choices-more : (p : Planning) (h : Share) (s : Split) (r : ℕ × ℕ) (rs : List (ℕ × ℕ)) → choice_part p h s (r ∷ rs) ≡ each (below (suc r.1)) (λ t. choice_part p h (more_of s r t) rs)
unfolding choice_part all_splits
choices-more p h s r rs =
    let f : Split → List RankedTerm = split_part p h.genus h.pair.now.a h.pair.now.b h.pair.now.weight h.k in
    each-each (λ u. f (behind s u)) (λ t. map (put_before r.0 r.1 t) (all_splits rs)) (below (suc r.1))
    ∙ each-cong (λ t. each (map (put_before r.0 r.1 t) (all_splits rs)) (λ u. f (behind s u))) (λ t. each (all_splits rs) (λ u. f (behind (more_of s r t) u))) (below (suc r.1)) (λ t.
    each-map (λ u. f (behind s u)) (put_before r.0 r.1 t) (all_splits rs)
    ∙ each-cong (λ u. f (behind s (put_before r.0 r.1 t u))) (λ u. f (behind (more_of s r t) u)) (all_splits rs) (λ u. ap f (behind-more s u r t)))

pub choices-end : (p : Planning) (h : Share) (s : Split) → choice_part p h s [] ≡ split_part p h.genus h.pair.now.a h.pair.now.b h.pair.now.weight h.k s
unfolding choice_part all_splits
choices-end p h s =
    let f : Split → List RankedTerm = split_part p h.genus h.pair.now.a h.pair.now.b h.pair.now.weight h.k in
    each-one (λ u. f (behind s u)) (chosen_split []) ∙ ap f (behind-end s)

-- the products of all splits of a list
pub choices-all : (p : Planning) (h : Share) (I : List ℕ) → choice_part p h no_split (runs I) ≡ genus_part p h.genus I h.pair.now.a h.pair.now.b h.pair.now.weight h.k
unfolding choice_part genus_part
choices-all p h I =
    let f : Split → List RankedTerm = split_part p h.genus h.pair.now.a h.pair.now.b h.pair.now.weight h.k in
    each-cong (λ u. f (behind no_split u)) f (all_splits (runs I)) (λ u. ap f (behind-none u)) ∙ ap (λ ss. each ss f) (sym (splits-all I))
