-- A walk over the splits of a list begins with nothing chosen.
use Rattle.std.proofs.Common.{◌≡◌, ℕ, ◌≤◌, ◌^◌, List, [], ◌∷◌, length, refl, sym, ap, subst, ◌∙◌, arith, lit≤, pos}
use Rattle.amp_plan.proofs.Words.{AllByRecursion, pow-le-pow_right, IsSortedFrom, per_n, splits, whole_length, looked_up, Planning, tensors_of, RankedTerm, HasRoom, IsPartOf, genus_part, IsMeasured, no_split, of_share, IsShare, FitsShare, IsChosen, Share}
use Rattle.airy_math.specs.Splits.{runs}
use Rattle.index_lists.specs.Measures.{gain, loss}
use Rattle.amp_plan.specs.declared.pair.Pair.{Pair}
use Rattle.amp_plan.proofs.SplitWalkLemmas.{part_of}
use Rattle.index_lists.proofs.SplitLemmas.{all-both, fits-all}
use Rattle.index_lists.proofs.MeasureLemmas.{measured-none}
use Rattle.index_lists.proofs.RestLemmas.{AddUp, splits-add, measured-whole, all-standing, listed-runs}
use Rattle.airy_index.proofs.RunLemmas.{whole_length-runs}

sorted-weaken : (k m n : ℕ) (xs : List ℕ) → m ≤ n → IsSortedFrom k m xs → IsSortedFrom k n xs
unfolding IsSortedFrom
sorted-weaken k m n [] l s = tt
sorted-weaken k m n (x ∷ xs) l s = (s.0, omega (arith, l, s.1), sorted-weaken x m n xs l s.2)

-- each split of the list fits the share
pub all_fit : (p : Planning) (h : Share) (I : List ℕ) → IsShare p h → HasRoom (tensors_of p) p.bound h.genus I → IsMeasured h.per_n (h.pair.now.b ∷ I) h.right → AllByRecursion (FitsShare p h) (splits I)
unfolding tensors_of looked_up
all_fit p h I is room right =
    let few : length I ≤ 25 = omega (arith, room.level, is.bound) in
    let bytes : IsSortedFrom 0 256 I = sorted-weaken 0 p.tensors.dim 256 I (omega (arith, is.dim)) room.sorted in
    all-both (IsPartOf (tensors_of p) p.bound h.genus h.k) (λ u. AddUp h.per_n u.part u.rest I) (FitsShare p h) (splits I)
    (λ u part add. record { is_part = part; right = measured-whole h.per_n h.pair.now.b u.part u.rest I h.right add right })
    (all-standing (IsPartOf (tensors_of p) p.bound h.genus h.k) [] (splits I) (splits I) refl (λ before after u e. part_of (tensors_of p) p.bound h.genus h.k I before after u room few bytes is.genus e))
    (splits-add h.per_n I)

pub chosen_first : {p : Planning} {h : Share} {I : List ℕ} {up down : ℕ} → IsShare p h → HasRoom (tensors_of p) p.bound h.genus I → IsMeasured h.per_n (h.pair.now.b ∷ I) h.right → up ≡ gain h.per_n I → down ≡ loss h.per_n I
    → IsChosen p h (runs I) (record { part = record { places = 0; excess = pos 0; code = 0 }; ways = 1; gain = up; loss = down }) no_split
unfolding no_split
chosen_first {p} {h} {I} {up} {down} is room right e f =
    let few : length I ≤ 25 = omega (arith, room.level, is.bound) in
    let short : whole_length (runs I) ≤ 25 = omega (arith, few, whole_length-runs I) in
    let power : 2 ^ whole_length (runs I) ≤ 2 ^ 25 = pow-le-pow_right (lit≤ tt) short in
    record {
      part = measured-none h.per_n;
      ways = refl;
      gain = e ∙ ap (gain h.per_n) (sym (listed-runs I));
      loss = f ∙ ap (loss h.per_n) (sym (listed-runs I));
      fits = fits-all (FitsShare p h) I (all_fit p h I is room right);
      bytes = tt;
      few = omega (arith, short);
      small = omega (arith, power);
    }

-- A share of a pair and a genus, with what a walk over it asks.
pub record IsBegun (p : Planning) (h : Share) (I : List ℕ) (products : List RankedTerm) : Type 0 where
  pub room : HasRoom (tensors_of p) p.bound h.genus I
  pub right : IsMeasured h.per_n (h.pair.now.b ∷ I) h.right
  pub all : of_share p h I ≡ products

pub begun : {p : Planning} {h : Share} {I : List ℕ} {g k : ℕ} {pair : Pair} → IsShare p h → h.genus ≡ g → h.k ≡ k → h.pair.now ≡ pair → HasRoom (tensors_of p) p.bound g I → IsMeasured (per_n p.tensors.shape) (pair.b ∷ I) h.right
    → IsBegun p h I (genus_part p g I pair.a pair.b pair.weight k)
unfolding of_share
begun {p} {h} {I} {g} {k} {pair} is e f i room right = record {
  room = subst (λ n. HasRoom (tensors_of p) p.bound n I) (sym e) room;
  right = subst (λ z. IsMeasured z (h.pair.now.b ∷ I) h.right) (sym is.law) (subst (λ (q : Pair). IsMeasured (per_n p.tensors.shape) (q.b ∷ I) h.right) (sym i) right);
  all = λ j. genus_part p (e j) I (i j).a (i j).b (i j).weight (f j);
}
