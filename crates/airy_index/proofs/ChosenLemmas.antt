-- A split that is put together run by run.
use Rattle.std.proofs.Common.{◌≡◌, ℕ, ◌+◌, ◌-◌, ◌*◌, ◌^◌, ◌≤◌, List, [], ◌∷◌, ◌++◌, map, length, refl, sym, ◌∙◌, ap, arith, append_assoc, length-append, append-nil, pow-add, replicate}
use Rattle.std.proofs.lemmas.List.{length-replicate}
use Rattle.airy_index.proofs.Words.{mul-le-mul, pow-le-pow_right, total, Split, binomial, Run, counts_of, whole_length, put_before, chosen_split, IsChoice, IsWalk}
use Rattle.std.proofs.Math.Nat.{mul_assoc, one-le-pow}
use Rattle.airy_index.proofs.BinomialLemmas.{binomial-small}

-- What is built and what the runs left choose make the split that all runs choose, and there is room for it.
pub record IsBuilt (taken kept : List ℕ) (weight : ℕ) (left all : List Run) : Type 0 where
  pub part : taken ++ (chosen_split left).part ≡ (chosen_split all).part
  pub rest : kept ++ (chosen_split left).rest ≡ (chosen_split all).rest
  pub ways : weight * (chosen_split left).ways ≡ (chosen_split all).ways
  pub choice : IsChoice left
  pub room : length taken + length kept + whole_length (counts_of left) ≤ 25
  pub small : weight * 2 ^ whole_length (counts_of left) ≤ 2 ^ 25

pub built_none : (all : List Run) → IsWalk all → IsBuilt [] [] 1 all all
built_none all h = record {
  part = refl;
  rest = refl;
  ways = omega arith;
  choice = h.choice;
  room = omega (arith, h.short);
  small = let h : 2 ^ whole_length (counts_of all) ≤ 2 ^ 25 = pow-le-pow_right (omega arith) h.short in omega arith;
}

pub small_more : (w b x y n : ℕ) → w * 2 ^ (x + y) ≤ n → b ≤ 2 ^ x → (w * b) * 2 ^ y ≤ n
small_more w b x y n h k =
    let first : w * b ≤ w * 2 ^ x = mul-le-mul (let self : w ≤ w = omega arith in self) k in
    let both : (w * b) * 2 ^ y ≤ (w * 2 ^ x) * 2 ^ y = mul-le-mul first (let self : 2 ^ y ≤ 2 ^ y = omega arith in self) in
    let same : (w * 2 ^ x) * 2 ^ y ≡ w * 2 ^ (x + y) = mul_assoc w (2 ^ x) (2 ^ y) ∙ ap (λ p. w * p) (sym (pow-add 2 x y)) in
    omega (arith, both, same, h)

pub built_more : (part rest : List ℕ) (weight : ℕ) (r : Run) (left all : List Run) → IsBuilt part rest weight (r ∷ left) all
    → IsBuilt (part ++ replicate r.taken r.index) (rest ++ replicate (r.count - r.taken) r.index) (weight * binomial r.count r.taken) left all
unfolding chosen_split put_before IsChoice whole_length total
built_more part rest weight r left all h = record {
  part = append_assoc part (replicate r.taken r.index) (chosen_split left).part ∙ h.part;
  rest = append_assoc rest (replicate (r.count - r.taken) r.index) (chosen_split left).rest ∙ h.rest;
  ways = mul_assoc weight (binomial r.count r.taken) (chosen_split left).ways ∙ h.ways;
  choice = h.choice.1;
  room = omega (arith, h.room, h.choice.0, length-append part (replicate r.taken r.index), length-append rest (replicate (r.count - r.taken) r.index), length-replicate r.taken r.index, length-replicate (r.count - r.taken) r.index);
  small = small_more weight (binomial r.count r.taken) r.count (whole_length (counts_of left)) (2 ^ 25) h.small (binomial-small r.count r.taken);
}

-- the next run fits: no more is taken than there are, and the lists and the weight have room
pub record Fits (taken kept : List ℕ) (weight : ℕ) (r : Run) : Type 0 where
  pub choice : r.taken ≤ r.count
  pub room : length taken + length kept + r.count ≤ 25
  pub small : weight * binomial r.count r.taken ≤ 2 ^ 25

pub next_fits : (taken kept : List ℕ) (weight : ℕ) (r : Run) (left all : List Run) → IsBuilt taken kept weight (r ∷ left) all → Fits taken kept weight r
unfolding IsChoice whole_length total
next_fits taken kept weight r left all h =
    let y = total (map (λ p. p.1) (counts_of left)) in
    let product = weight * binomial r.count r.taken in
    let bound : product * 2 ^ y ≤ 2 ^ 25 = small_more weight (binomial r.count r.taken) r.count y (2 ^ 25) h.small (binomial-small r.count r.taken) in
    let grows : product * 1 ≤ product * 2 ^ y = mul-le-mul (let self : product ≤ product = omega arith in self) (one-le-pow y 2 (omega arith)) in
    record {
      choice = h.choice.0;
      room = omega (arith, h.room);
      small = omega (arith, bound, grows);
    }

pub built_all : (taken kept : List ℕ) (weight : ℕ) (left all : List Run) → IsBuilt taken kept weight left all → left ≡ [] → ◌≡◌ {A = Split} (record { part = taken; rest = kept; ways = weight }) (chosen_split all)
unfolding chosen_split
built_all taken kept weight left all h e =
    let part : taken ≡ (chosen_split all).part = sym (append-nil taken) ∙ ap (λ l. taken ++ (chosen_split l).part) (sym e) ∙ h.part in
    let rest : kept ≡ (chosen_split all).rest = sym (append-nil kept) ∙ ap (λ l. kept ++ (chosen_split l).rest) (sym e) ∙ h.rest in
    let ways : weight ≡ (chosen_split all).ways = (let one : weight ≡ weight * 1 = omega arith in one) ∙ ap (λ l. weight * (chosen_split l).ways) (sym e) ∙ h.ways in
    λ i. record { part = part i; rest = rest i; ways = ways i }
