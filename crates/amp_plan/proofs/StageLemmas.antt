-- The numbers of a walk over the splits of a list, from one step to the next.
use Rattle.std.proofs.Common.{◌≡◌, ℕ, ◌+◌, ◌-◌, ◌*◌, ◌/◌, ◌<◌, ◌≤◌, ◌^◌, List, [], ◌∷◌, ◌++◌, length, length-append, append-nil, refl, sym, ap, subst, ◌∙◌, arith, Option, ℤ, pos, ◌+ℤ◌, ◌-ℤ◌, replicate}
use Rattle.amp_plan.proofs.Words.{ints, mul-le-mul, one-le-pow, natural, Key, key_of, insert, total, Split, binomial, whole_length, binomial-small, small_more, looked_up, list_code-small, list_code-more, list_code-none, list_code-append, index_code-small, Planning, tensors_of, live_rank, IsMeasured, IsLight, IsCandidate, more_of, IsShare, FitsShare, IsChosen, Measure, Share, Chosen, length-insert}
use Rattle.std.proofs.lemmas.List.{length-replicate}
use Rattle.index_lists.specs.Measures.{gain, loss}
use Rattle.index_lists.specs.Parts.{listed}
use Rattle.amp_plan.proofs.RankWalkLemmas.{sorted-insert}
use Rattle.index_lists.proofs.SplitLemmas.{fits-more, fits-end}
use Rattle.index_lists.proofs.MeasureLemmas.{measured-append, measured-rest, measured-insert, measured-light, part-next, ways-next, bytes-append, bytes-replicate}
use Rattle.amp_plan.proofs.ReachLemmas.{gain-replicate, loss-replicate}

-- ---- the numbers of a choice

pub chosen-light : {p : Planning} {h : Share} {left : List (ℕ × ℕ)} {c : Chosen} {s : Split} → IsShare p h → IsChosen p h left c s → IsLight c.part
chosen-light {p} {h} {left} {c} {s} is k = measured-light h.per_n s.part c.part is.small_law k.bytes (omega (arith, k.few)) k.part

-- ---- at the end of the runs

-- the key of the part, with the first index of the pair
pub left_candidate : (p : Planning) (h : Share) (c : Chosen) (s : Split) → IsShare p h → IsChosen p h [] c s
    → IsCandidate p h.k (record { places = h.left.places + c.part.places; excess = h.left.excess +ℤ c.part.excess; code = h.left.code + c.part.code }) (key_of h.k (insert h.pair.now.a s.part))
unfolding key_of tensors_of looked_up
left_candidate p h c s is k =
    let m : Measure = record { places = h.left.places + c.part.places; excess = h.left.excess +ℤ c.part.excess; code = h.left.code + c.part.code } in
    let room = (fits-end (FitsShare p h) s k.fits).is_part.part in
    record {
      genus = refl;
      measured = subst (λ z. IsMeasured z (insert h.pair.now.a s.part) m) is.law (measured-insert h.per_n h.pair.now.a s.part m (measured-append h.per_n (h.pair.now.a ∷ []) s.part h.left c.part is.left k.part));
      sorted = sorted-insert p.tensors.dim h.pair.now.a s.part is.a room.sorted;
      some = omega (arith, length-insert h.pair.now.a s.part);
      level = omega (arith, length-insert h.pair.now.a s.part, room.level);
    }

pub left_code : {p : Planning} {h : Share} {c : Chosen} {s : Split} → IsShare p h → IsChosen p h [] c s → h.left.code + c.part.code < 2 ^ 63
left_code {p} {h} {c} {s} is k = omega (arith, is.left.code, list_code-more h.pair.now.a [], list_code-none, index_code-small h.pair.now.a, k.part.code, list_code-small s.part, k.few)

-- the part is no more than the whole
pub record IsWithin (part whole : Measure) : Type 0 where
  pub places : part.places ≤ whole.places
  pub code : part.code ≤ whole.code

pub part_within : {p : Planning} {h : Share} {c : Chosen} {s : Split} → IsChosen p h [] c s → IsWithin c.part h.right
part_within {p} {h} {c} {s} k =
    let f = fits-end (FitsShare p h) s k.fits in
    record {
      places = omega (arith, k.part.places, f.right.places, length-append s.part s.rest);
      code = omega (arith, k.part.code, f.right.code, list_code-more h.pair.now.b (s.part ++ s.rest), list_code-append s.part s.rest);
    }

-- the key of the rest, with the second index of the pair
pub right_candidate : (p : Planning) (h : Share) (c : Chosen) (s : Split) → IsShare p h → IsChosen p h [] c s
    → IsCandidate p (h.genus - h.k) (record { places = h.right.places - c.part.places; excess = h.right.excess -ℤ c.part.excess; code = h.right.code - c.part.code }) (key_of (h.genus - h.k) (insert h.pair.now.b s.rest))
unfolding key_of tensors_of looked_up
right_candidate p h c s is k =
    let m : Measure = record { places = h.right.places - c.part.places; excess = h.right.excess -ℤ c.part.excess; code = h.right.code - c.part.code } in
    let f = fits-end (FitsShare p h) s k.fits in
    let room = f.is_part.rest in
    record {
      genus = refl;
      measured = subst (λ z. IsMeasured z (insert h.pair.now.b s.rest) m) is.law (measured-insert h.per_n h.pair.now.b s.rest m (measured-rest h.per_n h.pair.now.b s.part s.rest h.right c.part f.right k.part));
      sorted = sorted-insert p.tensors.dim h.pair.now.b s.rest is.b room.sorted;
      some = omega (arith, length-insert h.pair.now.b s.rest);
      level = omega (arith, length-insert h.pair.now.b s.rest, room.level);
    }

pub left_found : {p : Planning} {h : Share} {c : Chosen} {s : Split} {m : Measure} {r : Option ℕ} → IsShare p h → IsChosen p h [] c s → m ≡ record { places = h.left.places + c.part.places; excess = h.left.excess +ℤ c.part.excess; code = h.left.code + c.part.code }
    → ((key : Key) → IsCandidate p h.k m key → r ≡ live_rank p key) → r ≡ live_rank p (key_of h.k (insert h.pair.now.a s.part))
left_found {p} {h} {c} {s} {m} {r} is k e f = f _ (subst (λ z. IsCandidate p h.k z (key_of h.k (insert h.pair.now.a s.part))) (sym e) (left_candidate p h c s is k))

pub right_found : {p : Planning} {h : Share} {c : Chosen} {s : Split} {m : Measure} {r : Option ℕ} → IsShare p h → IsChosen p h [] c s → m ≡ record { places = h.right.places - c.part.places; excess = h.right.excess -ℤ c.part.excess; code = h.right.code - c.part.code }
    → ((key : Key) → IsCandidate p (h.genus - h.k) m key → r ≡ live_rank p key) → r ≡ live_rank p (key_of (h.genus - h.k) (insert h.pair.now.b s.rest))
right_found {p} {h} {c} {s} {m} {r} is k e f = f _ (subst (λ z. IsCandidate p (h.genus - h.k) z (key_of (h.genus - h.k) (insert h.pair.now.b s.rest))) (sym e) (right_candidate p h c s is k))

-- ---- from one number of copies to the next

-- The numbers where the part takes t copies of the index of the first run.
pub record IsAt (h : Share) (r : ℕ × ℕ) (others : List (ℕ × ℕ)) (s : Split) (c : Chosen) (t : ℕ) : Type 0 where
  pub part : IsMeasured h.per_n (s.part ++ replicate t r.0) c.part
  pub ways : c.ways ≡ s.ways * binomial r.1 t
  pub gain : c.gain ≡ gain h.per_n (listed others)
  pub loss : c.loss ≡ loss h.per_n (listed others)

turned : (x : ℕ) (c e : ℤ) → e ≡ pos x -ℤ c → pos 0 -ℤ e ≡ c -ℤ pos x
turned x c e i = omega (arith, ints, i)

module _ {p : Planning} {h : Share} {r : ℕ × ℕ} {others : List (ℕ × ℕ)} {c : Chosen} {s : Split} (k : IsChosen p h (r ∷ others) c s) where
  short : length s.part + (r.1 + whole_length others) ≤ 25
  unfolding whole_length total
  short = k.few

  pub count_short : r.1 ≤ 25
  count_short = omega (arith, short)

  gain_first : c.gain ≡ r.1 * natural (pos r.0 -ℤ h.per_n) + gain h.per_n (listed others)
  unfolding listed
  gain_first = k.gain ∙ gain-replicate h.per_n r.1 r.0 (listed others)

  loss_first : c.loss ≡ r.1 * natural (h.per_n -ℤ pos r.0) + loss h.per_n (listed others)
  unfolding listed
  loss_first = k.loss ∙ loss-replicate h.per_n r.1 r.0 (listed others)

  -- what the first run can change is part of what is to come
  pub gain_enough : (e : ℤ) → e ≡ pos r.0 -ℤ h.per_n → r.1 * natural e ≤ c.gain
  gain_enough e i = omega (arith, gain_first, ap (λ z. r.1 * natural z) i)

  pub loss_enough : (e : ℤ) → e ≡ pos r.0 -ℤ h.per_n → r.1 * natural (pos 0 -ℤ e) ≤ c.loss
  loss_enough e i = omega (arith, loss_first, ap (λ z. r.1 * natural z) (turned r.0 h.per_n e i))

  pub at_first : {d : Chosen} (e : ℤ) → e ≡ pos r.0 -ℤ h.per_n → d ≡ record { part = c.part; ways = c.ways; gain = c.gain - r.1 * natural e; loss = c.loss - r.1 * natural (pos 0 -ℤ e) } → IsAt h r others s d 0
  unfolding binomial
  at_first {d} e i same = record {
    part = subst (λ l. IsMeasured h.per_n l d.part) (sym (append-nil s.part)) (subst (IsMeasured h.per_n s.part) (sym (ap (λ z. z.part) same)) k.part);
    ways = omega (arith, ap (λ z. z.ways) same, k.ways);
    gain = omega (arith, ap (λ z. z.gain) same, gain_first, ap (λ z. r.1 * natural z) i);
    loss = omega (arith, ap (λ z. z.loss) same, loss_first, ap (λ z. r.1 * natural z) (turned r.0 h.per_n e i));
  }

  pub chosen_next : {d : Chosen} {t : ℕ} → r.0 < 256 → t ≤ r.1 → IsAt h r others s d t → IsChosen p h others d (more_of s r t)
  unfolding more_of whole_length total
  chosen_next {d} {t} byte l a = record {
    part = a.part;
    ways = a.ways;
    gain = a.gain;
    loss = a.loss;
    fits = fits-more (FitsShare p h) s r others t l k.fits;
    bytes = bytes-append s.part (replicate t r.0) k.bytes (bytes-replicate t r.0 byte);
    few = omega (arith, length-append s.part (replicate t r.0), length-replicate t r.0, short, l);
    small = small_more s.ways (binomial r.1 t) r.1 (whole_length others) (2 ^ 25) k.small (binomial-small r.1 t);
  }

  pub at_light : {d : Chosen} {t : ℕ} → IsShare p h → r.0 < 256 → t ≤ r.1 + 1 → IsAt h r others s d t → IsLight d.part
  at_light {d} {t} is byte l a = measured-light h.per_n (s.part ++ replicate t r.0) d.part is.small_law (bytes-append s.part (replicate t r.0) k.bytes (bytes-replicate t r.0 byte)) (omega (arith, length-append s.part (replicate t r.0), length-replicate t r.0, short, l)) a.part

  small_first : s.ways * 2 ^ (r.1 + whole_length others) ≤ 2 ^ 25
  unfolding whole_length total
  small_first = k.small

  pub at_ways : {d : Chosen} {t : ℕ} → IsAt h r others s d t → d.ways ≤ 2 ^ 25
  at_ways {d} {t} a =
      let n = whole_length others in
      let w = s.ways * binomial r.1 t in
      let bound : w * 2 ^ n ≤ 2 ^ 25 = small_more s.ways (binomial r.1 t) r.1 n (2 ^ 25) small_first (binomial-small r.1 t) in
      let grows : w * 1 ≤ w * 2 ^ n = mul-le-mul (let self : w ≤ w = omega arith in self) (one-le-pow n 2 (omega arith)) in
      omega (arith, bound, grows, a.ways)

  pub at_next : {d e : Chosen} {t : ℕ} {item : Measure} → IsAt h r others s d t → IsMeasured h.per_n (r.0 ∷ []) item
      → e ≡ record d { part = record { places = d.part.places + item.places; excess = d.part.excess +ℤ item.excess; code = d.part.code + item.code }; ways = d.ways * (r.1 - t) / (t + 1) } → IsAt h r others s e (t + 1)
  at_next {d} {e} {t} {item} a i same = record {
    part = part-next h.per_n s.part r.0 t d.part e.part item a.part i (ap (λ z. z.part) same);
    ways = ap (λ z. z.ways) same ∙ ap (λ n. n * (r.1 - t) / (t + 1)) a.ways ∙ ways-next s.ways r.1 t;
    gain = ap (λ z. z.gain) same ∙ a.gain;
    loss = ap (λ z. z.loss) same ∙ a.loss;
  }
