-- A candidate that is stable and covered is planned, and found by its code.
use Rattle.std.proofs.Common.{◌≡◌, ℕ, ◌+◌, ◌*◌, ◌<◌, ◌≤◌, ◌^◌, Bool, true, false, List, [], ◌∷◌, length, refl, sym, ap, ap₂, ◌∙◌, arith, Option, Some, None, cond, ◌&&◌, ◌+ℤ◌, lt-ltb, subst}
use Rattle.amp_plan.proofs.Words.{unsigned_abs, and_from, Key, key_of, insert, euler, stable, covers, live, per_n, IsPlanned, ListsPlanned, place_of, looked_up, code_of_genus, list_code-small, list_code-more, list_code-none, index_code-small, Measure, Planning, tensors_of, keys_of, rank_at, covers_excess, IsMeasured, IsLight, IsCandidate, HasRoom, live_rank, length-insert}
use Rattle.key_index.specs.Codes.{code_of}
use Rattle.key_index.specs.Found.{IsRankOf}
use Rattle.index_lists.proofs.MeasureLemmas.{covers-excess, bytes_below, measured-append, measured-insert, measured-light}
use Rattle.amp_plan.proofs.RankWalkLemmas.{sorted-insert}

module _ (p : Planning) (g : ℕ) (m : Measure) (key : Key) (h : IsCandidate p g m key) where
  covered_as : covers p.tensors.shape key ≡ covers_excess p.tensors.shape g m.excess
  covered_as = covers-excess p.tensors.shape key ∙ ap₂ (λ n e. covers_excess p.tensors.shape n e) h.genus (sym h.measured.excess)

  pub unstable : 2 * g + m.places ≤ 2 → None ≡ live_rank p key
  unfolding live_rank live stable euler
  unstable l = let e : euler key.g (length key.idx) ≡ 0 = omega (arith, l, h.genus, h.measured.places) in rw e refl

  pub uncovered : covers_excess p.tensors.shape g m.excess ≡ false → None ≡ live_rank p key
  unfolding live_rank live tensors_of looked_up
  uncovered e = by (stable key) (covers p.tensors.shape key) (covered_as ∙ e)
    where
      by : (s t : Bool) → t ≡ false → None ≡ cond (s && t) (Some (rank_at p key)) None
      by true true e = cc
      by true false e = refl
      by false t e = refl

  is_live : 2 < 2 * g + m.places → covers_excess p.tensors.shape g m.excess ≡ true → live (tensors_of p).shape key ≡ true
  unfolding live stable euler tensors_of looked_up
  is_live l e = and_from (stable key) (covers p.tensors.shape key) (lt-ltb 0 (euler key.g (length key.idx)) (omega (arith, l, h.genus, h.measured.places))) (covered_as ∙ e)

  planned_candidate : 2 < 2 * g + m.places → covers_excess p.tensors.shape g m.excess ≡ true → IsPlanned (tensors_of p) p.bound key
  unfolding tensors_of looked_up euler
  planned_candidate l e = record {
    sorted = h.sorted;
    places = h.some;
    positive = omega (arith, l, h.genus, h.measured.places);
    within = omega (arith, h.level, h.genus);
    covered = covered_as ∙ e;
  }

  pub found_live : 2 < 2 * g + m.places → covers_excess p.tensors.shape g m.excess ≡ true → ListsPlanned (tensors_of p) p.bound → (r : Option ℕ) (code : ℕ) → code ≡ code_of_genus g + m.code → IsRankOf (keys_of p) code r → r ≡ live_rank p key
  unfolding live_rank rank_at keys_of code_of
  found_live l e lists r code same found =
      let planned = planned_candidate l e in
      let is : code_of key ≡ code = ap₂ (λ a b. code_of_genus a + b) h.genus (sym h.measured.code) ∙ sym same in
      found (place_of key (keys_of p)) (lists.all key planned) (ap code_of (lists.there key planned) ∙ is)
      ∙ (let t = is_live l e in rw t refl)

-- ---- a list with one more index

-- a measure that can be added to another, with room for one index more
pub room_light : (p : Planning) {g : ℕ} {J : List ℕ} {m : Measure} → p.tensors.dim ≤ 72 → p.bound ≤ 24 → unsigned_abs (per_n p.tensors.shape) ≤ 99 → HasRoom (tensors_of p) p.bound g J → IsMeasured (per_n p.tensors.shape) J m → IsLight m
unfolding tensors_of looked_up
room_light p {g} {J} {m} dim bound small room h = measured-light (per_n p.tensors.shape) J m small (bytes_below 0 p.tensors.dim J (omega (arith, dim)) room.sorted) (omega (arith, room.level, bound)) h

module _ (p : Planning) {g x : ℕ} {J : List ℕ} {m item both : Measure} (bound : p.bound ≤ 24) (room : HasRoom (tensors_of p) p.bound g J) (h : IsMeasured (per_n p.tensors.shape) J m) (i : IsMeasured (per_n p.tensors.shape) (x ∷ []) item)
    (sum : both ≡ record { places = item.places + m.places; excess = item.excess +ℤ m.excess; code = item.code + m.code }) where
  pub beside_measured : IsMeasured (per_n p.tensors.shape) (insert x J) both
  beside_measured = measured-insert (per_n p.tensors.shape) x J both (subst (IsMeasured (per_n p.tensors.shape) (x ∷ J)) (sym sum) (measured-append (per_n p.tensors.shape) (x ∷ []) J item m i h))

  pub beside_code : both.code < 2 ^ 63
  beside_code = omega (arith, ap (λ z. z.code) sum, i.code, list_code-more x [], list_code-none, index_code-small x, h.code, list_code-small J, room.level, bound)

  -- the rank of the key with the index
  pub beside_live : {r : Option ℕ} → x < p.tensors.dim → ((key : Key) → IsCandidate p g both key → r ≡ live_rank p key) → r ≡ live_rank p (key_of g (insert x J))
  unfolding key_of tensors_of looked_up
  beside_live below f = f (key_of g (insert x J)) (record {
    genus = refl;
    measured = beside_measured;
    sorted = sorted-insert p.tensors.dim x J below room.sorted;
    some = omega (arith, length-insert x J);
    level = omega (arith, length-insert x J, room.level);
  })
