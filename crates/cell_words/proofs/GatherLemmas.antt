-- The portions of seats, gathered into one view.
use Rattle.std.proofs.Common.{get_or-take, ◌≡◌, ℕ, suc, ◌<◌, List, [], ◌∷◌, ◌++◌, length, take, set, get_or, refl, sym, ap, ap₂, ◌∙◌, subst, arith, true, Option, Some, None, length-append, length-take, length-set, get_or-set_other, get_or-set_same}
use Rattle.std.proofs.Math.ListN.{get_or-append}
use Rattle.std.proofs.Math.Seq.{get_or-append_seam}
use Rattle.cell_words.proofs.Names.{dite, ℕ_discrete, Seat, Planning, has, IsToken, HasToken, IsResting, IsHolding, IsSeatOf, view_in, view_of, IsReady, AreTaken, IsGathered, Portion, Countdown, CountSeat, View, get_or_default}
use Rattle.cell_words.specs.Countdown.{joined}
use Rattle.cell_words.proofs.StepLemmas.{has_append}
use Rattle.std.proofs.lemmas.Bool as bool
use Rattle.amp_plan.proofs.RowLemmas.{has-append}

-- The one portion of a seat that holds nothing.
pub record HasPortion (b : Countdown) (s : CountSeat) (x : Seat (Unit {0}) View) : Type 0 where
  pub token : IsToken b x
  pub portion : Portion
  pub alone : x.me.0.portions ≡ portion ∷ []
  pub ready : IsReady b.base.plan portion s

pub portion_of : (b : Countdown) (s : CountSeat) (x : Seat (Unit {0}) View) → s.place ≡ Some x → IsSeatOf b s → s.held ≡ None → HasPortion b s x
portion_of b s x is h free =
    let rest : IsResting b s = subst (IsHolding b s) free h.0 in
    let q : Portion = record { number = s.number; acts = rest.done.acts } in
    let alone : (view_of s).portions ≡ q ∷ [] = rest.done.portions ∙ ap (λ ps. q ∷ ps) h.1 in record {
      token = subst (HasToken b) is rest.token;
      portion = q;
      alone = ap (λ o. (view_in o).portions) (sym is) ∙ alone;
      ready = record { number = refl; finished = rest.done.finished; done = rest.done.ranks; room = rest.room; held = free };
    }

or_right : (r : ℕ) (xs ys : List ℕ) → has r ys ≡ true → has r (xs ++ ys) ≡ true
or_right r xs ys e = has-append r xs ys ∙ bool.or_right (has r xs) (has r ys) e

-- one portion more
pub gather_more : (p : Planning) (ss : List CountSeat) (k : ℕ) (v u : View) (x : CountSeat) (q : Portion) → k < length ss → IsGathered p (take k ss) v → u.portions ≡ q ∷ [] → IsReady p q (get_or ss k x)
    → u.seen ≡ (view_of (get_or ss k x)).seen → IsGathered p (take (suc k) ss) (joined v u)
gather_more p ss k v u x q low h alone ready seen = record {
  many = length-append v.portions u.portions ∙ (let a = h.many in let b = ap length alone in omega (arith, before, after));
  ready = λ j r d l. by j r d (omega (arith, l, after)) (ℕ_discrete j k);
  seen = λ j d l r e. look j d r (omega (arith, l, after)) (ℕ_discrete j k) e;
}
  where
    before : length (take k ss) ≡ k
    before = let l = length-take k ss in omega arith

    after : length (take (suc k) ss) ≡ suc k
    after = let l = length-take (suc k) ss in omega arith

    many : length v.portions ≡ k
    many = h.many ∙ before

    at : (j : ℕ) (d : CountSeat) → j ≡ k → get_or (take (suc k) ss) j d ≡ get_or ss k x
    at j d e = get_or-take (suc k) ss j d (omega arith) ∙ ap (λ i. get_or ss i d) e ∙ get_or_default ss k d x low

    under : (j : ℕ) (d : CountSeat) → j < k → get_or (take (suc k) ss) j d ≡ get_or (take k ss) j d
    under j d l = get_or-take (suc k) ss j d (omega arith) ∙ sym (get_or-take k ss j d l)

    by : (j : ℕ) (r : Portion) (d : CountSeat) → j < suc k → Dec (j ≡ k) → IsReady p (get_or (v.portions ++ u.portions) j r) (get_or (take (suc k) ss) j d)
    by j r d l (yes e) = subst (λ (z : Portion × CountSeat). IsReady p z.0 z.1) (λ i. (sym here i, sym (at j d e) i)) ready
      where
        here : get_or (v.portions ++ u.portions) j r ≡ q
        here = ap₂ (λ ps i. get_or (v.portions ++ ps) i r) alone (e ∙ sym many) ∙ get_or-append_seam v.portions q [] r
    by j r d l (no n) = subst (λ (z : Portion × CountSeat). IsReady p z.0 z.1) (λ i. (sym (get_or-append v.portions u.portions r j (omega (arith, many, small))) i, sym (under j d small) i)) (h.ready j r d (omega (arith, before, small)))
      where
        small : j < k
        small = grind arith

    look : (j : ℕ) (d : CountSeat) (r : ℕ) → j < suc k → Dec (j ≡ k) → has r (view_of (get_or (take (suc k) ss) j d)).seen ≡ true → has r (v.seen ++ u.seen) ≡ true
    look j d r l (yes e) t = or_right r v.seen u.seen (ap (has r) seen ∙ ap (λ s. has r (view_of s).seen) (sym (at j d e)) ∙ t)
    look j d r l (no n) t = has_append r v.seen u.seen (h.seen j d (omega (arith, before, small)) r (ap (λ s. has r (view_of s).seen) (sym (under j d small)) ∙ t))
      where
        small : j < k
        small = grind arith

-- a seat's place changes, and no more of it
abbrev pub placed : List CountSeat → ℕ → CountSeat → Option (Seat (Unit {0}) View) → List CountSeat
placed ss k x y = set ss k (record { place = y; number = (get_or ss k x).number; held = (get_or ss k x).held; done = (get_or ss k x).done })

pub same_standing : {A : Type 0} (f : CountSeat → A) (ss : List CountSeat) (k j : ℕ) (x d : CountSeat) (y : Option (Seat (Unit {0}) View)) → j < length ss
    → ((s : CountSeat) → f (record { place = y; number = s.number; held = s.held; done = s.done }) ≡ f s) → f (get_or (placed ss k x y) j d) ≡ f (get_or ss j d)
same_standing f ss k j x d y l same = dite (ℕ_discrete j k)
    (λ (e : j ≡ k). ap (λ i. f (get_or (placed ss k x y) i d)) e ∙ ap f (get_or-set_same ss k _ d (omega arith)) ∙ same (get_or ss k x) ∙ ap f (get_or_default ss k x d (omega arith)) ∙ ap (λ i. f (get_or ss i d)) (sym e))
    (λ n. ap f (get_or-set_other ss k j _ d n))

pub taken_more : (old ss : List CountSeat) (k : ℕ) (x : CountSeat) (y : Option (Seat (Unit {0}) View)) → AreTaken old ss → AreTaken old (placed ss k x y)
taken_more old ss k x y h = record {
  len = length-set ss k _ ∙ h.len;
  number = λ j d l. same_standing (λ s. s.number) ss k j x d y (omega (arith, h.len, l)) (λ s. refl) ∙ h.number j d l;
  held = λ j d l. same_standing (λ s. s.held) ss k j x d y (omega (arith, h.len, l)) (λ s. refl) ∙ h.held j d l;
  done = λ j d l. same_standing (λ s. s.done) ss k j x d y (omega (arith, h.len, l)) (λ s. refl) ∙ h.done j d l;
}
