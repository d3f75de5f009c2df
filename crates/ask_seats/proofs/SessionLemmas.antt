-- The parts of a session.
use Rattle.std.proofs.KnownBytes.{Appends-trans}
use Rattle.airy_io.proofs.Prefixes.{AppendsPrefix-more, AppendsPrefix-longer}
use Rattle.airy_math.proofs.PlanOrderLaw.{levels}
use Rattle.ask_seats.proofs.Names.{◌≡◌, ◌⊎◌, inl, inr, ℕ, zero, suc, ◌<◌, ◌≤◌, ◌+◌, Bool, true, false, List, [], ◌∷◌, ◌++◌, take, drop, length, length-append, get_or, Option, Some, None, arith, refl, sym, ap, ap₂, ◌∙◌, subst, append-nil, append_assoc, take-append-drop, Result, Ok, Err, OnOk, OnErr, drop_more, Appends, AppendsPrefix, Taking, Key, euler_of, IsPlanned, Tensors, StandsIn, limit, Planning, tensors_of, keys_of, key_at, Outcome, cells, Reply, line_text, lines_text, Session, Stage, Replied, IsAdmitted, Admitted, IsOrRestsOn, start, behind, finish, growth, grown, bound_after, bound_behind, finished_behind, session_of, AreAsks, FinishesOnce, Rises, ends_finished, Spoken, CutShort, IsPart, replies_due, IsGood, Stands, stage_after, Wrote, Broke, Speaks, FallsSilent, Carried, Paused, GoesOn, up_to, Line, Ask, Finish, Grow}
use Rattle.ask_seats.specs.Asks.{StopsAtGrow}
use Rattle.ask_seats.proofs.ReplyLemmas.{rises-asks, behind-bound, behind-finished, grows-up, rises-lower}
use Rattle.ask_seats.proofs.SpeakLemmas.{stands-map, along, replied-append, after-append, text-append, complete, good-start, good-finish, good-grown, good-along, lower}
use Rattle.airy_math.specs.Ranks as ranks

-- ---- lines of a part

pub asks-snoc : (lines : List Line) (key : Key) → AreAsks lines → AreAsks (lines ++ (Ask key ∷ []))
unfolding AreAsks
asks-snoc [] key h = tt
asks-snoc (Ask k ∷ lines) key h = asks-snoc lines key h
asks-snoc (Finish ∷ lines) key h = absurd h
asks-snoc (Grow X ∷ lines) key h = absurd h

-- behind the one `finish` of a part all lines ask
pub rest-asks : (lines : List Line) (at : ℕ) (d : Line) → at < length lines → IsPart lines → AreAsks (take at lines) → get_or lines at d ≡ Finish → AreAsks (drop (at + 1) lines)
unfolding IsPart AreAsks
rest-asks lines at d h one before is = let e : at + 1 ≡ suc at = omega arith in subst (λ n. AreAsks (drop n lines)) (sym e) (by lines at h one before is)
  where
    by : (lines : List Line) (at : ℕ) → at < length lines → IsPart lines → AreAsks (take at lines) → get_or lines at d ≡ Finish → AreAsks (drop (suc at) lines)
    by [] at h one before is = absurd (omega arith)
    by (Ask key ∷ lines) zero h one before is = cc
    by (Ask key ∷ lines) (suc at) h one before is = by lines at (omega arith) one before is
    by (Finish ∷ lines) zero h one before is = one
    by (Finish ∷ lines) (suc at) h one before is = absurd before
    by (Grow X ∷ lines) at h one before is = absurd one

-- a line of a part asks, or is its `finish`
pub part-at : (lines : List Line) (i : ℕ) (d : Line) (X : ℕ) → i < length lines → IsPart lines → AreAsks (take i lines) → get_or lines i d ≡ Grow X → ⊥
unfolding IsPart AreAsks
part-at [] i d X h a b e = absurd (omega arith)
part-at (Ask key ∷ lines) zero d X h a b e = cc
part-at (Ask key ∷ lines) (suc i) d X h a b e = part-at lines i d X (omega arith) a b e
part-at (Finish ∷ lines) zero d X h a b e = cc
part-at (Finish ∷ lines) (suc i) d X h a b e = absurd b
part-at (Grow Y ∷ lines) i d X h a b e = absurd a

pub ends-asks : (done : Bool) (lines : List Line) → AreAsks lines → ends_finished done lines ≡ done
unfolding AreAsks ends_finished
ends-asks done [] a = refl
ends-asks done (Ask key ∷ lines) a = ends-asks done lines a
ends-asks done (Finish ∷ lines) a = absurd a
ends-asks done (Grow X ∷ lines) a = absurd a

pub split-lines : (lines : List Line) (at : ℕ) (d : Line) → at < length lines → get_or lines at d ≡ Finish → take at lines ++ (Finish ∷ drop (at + 1) lines) ≡ lines
split-lines lines at d h is = ap (λ x. take at lines ++ (x ∷ drop (at + 1) lines)) (sym is) ∙ ap (λ l. take at lines ++ l) (sym (drop_more lines at d h)) ∙ take-append-drop at lines

pub part-rises : (X : ℕ) (lines : List Line) → IsPart lines → Rises X lines
unfolding IsPart Rises
part-rises X [] a = tt
part-rises X (Ask key ∷ lines) a = part-rises X lines a
part-rises X (Finish ∷ lines) a = rises-asks X lines a
part-rises X (Grow Y ∷ lines) a = absurd a

-- ---- where parts end

-- no `grow` stands among the lines
unfoldable pub NoGrow : List Line → Type 0
NoGrow [] = Unit
NoGrow (Ask key ∷ lines) = NoGrow lines
NoGrow (Finish ∷ lines) = NoGrow lines
NoGrow (Grow X ∷ lines) = ⊥

pub no-grow-snoc : (lines : List Line) (line : Line) → NoGrow lines → ((X : ℕ) → line ≡ Grow X → ⊥) → NoGrow (lines ++ (line ∷ []))
unfolding NoGrow
no-grow-snoc [] (Ask key) h n = tt
no-grow-snoc [] Finish h n = tt
no-grow-snoc [] (Grow X) h n = n X refl
no-grow-snoc (Ask k ∷ lines) line h n = no-grow-snoc lines line h n
no-grow-snoc (Finish ∷ lines) line h n = no-grow-snoc lines line h n
no-grow-snoc (Grow X ∷ lines) line h n = absurd h

pub is-part : (lines : List Line) (n : ℕ) → FinishesOnce false lines → NoGrow (take n lines) → IsPart (take n lines)
unfolding IsPart NoGrow FinishesOnce AreAsks
is-part lines zero f g = tt
is-part [] (suc n) f g = tt
is-part (Ask key ∷ lines) (suc n) f g = is-part lines n f g
is-part (Finish ∷ lines) (suc n) f g = by lines n f g
  where
    by : (lines : List Line) (n : ℕ) → FinishesOnce true lines → NoGrow (take n lines) → AreAsks (take n lines)
    by lines zero f g = tt
    by [] (suc n) f g = tt
    by (Ask key ∷ lines) (suc n) f g = by lines n f g
    by (Finish ∷ lines) (suc n) f g = absurd f
    by (Grow X ∷ lines) (suc n) f g = absurd g
is-part (Grow X ∷ lines) (suc n) f g = absurd g

-- what is left behind some lines has its parts, too
once-behind : (b : Bool) (first rest : List Line) → FinishesOnce b (first ++ rest) → (c : Bool) × FinishesOnce c rest
unfolding FinishesOnce
once-behind b [] rest f = (b, f)
once-behind b (Ask key ∷ first) rest f = once-behind b first rest f
once-behind false (Finish ∷ first) rest f = once-behind true first rest f
once-behind true (Finish ∷ first) rest f = absurd f
once-behind b (Grow X ∷ first) rest f = once-behind false first rest f

asks-pass : (X : ℕ) (first rest : List Line) → AreAsks first → Rises X (first ++ rest) → Rises X rest
unfolding AreAsks Rises
asks-pass X [] rest a r = r
asks-pass X (Ask key ∷ first) rest a r = asks-pass X first rest a r
asks-pass X (Finish ∷ first) rest a r = absurd a
asks-pass X (Grow Y ∷ first) rest a r = absurd a

part-passes : (X : ℕ) (first rest : List Line) → IsPart first → Rises X (first ++ rest) → Rises X rest
unfolding IsPart Rises
part-passes X [] rest a r = r
part-passes X (Ask key ∷ first) rest a r = part-passes X first rest a r
part-passes X (Finish ∷ first) rest a r = asks-pass X first rest a r
part-passes X (Grow Y ∷ first) rest a r = absurd a

-- just the part behind the last `grow` counts
pub ends-grow : (b : Bool) (first rest : List Line) (Y : ℕ) → ends_finished b (first ++ (Grow Y ∷ rest)) ≡ ends_finished false rest
unfolding ends_finished
ends-grow b [] rest Y = refl
ends-grow b (Ask key ∷ first) rest Y = ends-grow b first rest Y
ends-grow b (Finish ∷ first) rest Y = ends-grow true first rest Y
ends-grow b (Grow X ∷ first) rest Y = ends-grow false first rest Y

-- lines up to a line, that line, and some behind it
pub take-parts : (lines : List Line) (at n : ℕ) (d : Line) → at < length lines → take (at + 1 + n) lines ≡ take at lines ++ (get_or lines at d ∷ take n (drop (at + 1) lines))
take-parts [] at n d h = absurd (omega arith)
take-parts (x ∷ lines) zero n d h = let e : 0 + 1 + n ≡ suc n = omega arith in ap (λ k. take k (x ∷ lines)) e
take-parts (x ∷ lines) (suc at) n d h = let e : suc at + 1 + n ≡ suc (at + 1 + n) = omega arith in ap (λ k. take k (x ∷ lines)) e ∙ ap (λ l. x ∷ l) (take-parts lines at n d (omega arith)) ∙ (let f : suc at + 1 ≡ suc (at + 1) = omega arith in ap (λ k. x ∷ (take at lines ++ (get_or lines at d ∷ take n (drop k (x ∷ lines))))) (sym f))

pub drop-parts : (lines : List Line) (at n : ℕ) → drop (at + 1 + n) lines ≡ drop n (drop (at + 1) lines)
drop-parts lines at n = by lines (at + 1)
  where
    none : (n : ℕ) → drop {A = Line} n [] ≡ []
    none zero = refl
    none (suc n) = refl

    by : (lines : List Line) (k : ℕ) → drop (k + n) lines ≡ drop n (drop k lines)
    by lines zero = let e : 0 + n ≡ n = omega arith in ap (λ k. drop k lines) e
    by [] (suc k) = none (suc k + n) ∙ sym (none n)
    by (x ∷ lines) (suc k) = let e : suc k + n ≡ suc (k + n) = omega arith in ap (λ j. drop j (x ∷ lines)) e ∙ by lines k

-- ---- how many replies

pub due-snoc : (lines : List Line) (line : Line) → ((line ≡ Finish) × (replies_due (lines ++ (line ∷ [])) ≡ replies_due lines)) ⊎ ((line ≡ Finish → ⊥) × (replies_due (lines ++ (line ∷ [])) ≡ replies_due lines + 1))
unfolding replies_due
due-snoc [] (Ask key) = inr ((λ e. cc), refl)
due-snoc [] Finish = inl (refl, refl)
due-snoc [] (Grow X) = inr ((λ e. cc), refl)
due-snoc (Ask key ∷ lines) line = elim (due-snoc lines line) [ inl e ↦ inl (e.0, ap suc e.1) | inr e ↦ inr (e.0, ap suc e.1 ∙ (let s : suc (replies_due lines + 1) ≡ suc (replies_due lines) + 1 = omega arith in s)) ]
due-snoc (Finish ∷ lines) line = due-snoc lines line
due-snoc (Grow X ∷ lines) line = elim (due-snoc lines line) [ inl e ↦ inl (e.0, ap suc e.1) | inr e ↦ inr (e.0, ap suc e.1 ∙ (let s : suc (replies_due lines + 1) ≡ suc (replies_due lines) + 1 = omega arith in s)) ]

due : (T : Tensors) (P : Stage → Key → Reply → Type 0) (st : Stage) (lines : List Line) (replies : List Reply) → Replied T P st lines replies → replies_due lines ≡ length replies
unfolding replies_due
due T P = along T P (λ st ls rs. replies_due ls ≡ length rs) (λ st. refl) (λ st ls rs k. k) (λ st key r ls rs p k. ap suc k) (λ st Y r ls rs e k. ap suc k)

-- ---- where a session stands

pub stands-first : (p : Planning) (crew : ℕ) (Knows : ℕ → Type 0) → Stands p crew Knows (start p.bound)
unfolding StandsIn
stands-first p crew Knows = record {
  bound = refl;
  planned = λ other i. absurd i;
  given = λ other r i low e. absurd i;
  settled = λ X r e low w. absurd (nothing X e);
  good = good-start (session_of p crew) p.bound;
}
  where
    nothing : (X : ℕ) → None ≡ Some X → ⊥
    nothing X e = cc

-- where every rank is known, the stage behind a `finish`
pub stands-finish : (p : Planning) (crew : ℕ) (Knew Knows : ℕ → Type 0) (st : Stage) → ((r : ℕ) → r < cells p → Knows r) → Stands p crew Knew st → Stands p crew Knows (finish st)
unfolding finish
stands-finish p crew Knew Knows st all h = record {
  bound = h.bound;
  planned = h.planned;
  given = λ other r i low f. all r low;
  settled = λ X r f low w. all r low;
  good = good-finish (session_of p crew) st h.good;
}

widen : (T : Tensors) (X Y : ℕ) (key : Key) → X ≤ Y → IsPlanned T X key → IsPlanned T Y key
widen T X Y key h p = let l = p.within in record { sorted = p.sorted; places = p.places; positive = p.positive; within = omega arith; covered = p.covered }

-- a greater bound
stands-up : (p : Planning) (crew : ℕ) (Knows : ℕ → Type 0) (st : Stage) (Y : ℕ) → p.bound ≤ Y → Stands p crew Knows st → IsGood (session_of p crew) (record st { bound = Y }) → Stands (up_to Y p) crew Knows (record st { bound = Y })
unfolding tensors_of keys_of key_at ranks.key_at
stands-up p crew Knows st Y h k good = record {
  bound = refl;
  planned = λ other i. widen (tensors_of p) p.bound Y other h (k.planned other i);
  given = λ other r i low e.
      let before = inside r low (let a = (k.planned other i).within in let b = lower (tensors_of p) p.bound other (key_at (up_to Y p) r) (k.planned other i) e in omega (arith, a, b)) in
      k.given other r i before (subst (IsOrRestsOn (tensors_of p) other) (same r before) e);
  settled = λ X r e low w.
      let before = inside r low (let a = k.good.finished X e in omega (arith, a, w, k.bound)) in
      k.settled X r e before (subst (λ key. euler_of key ≤ X) (same r before) w);
  good = good;
}
  where
    inside : (r : ℕ) → r < cells (up_to Y p) → euler_of (key_at (up_to Y p) r) ≤ p.bound → r < cells p
    inside r low e = ((levels (tensors_of p) p.bound).ends Y h ranks.no_key r low).1 e

    same : (r : ℕ) → r < cells p → key_at (up_to Y p) r ≡ key_at p r
    same r low = (levels (tensors_of p) p.bound).kept Y h ranks.no_key r low

-- behind a `grow`
pub stands-grown : (p : Planning) (crew : ℕ) (Knows : ℕ → Type 0) (st : Stage) (Y : ℕ) → p.bound ≤ Y → Stands p crew Knows st → Stands (up_to (bound_after (limit (tensors_of p) Y) p.bound Y) p) crew Knows (grown (tensors_of p) Y st)
unfolding grown
stands-grown p crew Knows st Y h k =
    let T = tensors_of p in
    let same = ap (λ X. bound_after (limit T Y) X Y) (sym k.bound) in
    subst (λ X. Stands (up_to X p) crew Knows (grown T Y st)) (sym same)
    (stands-up p crew Knows st (bound_after (limit T Y) st.bound Y) (subst (λ X. X ≤ bound_after (limit T Y) st.bound Y) k.bound (grows-up (limit T Y) st.bound Y (subst (λ X. X ≤ Y) (sym k.bound) h)).0) k
    (good-grown (session_of p crew) st Y (subst (λ X. X ≤ Y) (sym k.bound) h) k.good))

pub bound-stage : (T : Tensors) (P : Stage → Key → Reply → Type 0) (st : Stage) (lines : List Line) (replies : List Reply) → Replied T P st lines replies → (stage_after T st lines replies).bound ≡ bound_behind T st.bound lines
unfolding stage_after bound_behind finish grown
bound-stage T P =
    along T P (λ st ls rs. (stage_after T st ls rs).bound ≡ bound_behind T st.bound ls) (λ st. refl) (λ st ls rs k. k) (λ st key r ls rs p k. k ∙ ap (λ X. bound_behind T X ls) (behind-bound st key r)) (λ st Y r ls rs e k. k)

pub finished-stage : (T : Tensors) (P : Stage → Key → Reply → Type 0) (st : Stage) (lines : List Line) (replies : List Reply) → Replied T P st lines replies
    → (stage_after T st lines replies).finished ≡ finished_behind T st.bound st.finished lines
unfolding stage_after finished_behind finish grown
finished-stage T P = along T P (λ st ls rs. (stage_after T st ls rs).finished ≡ finished_behind T st.bound st.finished ls) (λ st. refl) (λ st ls rs k. k)
    (λ st key r ls rs p k. k ∙ ap₂ (λ X f. finished_behind T X f ls) (behind-bound st key r) (behind-finished st key r)) (λ st Y r ls rs e k. k)

-- ---- the two halves of a part

pub wrote-map : (p : Planning) (crew : ℕ) (f : Option ℕ) (Knew Knows : ℕ → Type 0) (st : Stage) (lines : List Line) (old new : Option (List ℕ)) → ((r : ℕ) → r < cells p → Knew r → Knows r) → Wrote p crew f Knew st lines old new → Wrote p crew f Knows st lines old new
wrote-map p crew f Knew Knows st lines old new k w =
    record { replies = w.replies; admitted = w.admitted; appended = w.appended; stands = stands-map p crew Knew Knows _ k w.stands; finish = w.finish }

module _ (p : Planning) (crew : ℕ) (f g : Option ℕ) (Knew Knows : ℕ → Type 0) (st : Stage) (first rest : List Line) (old mid new : Option (List ℕ)) (w : Wrote p crew f Knew st first old mid) where
  pub wrote-both : Wrote p crew g Knows (finish (stage_after (tensors_of p) st first w.replies)) rest mid new → Wrote p crew g Knows st (first ++ (Finish ∷ rest)) old new
  unfolding Replied stage_after
  wrote-both v =
      let T = tensors_of p in
      let same = sym (after-append T (IsAdmitted (session_of p crew)) st first (Finish ∷ rest) w.replies v.replies w.admitted) in record {
        replies = w.replies ++ v.replies;
        admitted = replied-append T (IsAdmitted (session_of p crew)) st first (Finish ∷ rest) w.replies v.replies w.admitted v.admitted;
        appended = subst (Appends old new) (sym (text-append w.replies v.replies)) (Appends-trans old mid new _ _ w.appended v.appended);
        stands = subst (Stands p crew Knows) same v.stands;
        finish = subst (λ (s : Stage). s.finished ≡ g) same v.finish;
      }

  pub broke-behind : Broke p crew (finish (stage_after (tensors_of p) st first w.replies)) rest mid new → Broke p crew st (first ++ (Finish ∷ rest)) old new
  unfolding Replied
  broke-behind v = record {
    replies = w.replies ++ v.replies;
    admitted = replied-append (tensors_of p) (IsAdmitted (session_of p crew)) st first (Finish ∷ rest) w.replies v.replies w.admitted v.admitted;
    cut = subst (AppendsPrefix old new) (ap (λ t. lines_text w.replies ++ t) (append-nil (lines_text v.replies)) ∙ sym (text-append w.replies v.replies)) (AppendsPrefix-more old mid new (lines_text w.replies) (lines_text v.replies) [] w.appended v.cut);
  }

-- where the sink failed among the first lines, the replies to the others are any that are admitted
pub broke-before : (p : Planning) (crew : ℕ) (st : Stage) (first rest : List Line) (old new : Option (List ℕ)) → IsGood (session_of p crew) st → Rises st.bound (first ++ rest) → Broke p crew st first old new → Broke p crew st (first ++ rest) old new
broke-before p crew st first rest old new g up w =
    let T = tensors_of p in
    let along = good-along (session_of p crew) st first rest w.replies g up w.admitted in
    let more = complete (session_of p crew) (stage_after T st first w.replies) rest along.0 along.1 in record {
      replies = w.replies ++ more.0;
      admitted = replied-append T (IsAdmitted (session_of p crew)) st first rest w.replies more.0 w.admitted more.1;
      cut = subst (AppendsPrefix old new) (sym (text-append w.replies more.0)) (AppendsPrefix-longer old new (lines_text w.replies) (lines_text more.0) w.cut);
    }

-- ---- the whole

session-same : (p q : Planning) (crew : ℕ) → p.tensors ≡ q.tensors → session_of p crew ≡ session_of q crew
unfolding tensors_of
session-same p q crew e = ap (λ t. session_of (record { tensors = t; bound = 0 }) crew) e

-- admitted replies, as those of the session that began with the plan q
admitted-as : (q p : Planning) (crew : ℕ) (lines : List Line) (replies : List Reply) → p.tensors ≡ q.tensors → Replied (tensors_of p) (IsAdmitted (session_of p crew)) (start q.bound) lines replies → Admitted (session_of q crew) q.bound lines replies
unfolding tensors_of
admitted-as q p crew lines replies e r = subst (λ (s : Session). Replied s.tensors (IsAdmitted s) (start q.bound) lines replies) (session-same p q crew e) r

cut-short : (q p : Planning) (crew : ℕ) (done rest : List Line) (old new : Option (List ℕ)) → p.tensors ≡ q.tensors → Rises q.bound (done ++ rest) → Broke p crew (start q.bound) done old new → CutShort (session_of q crew) q.bound (done ++ rest) old new
cut-short q p crew done rest old new e up w =
    let v = broke-before p crew (start q.bound) done rest old new (good-start (session_of p crew) q.bound) up w in
    record { replies = v.replies; admitted = admitted-as q p crew (done ++ rest) v.replies e v.admitted; cut = v.cut }

-- the first part
pub cut-first : (q : Planning) (crew : ℕ) (done rest : List Line) (old new : Option (List ℕ)) → Rises q.bound (done ++ rest) → Broke q crew (start q.bound) done old new → CutShort (session_of q crew) q.bound (done ++ rest) old new
cut-first q crew done rest old new up w = cut-short q q crew done rest old new refl up w

pub goes-first : (X : ℕ) (lines : List Line) (n : ℕ) → IsPart (take n lines) → Rises X lines → (n ≤ length lines) → (n < length lines → (d : Line) → (Y : ℕ) × (get_or lines n d ≡ Grow Y)) → FinishesOnce false lines → GoesOn X lines n
goes-first X lines n part up within there once =
    let split = sym (take-append-drop n lines) in record {
      within = within;
      there = there;
      rises = part-passes X (take n lines) (drop n lines) part (subst (Rises X) split up);
      once = once-behind false (take n lines) (drop n lines) (subst (FinishesOnce false) split once);
    }

-- the bound of the `grow` at which lines go on is above X
pub goes-above : (X : ℕ) (lines : List Line) (at : ℕ) (d : Line) (Y : ℕ) → GoesOn X lines at → at < length lines → get_or lines at d ≡ Grow Y → (X < Y) × (Y ≤ 24)
unfolding Rises
goes-above X lines at d Y g low is =
    let r = subst (Rises X) (drop_more lines at d low ∙ ap (λ x. x ∷ drop (at + 1) lines) is) g.rises in (r.0, r.1)

pub goes-once : (X : ℕ) (lines : List Line) (at : ℕ) (d : Line) (Y : ℕ) → GoesOn X lines at → at < length lines → get_or lines at d ≡ Grow Y → FinishesOnce false (drop (at + 1) lines)
unfolding FinishesOnce
goes-once X lines at d Y g low is = subst (FinishesOnce g.once.0) (drop_more lines at d low ∙ ap (λ x. x ∷ drop (at + 1) lines) is) g.once.1

pub goes-next : (X Z : ℕ) (lines : List Line) (at n : ℕ) (d : Line) (Y : ℕ) → GoesOn X lines at → at < length lines → get_or lines at d ≡ Grow Y → Z ≤ Y → IsPart (take n (drop (at + 1) lines)) → (at + 1 + n ≤ length lines)
    → (at + 1 + n < length lines → (d : Line) → (Y : ℕ) × (get_or lines (at + 1 + n) d ≡ Grow Y)) → GoesOn Z lines (at + 1 + n)
unfolding Rises
goes-next X Z lines at n d Y g low is up part within there =
    let left = drop (at + 1) lines in
    let r = subst (Rises X) (drop_more lines at d low ∙ ap (λ x. x ∷ left) is) g.rises in
    let split = sym (take-append-drop n left) in
    let o = once-behind false (take n left) (drop n left) (subst (FinishesOnce false) split (goes-once X lines at d Y g low is)) in record {
      within = within;
      there = there;
      rises = subst (Rises Z) (sym (drop-parts lines at n)) (part-passes Z (take n left) (drop n left) part (subst (Rises Z) split (rises-lower Z Y left up r.2)));
      once = subst (λ l. (b : Bool) × FinishesOnce b l) (sym (drop-parts lines at n)) o;
    }

-- all lines behind the next part
pub next-lines : (lines : List Line) (at n : ℕ) (d : Line) (Y : ℕ) → at < length lines → get_or lines at d ≡ Grow Y → take (at + 1 + n) lines ≡ take at lines ++ (Grow Y ∷ take n (drop (at + 1) lines))
next-lines lines at n d Y low is = take-parts lines at n d low ∙ ap (λ x. take at lines ++ (x ∷ take n (drop (at + 1) lines))) is

pub all-lines : (lines : List Line) (at n : ℕ) (d : Line) (Y : ℕ) → at < length lines → get_or lines at d ≡ Grow Y → lines ≡ take at lines ++ (Grow Y ∷ (take n (drop (at + 1) lines) ++ drop n (drop (at + 1) lines)))
all-lines lines at n d Y low is =
    sym (take-append-drop at lines) ∙ ap (λ l. take at lines ++ l) (drop_more lines at d low ∙ ap (λ x. x ∷ drop (at + 1) lines) is)
    ∙ ap (λ l. take at lines ++ (Grow Y ∷ l)) (sym (take-append-drop n (drop (at + 1) lines)))

pub spoken-last : (q p : Planning) (crew : ℕ) (f : Option ℕ) (t : List (Option Outcome)) (lines : List Line) (old new : Option (List ℕ)) → Paused q p crew f t lines old new → Spoken (session_of q crew) q.bound lines old new
spoken-last q p crew f t lines old new h = record { replies = h.wrote.replies; admitted = admitted-as q p crew lines h.wrote.replies h.tensors h.wrote.admitted; written = h.wrote.appended }

pub bound-last : (q p : Planning) (crew : ℕ) (f : Option ℕ) (t : List (Option Outcome)) (lines : List Line) (old new : Option (List ℕ)) → Paused q p crew f t lines old new → p.bound ≡ bound_behind (tensors_of q) q.bound lines
unfolding tensors_of
bound-last q p crew f t lines old new h =
    sym h.wrote.stands.bound ∙ bound-stage (tensors_of p) (IsAdmitted (session_of p crew)) (start q.bound) lines h.wrote.replies h.wrote.admitted
    ∙ ap (λ e. bound_behind (Rattle.sparse_tensor.specs.Entries.looked_up e) q.bound lines) h.tensors

pub finished-last : (q p : Planning) (crew : ℕ) (f : Option ℕ) (t : List (Option Outcome)) (lines : List Line) (old new : Option (List ℕ)) → Paused q p crew f t lines old new → f ≡ finished_behind (tensors_of q) q.bound None lines
unfolding tensors_of
finished-last q p crew f t lines old new h =
    sym h.wrote.finish ∙ finished-stage (tensors_of p) (IsAdmitted (session_of p crew)) (start q.bound) lines h.wrote.replies h.wrote.admitted
    ∙ ap (λ e. finished_behind (Rattle.sparse_tensor.specs.Entries.looked_up e) q.bound None lines) h.tensors

pub stops-at : (q p : Planning) (crew : ℕ) (f : Option ℕ) (t : List (Option Outcome)) (done : List Line) (Y : ℕ) (rest lines : List Line) (old new : Taking) (n : ℕ) → Paused q p crew f t done old.taken new.taken → lines ≡ done ++ (Grow Y ∷ rest) → new.faults ≡ old.faults → n ≡ replies_due done
    → StopsAtGrow (session_of q crew) q.bound lines old new n
stops-at q p crew f t done Y rest lines old new n h is steady many = record {
  before = done;
  bound = Y;
  rest = rest;
  there = is;
  replies = h.wrote.replies;
  admitted = admitted-as q p crew done h.wrote.replies h.tensors h.wrote.admitted;
  written = h.wrote.appended;
  steady = steady;
  many = many ∙ due (tensors_of p) (IsAdmitted (session_of p crew)) (start q.bound) done h.wrote.replies h.wrote.admitted;
}

module _ (q p : Planning) (crew : ℕ) (f : Option ℕ) (t : List (Option Outcome)) (done : List Line) (Y : ℕ) (part rest : List Line) (old mid : Option (List ℕ)) (h : Paused q p crew f t done old mid) (low : p.bound ≤ Y)
    (Knew : ℕ → Type 0) (carried : (r : ℕ) → Carried t r → Knew r) where
  X : ℕ
  X = bound_after (limit (tensors_of p) Y) p.bound Y

  st : Stage
  st = stage_after (tensors_of p) (start q.bound) done h.wrote.replies

  stands : Stands (up_to X p) crew Knew (grown (tensors_of p) Y st)
  unfolding X st
  stands = stands-map (up_to X p) crew (Carried t) Knew (grown (tensors_of p) Y st) (λ r small c. carried r c) (stands-grown p crew (Carried t) st Y low h.wrote.stands)

  finished : (grown (tensors_of p) Y st).finished ≡ f
  unfolding grown st
  finished = h.wrote.finish

  pub paused-next : (g : Option ℕ) (u : List (Option Outcome)) (reply : Reply) (new : Option (List ℕ)) → reply ≡ growth (limit (tensors_of p) Y) Y
      → Speaks (up_to (bound_after (limit (tensors_of p) Y) p.bound Y) p) crew f g Knew (Carried u) reply part mid new
      → Paused q (up_to (bound_after (limit (tensors_of p) Y) p.bound Y) p) crew g u (done ++ (Grow Y ∷ part)) old new
  unfolding X st tensors_of Replied stage_after lines_text
  paused-next g u reply new rep s =
      let T = tensors_of p in
      let v = s.2 (grown T Y st) stands finished in
      let w = h.wrote in
      let P = IsAdmitted (session_of p crew) in
      let same = sym (after-append T P (start q.bound) done (Grow Y ∷ part) w.replies (reply ∷ v.replies) w.admitted) in record {
        tensors = h.tensors;
        wrote = record {
          replies = w.replies ++ (reply ∷ v.replies);
          admitted = replied-append T P (start q.bound) done (Grow Y ∷ part) w.replies (reply ∷ v.replies) w.admitted (rep, v.admitted);
          appended = subst (Appends old new) (sym (text-append w.replies (reply ∷ v.replies))) (Appends-trans old mid new _ _ w.appended (Appends-trans mid s.0 new _ _ s.1 v.appended));
          stands = subst (Stands (up_to X p) crew (Carried u)) same v.stands;
          finish = subst (λ (s : Stage). s.finished ≡ g) same v.finish;
        };
      }

  pub cut-next : (reply : Reply) (new : Option (List ℕ)) → reply ≡ growth (limit (tensors_of p) Y) Y → Rises q.bound (done ++ (Grow Y ∷ (part ++ rest)))
      → FallsSilent (up_to (bound_after (limit (tensors_of p) Y) p.bound Y) p) crew f Knew reply part mid new
      → CutShort (session_of q crew) q.bound (done ++ (Grow Y ∷ (part ++ rest))) old new
  unfolding X st tensors_of Replied lines_text
  cut-next reply new rep up (inl cut) =
      let T = tensors_of p in let w = h.wrote in let P = IsAdmitted (session_of p crew) in
      subst (λ ls. CutShort (session_of q crew) q.bound ls old new) (append_assoc done (Grow Y ∷ []) (part ++ rest))
      (cut-short q p crew (done ++ (Grow Y ∷ [])) (part ++ rest) old new h.tensors (subst (Rises q.bound) (sym (append_assoc done (Grow Y ∷ []) (part ++ rest))) up) (record {
        replies = w.replies ++ (reply ∷ []);
        admitted = replied-append T P (start q.bound) done (Grow Y ∷ []) w.replies (reply ∷ []) w.admitted (rep, tt);
        cut = subst (AppendsPrefix old new) (sym (text-append w.replies (reply ∷ []))) (AppendsPrefix-more old mid new (lines_text w.replies) (line_text reply) [] w.appended cut);
      }))
  cut-next reply new rep up (inr s) =
      let T = tensors_of p in let w = h.wrote in let P = IsAdmitted (session_of p crew) in
      let v = s.2 (grown T Y st) stands finished in
      subst (λ ls. CutShort (session_of q crew) q.bound ls old new) (append_assoc done (Grow Y ∷ part) rest)
      (cut-short q p crew (done ++ (Grow Y ∷ part)) rest old new h.tensors (subst (Rises q.bound) (sym (append_assoc done (Grow Y ∷ part) rest)) up) (record {
        replies = w.replies ++ (reply ∷ v.replies);
        admitted = replied-append T P (start q.bound) done (Grow Y ∷ part) w.replies (reply ∷ v.replies) w.admitted (rep, v.admitted);
        cut = subst (AppendsPrefix old new)
            (ap (λ x. (lines_text w.replies ++ line_text reply) ++ x) (append-nil (lines_text v.replies)) ∙ append_assoc (lines_text w.replies) (line_text reply) (lines_text v.replies) ∙ sym (text-append w.replies (reply ∷ v.replies)))
            (AppendsPrefix-more old s.0 new (lines_text w.replies ++ line_text reply) (lines_text v.replies) [] (Appends-trans old mid s.0 _ _ w.appended s.1) v.cut);
      }))

-- ---- answers and errors

pub ok_of : {T E P : Type 0} (r : Result T E) (x : T) → r ≡ Ok x → OnOk r P → P
ok_of (Ok y) x e h = h
ok_of (Err y) x e h = cc

pub err_of : {T E P : Type 0} (r : Result T E) (x : E) → r ≡ Err x → OnErr r P → P
err_of (Ok y) x e h = cc
err_of (Err y) x e h = h
