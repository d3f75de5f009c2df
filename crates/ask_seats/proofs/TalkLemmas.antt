-- The lines of a session, one reply after another.
use Rattle.std.proofs.KnownBytes.{Appends-trans}
use Rattle.airy_io.proofs.Prefixes.{AppendsPrefix-more}
use Rattle.ask_seats.proofs.Names.{◌≡◌, ℕ, zero, suc, ◌<◌, ◌≤◌, ◌+◌, Bool, List, [], ◌∷◌, ◌++◌, take, drop, length, get_or, Option, Some, None, arith, refl, sym, ap, ◌∙◌, subst, append-nil, take-append-drop, drop_more, Appends, AppendsPrefix, Key, ListsPlanned, Tensors, IsKey, Planning, tensors_of, Reply, line_text, lines_text, Stage, Replied, IsAdmitted, behind, finish, session_of, AreAsks, Rises, Hears, Stands, stage_after, Wrote, Broke, Line, Ask, Finish, Grow}
use Rattle.ask_seats.proofs.ReplyLemmas.{behind-finished, rises-asks}
use Rattle.ask_seats.proofs.SpeakLemmas.{replied-append, after-append, text-append, hear-admitted, complete}

-- no line is a `finish`
pub asks-at : (lines : List Line) (i : ℕ) (d : Line) → i < length lines → AreAsks lines → AreAsks (get_or lines i d ∷ [])
unfolding AreAsks
asks-at [] i d h a = absurd (omega arith)
asks-at (Ask key ∷ lines) zero d h a = tt
asks-at (Ask key ∷ lines) (suc i) d h a = asks-at lines i d (omega arith) a
asks-at (Finish ∷ lines) i d h a = absurd a
asks-at (Grow X ∷ lines) i d h a = absurd a

-- what one line adds
pub record Line_said (p : Planning) (crew : ℕ) (finished : Option ℕ) (line : Line) (Knew Knows : ℕ → Type 0) (text : List ℕ → Type 0) : Type 0 where
  pub key : Key
  pub asks : line ≡ Ask key
  pub validity_fact : IsKey key.g key.idx
  pub reply : Reply
  pub hears : Hears p crew finished key Knew Knows reply
  pub written : text (line_text reply)

-- the key of a line that asks
pub key_asked : (line : Line) → AreAsks (line ∷ []) → (key : Key) × (line ≡ Ask key)
unfolding AreAsks
key_asked (Ask key) a = (key, refl)
key_asked Finish a = absurd a
key_asked (Grow X) a = absurd a

single_text : (reply : Reply) → lines_text (reply ∷ []) ≡ line_text reply
unfolding lines_text
single_text reply = append-nil (line_text reply)

-- asks leave the bound at the last `finish`
after-asks : (T : Tensors) (st : Stage) (lines : List Line) (replies : List Reply) → AreAsks lines → (stage_after T st lines replies).finished ≡ st.finished
unfolding AreAsks stage_after
after-asks T st [] replies a = refl
after-asks T st (Ask key ∷ lines) [] a = refl
after-asks T st (Ask key ∷ lines) (reply ∷ replies) a = after-asks T (behind st key reply) lines replies a ∙ behind-finished st key reply
after-asks T st (Finish ∷ lines) replies a = absurd a
after-asks T st (Grow X ∷ lines) replies a = absurd a

pub asks-behind : (lines : List Line) (i : ℕ) → AreAsks lines → AreAsks (drop i lines)
unfolding AreAsks
asks-behind lines zero a = a
asks-behind [] (suc i) a = tt
asks-behind (Ask key ∷ lines) (suc i) a = asks-behind lines i a
asks-behind (Finish ∷ lines) (suc i) a = absurd a
asks-behind (Grow Y ∷ lines) (suc i) a = absurd a

module _ (p : Planning) (crew : ℕ) (finished : Option ℕ) (lists : ListsPlanned (tensors_of p) p.bound) where
  pub starts : (Knows : ℕ → Type 0) (st : Stage) (old : Option (List ℕ)) → Appends old old [] → Stands p crew Knows st → st.finished ≡ finished → Wrote p crew finished Knows st [] old old
  unfolding Replied stage_after lines_text
  starts Knows st old none h f = record { replies = []; admitted = tt; appended = none; stands = h; finish = f }

  -- one reply of a line, admitted behind those before
  said-one : (Knew Knows : ℕ → Type 0) (st : Stage) (line : Line) (text : List ℕ → Type 0) → ((r : ℕ) → Knew r → Knows r) → Stands p crew Knew st → st.finished ≡ finished → (l : Line_said p crew finished line Knew Knows text)
      → Replied (tensors_of p) (IsAdmitted (session_of p crew)) st (line ∷ []) (l.reply ∷ []) × Stands p crew Knows (stage_after (tensors_of p) st (line ∷ []) (l.reply ∷ [])) × ((stage_after (tensors_of p) st (line ∷ []) (l.reply ∷ [])).finished ≡ finished)
  unfolding Replied stage_after
  said-one Knew Knows st line text k h f l =
      let step = hear-admitted p crew finished lists Knew Knows l.key l.reply st l.validity_fact h f k l.hears in
      subst (λ x. Replied (tensors_of p) (IsAdmitted (session_of p crew)) st (x ∷ []) (l.reply ∷ []) × Stands p crew Knows (stage_after (tensors_of p) st (x ∷ []) (l.reply ∷ [])) × ((stage_after (tensors_of p) st (x ∷ []) (l.reply ∷ [])).finished ≡ finished)) (sym l.asks)
      ((step.0, tt), step.1, behind-finished st l.key l.reply ∙ f)

  pub goes-on : (Knew Knows : ℕ → Type 0) (st : Stage) (done : List Line) (line : Line) (old mid new : Option (List ℕ)) → ((r : ℕ) → Knew r → Knows r)
      → Wrote p crew finished Knew st done old mid → Line_said p crew finished line Knew Knows (Appends mid new) → Wrote p crew finished Knows st (done ++ (line ∷ [])) old new
  goes-on Knew Knows st done line old mid new k w l =
      let T = tensors_of p in
      let one = said-one Knew Knows (stage_after T st done w.replies) line (Appends mid new) k w.stands w.finish l in
      let same = sym (after-append T (IsAdmitted (session_of p crew)) st done (line ∷ []) w.replies (l.reply ∷ []) w.admitted) in record {
        replies = w.replies ++ (l.reply ∷ []);
        admitted = replied-append T (IsAdmitted (session_of p crew)) st done (line ∷ []) w.replies (l.reply ∷ []) w.admitted one.0;
        appended = subst (Appends old new) (sym (text-append w.replies (l.reply ∷ []) ∙ ap (λ t. lines_text w.replies ++ t) (single_text l.reply))) (Appends-trans old mid new _ _ w.appended l.written);
        stands = subst (Stands p crew Knows) same one.1;
        finish = subst (λ (s : Stage). s.finished ≡ finished) same one.2;
      }

  -- where the sink fails at a line, the replies to the lines behind it are any that are admitted
  pub breaks-off : (Knew Knows : ℕ → Type 0) (st : Stage) (done : List Line) (line : Line) (rest : List Line) (old mid new : Option (List ℕ)) → ((r : ℕ) → Knew r → Knows r) → AreAsks rest
      → Wrote p crew finished Knew st done old mid → Line_said p crew finished line Knew Knows (AppendsPrefix mid new) → Broke p crew st (done ++ (line ∷ rest)) old new
  unfolding lines_text
  breaks-off Knew Knows st done line rest old mid new k asks w l =
      let T = tensors_of p in
      let one = said-one Knew Knows (stage_after T st done w.replies) line (AppendsPrefix mid new) k w.stands w.finish l in
      let behind_one = stage_after T (stage_after T st done w.replies) (line ∷ []) (l.reply ∷ []) in
      let more = complete (session_of p crew) behind_one rest one.1.good (rises-asks behind_one.bound rest asks) in record {
        replies = w.replies ++ (l.reply ∷ more.0);
        admitted = replied-append T (IsAdmitted (session_of p crew)) st done (line ∷ rest) w.replies (l.reply ∷ more.0) w.admitted (replied-append T (IsAdmitted (session_of p crew)) (stage_after T st done w.replies) (line ∷ []) rest (l.reply ∷ []) more.0 one.0 more.1);
        cut = subst (AppendsPrefix old new) (sym (text-append w.replies (l.reply ∷ more.0))) (AppendsPrefix-more old mid new (lines_text w.replies) (line_text l.reply) (lines_text more.0) w.appended l.written);
      }
