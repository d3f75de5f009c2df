-- A reading from left to right that stops at the first bad word refuses the first refused word.
use Rattle.std.proofs.Common.{◌≡◌, ◌⊎◌, inl, inr, ℕ, suc, ◌+◌, ◌<◌, ◌≤◌, List, [], ◌∷◌, ◌++◌, length, take, drop, refl, sym, ap, ◌∙◌, subst, arith, Option, Some, None}
use Rattle.std.proofs.lemmas.List.{length-append, take-append-le, take-append-drop}
use Rattle.std.proofs.lemmas.Bool.{cases_lt}
use Rattle.command_words.specs.Refusals.{BeginsOne, IsFirstRefused, FindsFirst}
use Rattle.airy_math.proofs.EachLemmas.{take-one_more, parted}

some_is : (a b : ℕ) → Some a ≡ Some b → a ≡ b
some_is a b e = cc

clash : (n : ℕ) (o : Option ℕ) → o ≡ Some n → o ≡ None → ⊥
clash n o e f = cc

-- The words, the first of which has the number p, are refused with n: at a word that no words behind it mend, where other words in its
-- place would do; or where more words would do.
pub data Stops (G : List (List ℕ) → Option ℕ) (p : ℕ) (ws : List (List ℕ)) (n : ℕ) : Type 0 where
  wrong : (done : List (List ℕ)) (w : List ℕ) (rest : List (List ℕ)) → ws ≡ done ++ (w ∷ rest) → n ≡ p + length done
      → (more : List (List ℕ)) → G (done ++ more) ≡ None → ((xs : List (List ℕ)) → G (done ++ (w ∷ xs)) ≡ Some n) → Stops G p ws n
  missing : n ≡ p + length ws → (more : List (List ℕ)) → G (ws ++ more) ≡ None → Stops G p ws n

pub behind : (G H : List (List ℕ) → Option ℕ) (p n : ℕ) (w : List ℕ) (ws : List (List ℕ)) → ((xs : List (List ℕ)) → H (w ∷ xs) ≡ G xs)
    → Stops G (p + 1) ws n → Stops H p (w ∷ ws) n
behind G H p n w ws e (wrong done v rest is place more fine all) =
    wrong (w ∷ done) v rest (ap (λ x. w ∷ x) is) (omega (arith, place)) more (e (done ++ more) ∙ fine) (λ xs. e (done ++ (v ∷ xs)) ∙ all xs)
behind G H p n w ws e (missing place more fine) = missing (omega (arith, place)) more (e (ws ++ more) ∙ fine)

pub here : (G : List (List ℕ) → Option ℕ) (p n : ℕ) (w : List ℕ) (ws more : List (List ℕ)) → G more ≡ None
    → ((xs : List (List ℕ)) → G (w ∷ xs) ≡ Some p) → G (w ∷ ws) ≡ Some n → Stops G p (w ∷ ws) n
here G p n w ws more fine all e =
    let is = some_is p n (sym (all ws) ∙ e) in wrong [] w ws refl (omega (arith, is)) more fine (λ xs. all xs ∙ ap Some is)

pub at_end : (G : List (List ℕ) → Option ℕ) (p n : ℕ) (more : List (List ℕ)) → G more ≡ None → G [] ≡ Some p ⊎ (G [] ≡ None)
    → G [] ≡ Some n → Stops G p [] n
at_end G p n more fine (inl lacks) e = let is = some_is p n (sym lacks ∙ e) in missing (omega (arith, is)) more fine
at_end G p n more fine (inr none) e = absurd (clash n (G []) e none)

-- the same of what is read alike
pub along : (G H : List (List ℕ) → Option ℕ) (p : ℕ) (ws : List (List ℕ)) (n : ℕ) → ((xs : List (List ℕ)) → H xs ≡ G xs) → Stops G p ws n → Stops H p ws n
along G H p ws n e (wrong done w rest is place more fine all) = wrong done w rest is place more (e (done ++ more) ∙ fine) (λ xs. e (done ++ (w ∷ xs)) ∙ all xs)
along G H p ws n e (missing place more fine) = missing place more (e (ws ++ more) ∙ fine)

-- ---- the first refused word, by what breaks the rules of the words, and what is refused in all

module _ (G H : List (List ℕ) → Option ℕ) where
  begins : (k : ℕ) (ws more : List (List ℕ)) → G (ws ++ more) ≡ None → BeginsOne G (take k ws)
  begins k ws more fine = (drop k ws ++ more, sym (ap G (parted k ws more)) ∙ fine)

  begins_worded : (k : ℕ) (ws : List (List ℕ)) → G ws ≡ None → BeginsOne G (take k ws)
  begins_worded k ws worded = (drop k ws, ap G (take-append-drop k ws) ∙ worded)

  first_of : (ws : List (List ℕ)) (n : ℕ) → H ws ≡ Some n → Stops G 1 ws n → IsFirstRefused G H ws n
  first_of ws n e (missing place more fine) = record {
    before = λ k h. begins k ws more fine;
    within = λ h b. absurd (omega (arith, place, h));
    missing = λ h. (omega (arith, place), λ accepted. clash n (H ws) e accepted);
  }
  first_of ws n e (wrong done w rest is place more fine all) = record {
    before = λ k h. subst (BeginsOne G) (sym (within k (omega (arith, place, h)))) (begins k done more fine);
    within = λ h b. clash n _ (ap (λ x. G (x ++ b.0)) (begun (omega (arith, place))) ∙ ap G (take-one_more done rest b.0 w) ∙ all b.0) b.1;
    missing = λ h. absurd (omega (arith, place, h, ap length is, length-append done (w ∷ rest)));
  }
    where
      within : (k : ℕ) → k ≤ length done → take k ws ≡ take k done
      within k h = ap (λ x. take k x) is ∙ take-append-le k done (w ∷ rest) h

      begun : n ≡ suc (length done) → take n ws ≡ take (suc (length done)) (done ++ (w ∷ rest))
      begun m = ap (λ k. take k ws) m ∙ ap (λ x. take (suc (length done)) x) is

  -- words that break a rule are refused there, and others nowhere, or behind all of them
  abbrev pub Settles : List (List ℕ) → Type 0
  Settles ws = (H ws ≡ G ws) ⊎ ((G ws ≡ None) × (H ws ≡ Some (length ws + 1)))

  not_accepted : (ws : List (List ℕ)) (n : ℕ) → Settles ws → IsFirstRefused G H ws n → H ws ≡ None → ⊥
  not_accepted ws n (inr (worded, e)) is accepted = clash _ (H ws) e accepted
  not_accepted ws n (inl same) is accepted = by (cases_lt (length ws) n)
    where
      by : (length ws < n) ⊎ (n ≤ length ws) → ⊥
      by (inl more) = (is.missing more).1 accepted
      by (inr h) = is.within h (begins_worded n ws (sym same ∙ accepted))

  not_below : (ws : List (List ℕ)) (m n : ℕ) → IsFirstRefused G H ws m → IsFirstRefused G H ws n → m < n → ⊥
  not_below ws m n a b less = by (cases_lt (length ws) m)
    where
      by : (length ws < m) ⊎ (m ≤ length ws) → ⊥
      by (inl more) = omega (arith, (a.missing more).0, (b.missing (omega (arith, more, less))).0, less)
      by (inr h) = a.within h (b.before m less)

  one_first : (ws : List (List ℕ)) (m n : ℕ) → IsFirstRefused G H ws m → IsFirstRefused G H ws n → m ≡ n
  one_first ws m n a b = by (cases_lt m n) (cases_lt n m)
    where
      by : (m < n) ⊎ (n ≤ m) → (n < m) ⊎ (m ≤ n) → m ≡ n
      by (inl less) o = absurd (not_below ws m n a b less)
      by (inr h) (inl less) = absurd (not_below ws n m b a less)
      by (inr h) (inr k) = omega (arith, h, k)

  first : ((ws : List (List ℕ)) (n : ℕ) → G ws ≡ Some n → Stops G 1 ws n) → (ws : List (List ℕ)) (n : ℕ) → Settles ws → H ws ≡ Some n → IsFirstRefused G H ws n
  first stops ws n (inl same) e = first_of ws n e (stops ws n (sym same ∙ e))
  first stops ws n (inr (worded, is)) e = let place = some_is _ n (sym is ∙ e) in record {
    before = λ k h. begins_worded k ws worded;
    within = λ h b. absurd (omega (arith, place, h));
    missing = λ h. (sym place, λ accepted. clash n (H ws) e accepted);
  }

  -- what always stops so refuses the first refused word
  pub finds_first : ((ws : List (List ℕ)) (n : ℕ) → G ws ≡ Some n → Stops G 1 ws n) → ((ws : List (List ℕ)) → Settles ws)
      → (found : Option ℕ) (ws : List (List ℕ)) → found ≡ H ws → FindsFirst G H found ws
  finds_first stops settles found ws same n = (λ e. first stops ws n (settles ws) (sym same ∙ e), λ is. same ∙ by (H ws) refl is)
    where
      by : (o : Option ℕ) → H ws ≡ o → IsFirstRefused G H ws n → H ws ≡ Some n
      by None e is = absurd (not_accepted ws n (settles ws) is e)
      by (Some m) e is = e ∙ ap Some (one_first ws m n (first stops ws m (settles ws) e) is)
