-- Terms that are added one list of lists after the other.
use Rattle.std.proofs.Common.{◌≡◌, ℕ, ◌+◌, ◌-◌, List, [], ◌∷◌, ◌++◌, sym, ap, subst, ◌∙◌}
use Rattle.correlators.proofs.Words.{ℚ, each, each-append, Planning, Term, term_of, parts_of, lists_of_sum, AddsTerms, behind}
use Rattle.airy_math.proofs.EachLemmas.{append_assoc}
use Rattle.airy_math.proofs.KeyLemmas.{append-nil}
use Rattle.correlators.proofs.ListLemmas.{first_lists, behind-next}

module _ (p : Planning) (g n : ℕ) (numbers : List ℚ) where
  pub adds-none : (ls : List (List ℕ)) (terms : List Term) → ls ≡ [] → AddsTerms p g n numbers ls terms terms
  unfolding AddsTerms each
  adds-none ls terms e = λ cells are. sym (ap (λ l. parts_of terms ++ each l (term_of p cells g)) e ∙ append-nil (parts_of terms))

  pub adds-both : (ls ms : List (List ℕ)) (old mid new : List Term) → AddsTerms p g n numbers ls old mid → AddsTerms p g n numbers ms mid new → AddsTerms p g n numbers (ls ++ ms) old new
  unfolding AddsTerms
  adds-both ls ms old mid new a b = λ cells are.
      b cells are ∙ ap (λ l. l ++ each ms (term_of p cells g)) (a cells are)
      ∙ append_assoc (parts_of old) (each ls (term_of p cells g)) (each ms (term_of p cells g))
      ∙ ap (λ l. parts_of old ++ l) (sym (each-append ls ms (term_of p cells g)))

  -- the lists that begin with the prefix and then s - k
  pub adds-next : (prefix next : List ℕ) (m s k : ℕ) (old mid new : List Term) → next ≡ prefix ++ (s - k) ∷ []
      → AddsTerms p g n numbers (behind prefix (first_lists m s k)) old mid → AddsTerms p g n numbers (behind next (lists_of_sum m k)) mid new
      → AddsTerms p g n numbers (behind prefix (first_lists m s (k + 1))) old new
  adds-next prefix next m s k old mid new e a b =
      subst (λ l. AddsTerms p g n numbers l old new) (ap (λ l. behind prefix (first_lists m s k) ++ behind l (lists_of_sum m k)) e ∙ sym (behind-next prefix m s k))
      (adds-both (behind prefix (first_lists m s k)) (behind next (lists_of_sum m k)) old mid new a b)
