-- Each move keeps every rank below the limit.
use Rattle.std.proofs.Common.{ℕ, ◌<◌, All, List, [], ◌∷◌, ◌++◌, length, subst}
use lib.Seq.{take-append_seam, drop-append_seam}
use Rattle.std.proofs.lemmas.List.Elements.{All-append, All-take, All-drop}
use Rattle.crossbeam_deque.specs.Tasks.{Pushes, Takes, Pops}

module _ (n : ℕ) where
  abbrev low : ℕ → Type 0
  low x = x < n

  abbrev Holds : List ℕ → List (Unit {0}) → Type 0
  Holds items _ = All low items

  left : (xs ys : List ℕ) → All low (xs ++ ys) → All low xs
  left xs ys h = subst (All low) (take-append_seam xs ys) (All-take low (length xs) (xs ++ ys) h)

  right : (xs ys : List ℕ) → All low (xs ++ ys) → All low ys
  right xs ys h = subst (All low) (drop-append_seam xs ys) (All-drop low (length xs) (xs ++ ys) h)

  pub pushes : (port : ℕ) (v : Unit {0}) (xs : List ℕ) → All low xs → Pushes Holds port v xs (λ _. All low xs)
  pushes port v xs new items views h _ = (tt, All-append low items xs h new, new)

  pub takes : (port : ℕ) (v : Unit {0}) (most : ℕ) → Takes Holds port v most (λ xs _. All low xs)
  takes port v most xs items views _ _ h _ = (tt, right xs items h, left xs items h)

  pub pops : (port : ℕ) (v : Unit {0}) → Pops Holds port v (λ xs _. All low xs)
  pops port v x items views h _ = (tt, left items (x ∷ []) h, right items (x ∷ []) h)
