-- The five expressions of widened tensors are those of the tensors, times the letter's power, and so are their relations.
use Rattle.std.proofs.Common.{ℕ, zero, suc, ◌+◌, ◌<◌, ◌≤◌, ◌≡◌, refl, sym, ap, ap₂, ◌∙◌, List, [], ◌∷◌, inl, inr, add_comm, arith, ℤ, pos, ◌+ℤ◌, ◌*ℤ◌, ◌-ℤ◌}
use Rattle.std.proofs.lemmas.Int.{ints}
use Rattle.airy_math.specs.Rational.{ℚ, ◌+ℚ◌, ◌*ℚ◌}
use Rattle.airy_math.specs.RationalLaws.{0ℚ, half, 0ℚ_idl, 0ℚ-*ℚ, *ℚ_distrib, *ℚ_left_comm, products_q}
use Rattle.airy_math.specs.Sums.{sum_over, below}
use Rattle.airy_math.specs.declared.Shape.{Shape}
use Rattle.airy_math.specs.Shapes.{Keeps, per_g, per_n}
use Rattle.airy_math.specs.Tensors.{Tensors, IsGraded}
use Rattle.airy_math.specs.Relations.{rel_AA, rel_BA, rel_BB, rel_BC, rel_D}
use Rattle.airy_math.specs.Cuts.{outer, if_none, power, room, letter_a, letter_b, letter_c, letter_d}
use Rattle.airy_math.specs.Families.{widened}
use Rattle.airy_math.proofs.SumLemmas.{sum-cong, sum-scale, *ℚ-0ℚ}
use Rattle.airy_math.proofs.KeyLemmas.{AllBelow}
use Rattle.airy_math.proofs.GradedLaw.{Or, times_or}
use Rattle.airy_math.proofs.CompareLemmas.{past, if_none-plus, sum-inside}
use Rattle.airy_math.proofs.CutLaw.{power-plus, if_none-zero, room-add, if_none-move}
use Rattle.series_law.specs.Letters.{exponent_BA, exponent_BB, exponent_BC, exponent_D, AreByPower, WidenedExpressionsLaw, WidenedRelationsLaw}
use Rattle.airy_math.proofs.ExactLaw.{outer-below}

-- ---- brackets

bracket_out : (n : ℕ) (w x : ℚ) → if_none n w *ℚ x ≡ if_none n (w *ℚ x)
unfolding if_none
bracket_out zero w x = refl
bracket_out (suc n) w x = 0ℚ-*ℚ x

none_or_both : (n t : ℕ) (z : ℚ) → 0 < n + (t + t) → 0ℚ ≡ if_none t (if_none n z)
unfolding if_none
none_or_both zero zero z h = absurd (omega arith)
none_or_both zero (suc t) z h = refl
none_or_both (suc n) t z h = sym (if_none-zero t)

-- two brackets, with t in both of them
bracket_twice : (p q n t : ℕ) (u w : ℚ) → p + q ≡ n + (t + t) → if_none p u *ℚ if_none q w ≡ if_none t (if_none n (u *ℚ w))
unfolding if_none
bracket_twice zero zero zero zero u w h = refl
bracket_twice zero zero zero (suc t) u w h = absurd (omega arith)
bracket_twice zero zero (suc n) t u w h = absurd (omega arith)
bracket_twice zero (suc q) n t u w h = *ℚ-0ℚ u ∙ none_or_both n t (u *ℚ w) (omega arith)
bracket_twice (suc p) q n t u w h = 0ℚ-*ℚ _ ∙ none_or_both n t (u *ℚ w) (omega arith)

bracket_three : (t : ℕ) (w x y z : ℚ) → if_none t (w *ℚ x) +ℚ if_none t (w *ℚ y) +ℚ if_none t (w *ℚ z) ≡ if_none t (w *ℚ (x +ℚ y +ℚ z))
unfolding if_none
bracket_three zero w x y z = sym (*ℚ_distrib w (x +ℚ y) z ∙ ap (λ u. u +ℚ w *ℚ z) (*ℚ_distrib w x y))
bracket_three (suc t) w x y z = ap (λ u. u +ℚ 0ℚ) (0ℚ_idl 0ℚ) ∙ 0ℚ_idl 0ℚ

-- ---- products of two entries

-- an entry, how many of its indices are beyond T's, and the two numbers that the shape compares
record Entry (s : Shape) : Type 0 where
  value : ℚ
  beyond : ℕ
  x : ℤ
  y : ℤ
  keeps : Or value (Keeps s x y)

-- the indices of two entries that share an index, t beyond T's, and their numbers add up
record AddUp {s : Shape} (f g : Entry s) (n t : ℕ) (X Y : ℤ) : Type 0 where
  beyond : f.beyond + g.beyond ≡ n + (t + t)
  x : X ≡ f.x +ℤ g.x
  y : Y ≡ f.y +ℤ g.y

module _ (T : Tensors) (gr : IsGraded T) (m : ℕ) (v : ℚ) (wide : T.dim ≤ m) where
  -- the entry, read with v in the letter's place
  unfoldable read : Entry T.shape → ℚ
  read f = power v (room T.shape f.x f.y) *ℚ if_none f.beyond f.value

  -- the letter's power, and 0 at a place with an index beyond T's
  unfoldable weight : ℕ → ℤ → ℤ → ℚ
  weight n X Y = if_none n (power v (room T.shape X Y))

  product : (f g : Entry T.shape) (n t : ℕ) (X Y : ℤ) → AddUp f g n t X Y → read f *ℚ read g ≡ if_none t (weight n X Y *ℚ (f.value *ℚ g.value))
  unfolding read weight
  product f g n t X Y h =
      ap₂ ◌*ℚ◌ (if_none-move f.beyond (power v e) f.value) (if_none-move g.beyond (power v e') g.value) ∙ crossed _ f.value _ g.value
      ∙ ap (λ u. u *ℚ z) (bracket_twice f.beyond g.beyond n t (power v e) (power v e') h.beyond ∙ ap (λ u. if_none t (if_none n u)) (sym (power-plus v e e')))
      ∙ bracket_out t _ z ∙ ap (if_none t) (by (times_or f.value g.value _ _ (room T.shape X Y ≡ e + e') f.keeps g.keeps (λ k k'. room-add T.shape f.x g.x f.y g.y X Y k k' h.x h.y)))
    where
      e : ℕ
      e = room T.shape f.x f.y

      e' : ℕ
      e' = room T.shape g.x g.y

      z : ℚ
      z = f.value *ℚ g.value

      crossed : (a x b y : ℚ) → (a *ℚ x) *ℚ (b *ℚ y) ≡ (a *ℚ b) *ℚ (x *ℚ y)
      crossed a x b y = simp products_q

      by : Or z (room T.shape X Y ≡ e + e') → if_none n (power v (e + e')) *ℚ z ≡ if_none n (power v (room T.shape X Y)) *ℚ z
      by (inl q) = ap (λ u. if_none n (power v (e + e')) *ℚ u) q ∙ *ℚ-0ℚ _ ∙ sym (*ℚ-0ℚ _) ∙ ap (λ u. if_none n (power v (room T.shape X Y)) *ℚ u) (sym q)
      by (inr q) = ap (λ r. if_none n (power v r) *ℚ z) (sym q)

  -- ---- sums

  sum_inside : (w : ℚ) (F G : ℕ → ℚ) → ((a : ℕ) → F a ≡ if_none (past T.dim a) (w *ℚ G a)) → sum_over (below m) F ≡ w *ℚ sum_over (below T.dim) G
  sum_inside w F G h = sum-cong F (λ a. if_none (past T.dim a) (w *ℚ G a)) (below m) h ∙ sum-inside T.dim m (λ a. w *ℚ G a) wide ∙ sym (sum-scale w G (below T.dim))

  sum_three : (n : ℕ) (X Y : ℤ) (f f' g g' h h' : ℕ → Entry T.shape)
      → ((a : ℕ) → AddUp (f a) (f' a) n (past T.dim a) X Y) → ((a : ℕ) → AddUp (g a) (g' a) n (past T.dim a) X Y) → ((a : ℕ) → AddUp (h a) (h' a) n (past T.dim a) X Y)
      → sum_over (below m) (λ a. read (f a) *ℚ read (f' a) +ℚ read (g a) *ℚ read (g' a) +ℚ read (h a) *ℚ read (h' a))
      ≡ power v (room T.shape X Y) *ℚ if_none n (sum_over (below T.dim) (λ a. (f a).value *ℚ (f' a).value +ℚ (g a).value *ℚ (g' a).value +ℚ (h a).value *ℚ (h' a).value))
  unfolding weight
  sum_three n X Y f f' g g' h h' p q r =
      sum_inside (weight n X Y) _ _ (λ a.
      ap₂ ◌+ℚ◌ (ap₂ ◌+ℚ◌ (product (f a) (f' a) n (past T.dim a) X Y (p a)) (product (g a) (g' a) n (past T.dim a) X Y (q a))) (product (h a) (h' a) n (past T.dim a) X Y (r a))
      ∙ bracket_three (past T.dim a) (weight n X Y) _ _ _)
      ∙ sym (if_none-move n (power v (room T.shape X Y)) _)

  -- ---- the entries of T

  ea : ℕ → ℕ → ℕ → Entry T.shape
  ea i j k = record { value = T.A i j k; beyond = outer T.dim (i ∷ j ∷ k ∷ []); x = pos (i + j + k); y = pos 3 *ℤ per_n T.shape -ℤ per_g T.shape; keeps = gr.A i j k }

  eb : ℕ → ℕ → ℕ → Entry T.shape
  eb i j k = record { value = T.B i j k; beyond = outer T.dim (i ∷ j ∷ k ∷ []); x = pos (i + j) -ℤ pos k; y = per_n T.shape; keeps = gr.B i j k }

  ec : ℕ → ℕ → ℕ → Entry T.shape
  ec i j k = record { value = T.C i j k; beyond = outer T.dim (i ∷ j ∷ k ∷ []); x = pos i -ℤ pos (j + k); y = per_g T.shape -ℤ per_n T.shape; keeps = gr.C i j k }

  ed : ℕ → Entry T.shape
  ed i = record { value = T.D i; beyond = outer T.dim (i ∷ []); x = pos i; y = per_n T.shape; keeps = gr.D i }

  -- ---- the five expressions

  by_power : AreByPower T m v
  unfolding rel_AA rel_BA rel_BB rel_BC rel_D widened exponent_BA exponent_BB exponent_BC exponent_D letter_a letter_b letter_c letter_d read weight ea eb ec ed outer past
  by_power = record {
    AA = λ i j k. refl;
    BA = λ i j k l.
        sum_three (outer T.dim (i ∷ j ∷ k ∷ l ∷ [])) (pos (i + j + k + l)) (pos 4 *ℤ per_n T.shape -ℤ per_g T.shape)
        (λ a. eb i j a) (λ a. ea a k l) (λ a. eb i k a) (λ a. ea j a l) (λ a. eb i l a) (λ a. ea j a k)
        (λ a. record { beyond = omega arith; x = omega (arith, ints); y = omega (arith, ints) })
        (λ a. record { beyond = omega arith; x = omega (arith, ints); y = omega (arith, ints) })
        (λ a. record { beyond = omega arith; x = omega (arith, ints); y = omega (arith, ints) });
    BB = λ i j k l.
        sum_three (outer T.dim (i ∷ j ∷ k ∷ l ∷ [])) (pos (i + j + k) -ℤ pos l) (pos 2 *ℤ per_n T.shape)
        (λ a. eb i j a) (λ a. eb a k l) (λ a. eb i k a) (λ a. eb j a l) (λ a. ec i l a) (λ a. ea j a k)
        (λ a. record { beyond = omega arith; x = omega (arith, ints); y = omega (arith, ints) })
        (λ a. record { beyond = omega arith; x = omega (arith, ints); y = omega (arith, ints) })
        (λ a. record { beyond = omega arith; x = omega (arith, ints); y = omega (arith, ints) });
    BC = λ i j k l.
        sum_three (outer T.dim (i ∷ j ∷ k ∷ l ∷ [])) (pos (i + j) -ℤ pos (k + l)) (per_g T.shape)
        (λ a. eb i j a) (λ a. ec a k l) (λ a. ec i k a) (λ a. eb j a l) (λ a. ec i l a) (λ a. eb j a k)
        (λ a. record { beyond = omega arith; x = omega (arith, ints); y = omega (arith, ints) })
        (λ a. record { beyond = omega arith; x = omega (arith, ints); y = omega (arith, ints) })
        (λ a. record { beyond = omega arith; x = omega (arith, ints); y = omega (arith, ints) });
    D = λ i j. at_D i j (outer T.dim (i ∷ j ∷ [])) (pos (i + j)) (pos 2 *ℤ per_n T.shape)
        (λ a. record { beyond = omega arith; x = omega (arith, ints); y = omega (arith, ints) })
        (λ a b. record { beyond = omega arith; x = omega (arith, ints); y = omega (arith, ints) });
  }
    where
      half_in : (w x y : ℚ) → w *ℚ x +ℚ half *ℚ (w *ℚ y) ≡ w *ℚ (x +ℚ half *ℚ y)
      half_in w x y = ap (λ t. w *ℚ x +ℚ t) (*ℚ_left_comm half w y) ∙ sym (*ℚ_distrib w x (half *ℚ y))

      at_D : (i j n : ℕ) (X Y : ℤ) → ((a : ℕ) → AddUp (eb i j a) (ed a) n (past T.dim a) X Y)
          → ((a b : ℕ) → AddUp (ec i a b) (ea j a b) n (past T.dim b + past T.dim a) X Y)
          → rel_D (widened T m v) i j ≡ power v (room T.shape X Y) *ℚ if_none n (rel_D T i j)
      at_D i j n X Y p q =
          ap₂ (λ x y. x +ℚ half *ℚ y)
          (sum_inside w _ (λ a. T.B i j a *ℚ T.D a) (λ a. product (eb i j a) (ed a) n (past T.dim a) X Y (p a)))
          (sum_inside w _ (λ a. sum_over (below T.dim) (λ b. T.C i a b *ℚ T.A j a b)) (λ a.
          sum_inside (if_none (past T.dim a) w) _ (λ b. T.C i a b *ℚ T.A j a b) (λ b.
          product (ec i a b) (ea j a b) n (past T.dim b + past T.dim a) X Y (q a b)
          ∙ if_none-plus (past T.dim b) (past T.dim a) _ ∙ ap (if_none (past T.dim b)) (sym (bracket_out (past T.dim a) w _)))
          ∙ bracket_out (past T.dim a) w _))
          ∙ half_in w _ (sum_over (below T.dim) (λ a. sum_over (below T.dim) (λ b. T.C i a b *ℚ T.A j a b)))
          ∙ sym (if_none-move n (power v (room T.shape X Y)) _)
        where
          w : ℚ
          w = weight n X Y

pub widened_expressions : WidenedExpressionsLaw
widened_expressions T gr m v wide = by_power T gr m v wide

-- ---- the relations

-- an expression at a place, and at the place with i and j exchanged
exchanged : (m i j : ℕ) (xs : List ℕ) (w : ℕ → ℚ) (x x' : ℚ) → (AllBelow m (i ∷ j ∷ xs) → x ≡ x')
    → w (i + j) *ℚ if_none (outer m (i ∷ j ∷ xs)) x ≡ w (j + i) *ℚ if_none (outer m (j ∷ i ∷ xs)) x'
unfolding if_none outer
exchanged m i j xs w x x' h = ap₂ ◌*ℚ◌ (ap w (add_comm i j)) (by (outer m (i ∷ j ∷ xs)) refl ∙ ap (λ n. if_none n x') (swap i j xs))
  where
    by : (n : ℕ) → outer m (i ∷ j ∷ xs) ≡ n → if_none n x ≡ if_none n x'
    by zero q = h (outer-below m (i ∷ j ∷ xs) q)
    by (suc n) q = refl

    swap : (i j : ℕ) (xs : List ℕ) → outer m (i ∷ j ∷ xs) ≡ outer m (j ∷ i ∷ xs)
    swap i j xs = omega arith

pub widened_relations : WidenedRelationsLaw
unfolding letter_a exponent_BA exponent_BB exponent_BC exponent_D
widened_relations T gr c m v wide = record {
  AA = λ i j k p q r. e.AA i j k ∙ exchanged T.dim i j (k ∷ []) (λ n. at (pos (n + k)) (pos 3 *ℤ per_n T.shape -ℤ per_g T.shape)) _ _ (λ b. c.AA i j k b.0 b.1.0 b.1.1.0) ∙ sym (e.AA j i k);
  BA = λ i j k l p q r t. e.BA i j k l ∙ exchanged T.dim i j (k ∷ l ∷ []) (λ n. at (pos (n + k + l)) (pos 4 *ℤ per_n T.shape -ℤ per_g T.shape)) _ _ (λ b. c.BA i j k l b.0 b.1.0 b.1.1.0 b.1.1.1.0) ∙ sym (e.BA j i k l);
  BB = λ i j k l p q r t. e.BB i j k l ∙ exchanged T.dim i j (k ∷ l ∷ []) (λ n. at (pos (n + k) -ℤ pos l) (pos 2 *ℤ per_n T.shape)) _ _ (λ b. c.BB i j k l b.0 b.1.0 b.1.1.0 b.1.1.1.0) ∙ sym (e.BB j i k l);
  BC = λ i j k l p q r t. e.BC i j k l ∙ exchanged T.dim i j (k ∷ l ∷ []) (λ n. at (pos n -ℤ pos (k + l)) (per_g T.shape)) _ _ (λ b. c.BC i j k l b.0 b.1.0 b.1.1.0 b.1.1.1.0) ∙ sym (e.BC j i k l);
  D = λ i j p q. e.D i j ∙ exchanged T.dim i j [] (λ n. at (pos n) (pos 2 *ℤ per_n T.shape)) _ _ (λ b. c.D i j b.0 b.1.0) ∙ sym (e.D j i);
}
  where
    e : AreByPower T m v
    e = widened_expressions T gr m v wide

    at : ℤ → ℤ → ℚ
    at X Y = power v (room T.shape X Y)
