-- Texts that are written one after the other, and a part of the last.
use Rattle.std.proofs.Common.{◌≡◌, ℕ, zero, suc, ◌+◌, ◌-◌, ◌<◌, ◌≤◌, Bool, List, [], ◌++◌, refl, sym, ap, ◌∙◌, subst, arith, append_assoc, append-nil, length-append, Ok, Err, Result, Option, codes}
use Rattle.std.specs.Io.KnownBytes.{Appends}
use Rattle.std.proofs.lemmas.List.{take-append-le}
use Rattle.airy_io.specs.Causes.{AppendsPrefix, Taking, Writes}
use Rattle.airy_io.proofs.Prefixes.{AppendsPrefix-more, AppendsPrefix-longer}
use Rattle.airy_math.specs.declared.Law.{Law}
use Rattle.airy_math.specs.declared.Shape.TheVariants.{Exact}
use Rattle.tensor_text.specs.Canonical.{law_text, shape_text}
use Rattle.tensor_text.specs.Pieces.{each_from, first_in}
use Rattle.sparse_tensor.specs.declared.parts.Part.{Part}
use Rattle.sparse_tensor.specs.declared.parts.Part.TheVariants.{A, B, C}
use Rattle.std.proofs.KnownBytes.{Appends-trans, Appends-nil}

cut_behind : (a b c : Option (List ℕ)) (xs ys : List ℕ) → Appends a b xs → AppendsPrefix b c ys → AppendsPrefix a c (xs ++ ys)
cut_behind a b c xs ys p q = subst (λ w. AppendsPrefix a c (xs ++ w)) (append-nil ys) (AppendsPrefix-more a b c xs ys [] p q)

-- a part of a text is a part of a longer one
pub cut_first : {T E : Type 0} (xs ys : List ℕ) (a b : Taking) (e : E) → Writes {T = T} xs a b (Err e) → Writes {T = T} (xs ++ ys) a b (Err e)
cut_first xs ys a b e w = record { written = tt; prefix = AppendsPrefix-longer a.taken b.taken xs ys w.prefix; cause = w.cause }

-- what is written behind a text
pub written_behind : {T E : Type 0} (xs ys : List ℕ) (a b c : Taking) (r : Result T E) → Appends a.taken b.taken xs → b.faults ≡ a.faults → Writes ys b c r → Writes (xs ++ ys) a c r
written_behind xs ys a b c (Ok x) p e w = record { written = Appends-trans a.taken b.taken c.taken xs ys p w.written; prefix = tt; cause = rw (← e) w.cause }
written_behind xs ys a b c (Err x) p e w = record { written = tt; prefix = cut_behind a.taken b.taken c.taken xs ys p w.prefix; cause = rw (← e) w.cause }

pub each-split : (f : ℕ → List ℕ) (a m n : ℕ) → each_from f a (m + n) ≡ each_from f a m ++ each_from f (a + m) n
unfolding each_from
each-split f a m zero = let e : m + 0 ≡ m = omega arith in rw e (sym (append-nil (each_from f a m)))
each-split f a m (suc n) =
    let e : m + suc n ≡ suc (m + n) = omega arith in
    let s : a + (m + n) ≡ a + m + n = omega arith in
    rw (e, s, each-split f a m n) (append_assoc (each_from f a m) (each_from f (a + m) n) (f (a + m + n)))

pub each-more : (f : ℕ → List ℕ) (a k : ℕ) → a ≤ k → each_from f a (k + 1 - a) ≡ each_from f a (k - a) ++ f k
unfolding each_from
each-more f a k h =
    let e : k + 1 - a ≡ suc (k - a) = omega arith in
    let s : a + (k - a) ≡ k = omega arith in
    rw e (ap (λ n. each_from f a (k - a) ++ f n) s)

each-one : (f : ℕ → List ℕ) (a : ℕ) → each_from f a 1 ≡ f a
unfolding each_from
each-one f a = let e : a + 0 ≡ a = omega arith in rw e refl

-- the pieces before one, that one and those behind it
each-parts : (f : ℕ → List ℕ) (a n k : ℕ) → a ≤ k → k < a + n → each_from f a n ≡ each_from f a (k - a) ++ (f k ++ each_from f (k + 1) (a + n - (k + 1)))
each-parts f a n k h l =
    let e : n ≡ k - a + (1 + (a + n - (k + 1))) = omega arith in
    let s : a + (k - a) ≡ k = omega arith in
    ap (each_from f a) e ∙ each-split f a (k - a) (1 + (a + n - (k + 1))) ∙ ap (λ w. each_from f a (k - a) ++ w)
    (ap (λ m. each_from f m (1 + (a + n - (k + 1)))) s ∙ each-split f k 1 (a + n - (k + 1)) ∙ ap (λ w. w ++ each_from f (k + 1) (a + n - (k + 1))) (each-one f k))

pub writes_nothing : {T E : Type 0} (a : Taking) (x : T) → Writes {E = E} [] a a (Ok x)
writes_nothing a x = record { written = Appends-nil a.taken; prefix = tt; cause = record { later = omega arith; failed = tt; kept = refl } }

pub has_written : {T E : Type 0} (text : List ℕ) (a b : Taking) (x : T) → Appends a.taken b.taken text → b.faults ≡ a.faults → Writes {E = E} text a b (Ok x)
has_written text a b x p e = record { written = p; prefix = tt; cause = record { later = omega arith; failed = tt; kept = e } }

pub first_within : (letter : Part) (j : ℕ) → first_in letter j ≤ j
first_within A j = omega arith
first_within B j = omega arith
first_within C j = omega arith

-- The pieces from p up to k of those from p on, n in all, are written.
pub record IsWriting (f : ℕ → List ℕ) (p n k : ℕ) (a b : Taking) : Type 0 where
  pub from : p ≤ k
  pub within : k ≤ p + n
  pub written : Appends a.taken b.taken (each_from f p (k - p))
  pub kept : b.faults ≡ a.faults

pub writing_begins : (f : ℕ → List ℕ) (p n k : ℕ) (a : Taking) → k ≡ p → IsWriting f p n k a a
unfolding each_from
writing_begins f p n k a e =
    let none : k - p ≡ 0 = omega arith in
    record { from = omega arith; within = omega arith; written = rw none (Appends-nil a.taken); kept = refl }

module _ {T E : Type 0} (f : ℕ → List ℕ) (p n k : ℕ) (a b : Taking) (is : IsWriting f p n k a b) where
  -- one more piece
  pub writing_next : (c : Taking) (x : T) → k < p + n → Writes {E = E} (f k) b c (Ok x) → IsWriting f p n (k + 1) a c
  writing_next c x l w = record {
    from = omega (arith, is.from);
    within = omega arith;
    written = rw (each-more f p k is.from) (Appends-trans a.taken b.taken c.taken (each_from f p (k - p)) (f k) is.written w.written);
    kept = w.cause.kept ∙ is.kept;
  }

  -- a piece is cut, behind whole ones
  pub writing_cut : (c : Taking) (e : E) → k < p + n → Writes {T = T} (f k) b c (Err e) → Writes {T = T} (each_from f p n) a c (Err e)
  writing_cut c e l w =
      let behind = each_from f (k + 1) (p + n - (k + 1)) in
      subst (λ x. Writes {T = T} x a c (Err e)) (sym (each-parts f p n k is.from l))
      (written_behind (each_from f p (k - p)) (f k ++ behind) a b c (Err e) is.written is.kept (cut_first (f k) behind b c e w))

  -- all pieces
  pub writing_ends : (x : T) → p + n ≤ k → Writes {E = E} (each_from f p n) a b (Ok x)
  writing_ends x l =
      let all : k - p ≡ n = omega (arith, is.from, is.within) in
      has_written (each_from f p n) a b x (subst (λ c. Appends a.taken b.taken (each_from f p c)) all is.written) is.kept

-- an exact law has nothing behind its numbers
pub exact_line : (l : Law) (letter : Bool) → shape_text (Exact l) letter ≡ codes "shape exact" ++ law_text l ++ [] ++ codes "\n"
unfolding shape_text
exact_line l letter = ap (λ w. w ++ codes "\n") (sym (append-nil (codes "shape exact" ++ law_text l)))
