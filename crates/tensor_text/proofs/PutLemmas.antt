-- What becomes of an entry, by what putting it answers.
use Rattle.std.proofs.Common.{◌≡◌, Bool, true, false, cond, refl, sym, ap, Ok, Err, Result}
use Rattle.airy_math.specs.Rational.{ℚ}
use Rattle.airy_math.specs.Tensors.{is_zero}
use Rattle.sparse_tensor.specs.declared.tensors.PutErr.{PutErr}
use Rattle.sparse_tensor.specs.declared.tensors.PutErr.TheVariants as puts
use Rattle.sparse_tensor.specs.Entries.{Entries}
use Rattle.sparse_tensor.specs.Puts.{putting, IsPut}
use Rattle.tensor_text.specs.declared.refusals.LineKind.TheVariants.{Grade, Twice}
use Rattle.tensor_text.specs.Grammar.{Stored, Fails, stored}
use Rattle.tensor_text.specs.Steps.{Stores, refused_put}

by_answer : (r : Result Unit PutErr) (zero graded taken : Bool) (old with new : Entries) → IsPut r (putting true zero graded taken) old with new
    → Stores (refused_put r) new (cond zero (Stored with) (cond graded (cond taken (Fails Twice) (Stored with)) (Fails Grade)))
unfolding putting
by_answer (Ok x) true graded taken old with new p = ap Stored (sym p.put)
by_answer (Ok x) false true false old with new p = ap Stored (sym p.put)
by_answer (Ok x) false true true old with new p = let e = p.twice.1 refl in cc
by_answer (Ok x) false false taken old with new p = let e = p.grade.1 refl in cc
by_answer (Err puts.NoMemory) zero graded taken old with new p = tt
by_answer (Err puts.Twice) true graded taken old with new p = let e = p.twice.0 refl in cc
by_answer (Err puts.Twice) false true true old with new p = refl
by_answer (Err puts.Twice) false true false old with new p = let e = p.twice.0 refl in cc
by_answer (Err puts.Twice) false false taken old with new p = let e = p.twice.0 refl in cc
by_answer (Err puts.Index) true graded taken old with new p = let e = p.index.0 refl in cc
by_answer (Err puts.Index) false true true old with new p = let e = p.index.0 refl in cc
by_answer (Err puts.Index) false true false old with new p = let e = p.index.0 refl in cc
by_answer (Err puts.Index) false false taken old with new p = let e = p.index.0 refl in cc
by_answer (Err puts.Grade) true graded taken old with new p = let e = p.grade.0 refl in cc
by_answer (Err puts.Grade) false true true old with new p = let e = p.grade.0 refl in cc
by_answer (Err puts.Grade) false true false old with new p = let e = p.grade.0 refl in cc
by_answer (Err puts.Grade) false false taken old with new p = refl

pub puts_here : (r : Result Unit PutErr) (inside graded taken : Bool) (v : ℚ) (old with new : Entries) → inside ≡ true
    → IsPut r (putting inside (is_zero v) graded taken) old with new → Stores (refused_put r) new (stored graded taken v with)
unfolding stored
puts_here r inside graded taken v old with new i p = by_answer r (is_zero v) graded taken old with new (rw i at p)
