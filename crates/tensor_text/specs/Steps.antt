-- What the steps of the reader answer, in the words of the grammar.
use Rattle.std.specs.Prelude.{◌≡◌, ℕ, suc, true, ◌+◌, ◌<◌, ◌≤◌, List, ◌∷◌, length, Result, Ok, Err}
use Rattle.std.specs.declared.option.Option.{Option}
use Rattle.std.specs.Io.KnownBytes.{Consumes, IsAtEnd}
use Rattle.sparse_tensor.specs.Entries.{Entries}
use Rattle.sparse_tensor.specs.Grades.{IsSmallLaw, IsAtMost}
use Rattle.sparse_tensor.specs.declared.tensors.PutErr.{PutErr}
use Rattle.sparse_tensor.specs.declared.tensors.PutErr.TheVariants as puts
use Rattle.tensor_text.specs.Lines.{lines, words}
use Rattle.tensor_text.specs.Grammar.{Lines, Line, End, counted, PlaceWords, Shaped, Said, Stored, Ended, Fails}
use Rattle.tensor_text.specs.declared.refusals.TextErr.{TextErr}
use Rattle.tensor_text.specs.declared.refusals.TextErr.TheVariants as texts
use Rattle.tensor_text.specs.declared.refusals.LineKind.TheVariants.{Grade, Twice}
use Rattle.tensor_text.specs.declared.words.PlaceWords as seen
use Rattle.tensor_text.specs.declared.entries.Said as code
use Rattle.tensor_text.specs.declared.entries.Said.TheVariants as says
use Rattle.tensor_text.specs.declared.entries.Refusal.{Refusal}
use Rattle.tensor_text.specs.declared.entries.Refusal.TheVariants as refusals
use Rattle.tensor_text.specs.declared.lines.Next.{Next}
use Rattle.tensor_text.specs.declared.lines.Next.TheVariants as next

-- ---- the next line that counts, as the code gives it

abbrev pub IsNext : Next → Lines → Type 0
IsNext (next.Line number word more behind) ls = ls ≡ Line number (word.now ∷ words more.now) (counted (suc number) (lines behind.now))
IsNext (next.End number) ls = ls ≡ End number

-- of a text of `size` bytes whose first line has this number: fewer bytes are left, and the number fits
abbrev pub IsWithin : Next → ℕ → ℕ → Type 0
IsWithin (next.Line number word more behind) first size = (length behind.now < size) × (number + 1 + length behind.now ≤ first + size)
IsWithin (next.End number) first size = number ≤ first + size

abbrev pub fields_seen : seen.PlaceWords → PlaceWords
fields_seen w = record { i = w.i.now; j = w.j.now; k = w.k.now; v = w.v.now }

-- tensors may have this shape, and this letter
abbrev pub IsAllowed : Shaped → Type 0
IsAllowed shaped = IsSmallLaw shaped.0 × (shaped.1 ≡ true → IsAtMost shaped.0)

-- ---- what a line gives, as the code stores it

abbrev pub IsRefusal : Refusal → Said → Type 0
IsRefusal (refusals.Kind kind) given = given ≡ Fails kind
IsRefusal refusals.NoMemory given = Unit {0}

-- the refusal of a line
abbrev pub err_at : ℕ → Refusal → TextErr
err_at n (refusals.Kind kind) = texts.Line n kind
err_at n refusals.NoMemory = texts.NoMemory

-- what became of an entry whose indices are below dim
abbrev pub refused_put : {T : Type 0} → Result T PutErr → Result T Refusal
refused_put (Ok x) = Ok x
refused_put (Err puts.Index) = Err (refusals.Kind Twice)
refused_put (Err puts.Grade) = Err (refusals.Kind Grade)
refused_put (Err puts.Twice) = Err (refusals.Kind Twice)
refused_put (Err puts.NoMemory) = Err refusals.NoMemory

-- entries that a line leaves
abbrev pub Stores : {T : Type 0} → Result T Refusal → Entries → Said → Type 0
Stores (Ok x) new given = given ≡ Stored new
Stores (Err e) new given = IsRefusal e given

-- what a line behind the first lines is, and the entries that it leaves
abbrev pub Says : Result code.Said Refusal → Entries → Entries → Said → Type 0
Says (Ok says.Entry) old new given = given ≡ Stored new
Says (Ok says.End) old new given = (given ≡ Ended) × (new ≡ old)
Says (Err e) old new given = IsRefusal e given

-- ---- the bytes of a source up to its end, where they are at most this many

abbrev pub BytesTell : {T : Type 0} → (T → List ℕ) → ℕ → Result T TextErr → List ℕ → Option (List ℕ) → Type 0
BytesTell bytes most (Ok v) text new = (bytes v ≡ text) × IsAtEnd new × (length text ≤ most)
BytesTell bytes most (Err (texts.Line n kind)) text new = ⊥
BytesTell bytes most (Err texts.TooLong) text new = length text ≡ most + 1
BytesTell bytes most (Err texts.ReadFault) text new = Unit {0}
BytesTell bytes most (Err texts.NoMemory) text new = Unit {0}

pub record BytesRead {T : Type 0} (bytes : T → List ℕ) (limit : ℕ) (old new : Option (List ℕ)) (result : Result T TextErr) : Type 0 where
  pub text : List ℕ
  pub consumed : Consumes old new text
  pub most : length text ≤ limit + 1
  pub tells : BytesTell bytes limit result text new
