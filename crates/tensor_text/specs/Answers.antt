-- What reading a text from a source promises.
use Rattle.std.specs.Prelude.{◌≡◌, ℕ, ◌≤◌, List, length, Result, Ok, Err, IsErrOf}
use Rattle.std.specs.declared.option.Option.{Option}
use Rattle.std.specs.Io.KnownBytes.{Consumes, IsAtEnd}
use Rattle.airy_io.specs.Causes.{Giving, Rose}
use Rattle.sparse_tensor.specs.Entries.{Entries}
use Rattle.tensor_text.specs.Grammar.{TextReading, reading_of, Read, Refused}
use Rattle.tensor_text.specs.declared.refusals.TextErr.{TextErr}
use Rattle.tensor_text.specs.declared.refusals.TextErr.TheVariants as texts

-- what a reader of bytes in memory answers, where the grammar gives this
abbrev pub Gives : Result Entries TextErr → TextReading → Type 0
Gives (Ok t) given = given ≡ Read t
Gives (Err (texts.Line n kind)) given = given ≡ Refused n kind
Gives (Err texts.NoMemory) given = Unit {0}
Gives (Err texts.ReadFault) given = ⊥
Gives (Err texts.TooLong) given = ⊥

-- ---- what reading a source says

-- The source is at its end, and the grammar gives this to the bytes that were read, of which there are at most 1,048,576.
pub record IsWhole (text : List ℕ) (new : Option (List ℕ)) (reading : TextReading) : Type 0 where
  pub ended : IsAtEnd new
  pub short : length text ≤ 1048576
  pub given : reading_of text ≡ reading

-- what an answer says of the bytes that were read
abbrev pub Tells : Result Entries TextErr → List ℕ → Option (List ℕ) → Type 0
Tells (Ok t) text new = IsWhole text new (Read t)
Tells (Err (texts.Line n kind)) text new = IsWhole text new (Refused n kind)
Tells (Err texts.TooLong) text new = length text ≡ 1048577
Tells (Err texts.ReadFault) text new = Unit {0}
Tells (Err texts.NoMemory) text new = Unit {0}

-- Bytes were read off the source, at most 1,048,577, and the answer speaks of them. So a source that tells its bytes has
-- more than 1,048,576 exactly where the answer is `TooLong`, or a fault or want of memory came first.
pub record Reads (old new : Giving) (result : Result Entries TextErr) : Type 0 where
  pub text : List ℕ
  pub consumed : Consumes old.left new.left text
  pub most : length text ≤ 1048577
  pub tells : Tells result text new.left

-- `ReadFault` comes only where the count of faults rose, and every other answer leaves it.
pub record HasReadCause {T : Type 0} (before now : ℕ) (result : Result T TextErr) : Type 0 where
  pub later : before ≤ now
  pub failed : IsErrOf result texts.ReadFault → Rose before now
  pub kept : (IsErrOf result texts.ReadFault → ⊥) → now ≡ before
