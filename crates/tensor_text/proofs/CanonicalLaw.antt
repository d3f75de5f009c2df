-- The entries of the canonical text, place by place.
use Rattle.std.proofs.Common.{◌≡◌, ℕ, List, ◌++◌, refl, codes}
use Rattle.sparse_tensor.specs.Entries.{Entries}
use Rattle.sparse_tensor.specs.Grades.{AreEntries}
use Rattle.tensor_text.specs.Canonical.{entries_text}
use Rattle.tensor_text.specs.Pieces.{places_piece, indices_piece}
use Rattle.sparse_tensor.specs.declared.parts.Part.TheVariants.{A, B, C}
use Rattle.tensor_text.proofs.PieceLaw.{places_are, indices_are}

-- the text from the entries of D, of C and of B on
abbrev pub from_d : Entries → List ℕ
from_d t = indices_piece t ++ codes "end\n"

abbrev pub from_c : Entries → List ℕ
from_c t = places_piece C t ++ from_d t

abbrev pub from_b : Entries → List ℕ
from_b t = places_piece B t ++ from_c t

pub entries_pieces : (t : Entries) → AreEntries t → entries_text t ≡ places_piece A t ++ from_b t
unfolding entries_text
entries_pieces t s = rw (places_are A t s, places_are B t s, places_are C t s, indices_are t s) refl
