-- A canonical text is a kind: that of its tensors.
use Rattle.std.proofs.Common.{◌≡◌, ℕ, List, ◌++◌, false, Some, refl, ap, ◌∙◌, codes}
use Rattle.airy_json.proofs.Common.{Entries, canonical_text, text, dim_text, header_text, shape_text, first_text, entries_text, kind_of, read_kind}
use Rattle.std.specs.Str.{bytes_eq}
use Rattle.airy_math.specs.declared.Shape.{Shape}
use Rattle.airy_math.specs.declared.Shape.TheVariants.{All, Exact, AtMost}
use Rattle.tensor_text.specs.Grammar.{Read, reading_of}

-- no name begins as a header does
record IsNoName (s : List ℕ) : Type 0 where
  wk : bytes_eq s (codes "wk") ≡ false
  bgw : bytes_eq s (codes "bgw") ≡ false
  wp : bytes_eq s (codes "wp") ≡ false

no-name : (shape : Shape) (x y : List ℕ) → IsNoName ((header_text shape ++ x) ++ y)
unfolding header_text
no-name All x y = record { wk = refl; bgw = refl; wp = refl }
no-name (Exact l) x y = record { wk = refl; bgw = refl; wp = refl }
no-name (AtMost l) x y = record { wk = refl; bgw = refl; wp = refl }

canonical-no-name : (t : Entries) → IsNoName (canonical_text t)
unfolding first_text canonical_text
canonical-no-name t = no-name t.shape (dim_text t.dim ++ shape_text t.shape t.letter) (entries_text t)

pub kind-canonical : (t : Entries) (s : List ℕ) → s ≡ canonical_text t → reading_of (canonical_text t) ≡ Read t → kind_of s ≡ Some (text t)
unfolding kind_of
kind-canonical t s is back = let no = canonical-no-name t in ap kind_of is ∙ rw (no.wk, no.bgw, no.wp) (ap read_kind back)
