use Rattle.std.proofs.Common.{◌≡◌, ◌<◌, ℕ, length, get_or}
use Rattle.key_index.specs.Codes.{code_of_index}
use Rattle.key_index.proofs.codes.index_codes.Given as goal

abbrev pub invariant-loop-index : goal.invariant-loop-index
invariant-loop-index l = record {
  code : l.code ≡ code_of_index l.index;
  long : length l.codes ≡ 256;
  before : (x : ℕ) → x < l.index → get_or l.codes x 0 ≡ code_of_index x;
}
