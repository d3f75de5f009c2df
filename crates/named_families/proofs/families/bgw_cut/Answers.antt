use Rattle.std.proofs.Common.{ap, ◌-◌}
use Rattle.sparse_tensor.specs.Entries.{Entries, no_entries}
use Rattle.named_families.specs.Exact.{exact_shape}
use Rattle.named_families.proofs.ExactLaw.{small_bgw, stands_bgw}
use Rattle.named_families.proofs.families.bgw_cut.Goals as goal

pub empty-requires-clause-law : goal.empty-requires-clause-law
unfolding exact_shape
empty-requires-clause-law c = small_bgw

pub fill_exact-requires-clause-shape : goal.fill_exact-requires-clause-shape
unfolding exact_shape no_entries
fill_exact-requires-clause-shape c = ap (λ (t : Entries). t.shape) c.in_ok-tensors.ensures

pub fill_exact-requires-clause-no_b : goal.fill_exact-requires-clause-no_b
unfolding no_entries
fill_exact-requires-clause-no_b c = ap (λ (t : Entries). t.b) c.in_ok-tensors.ensures

pub fill_exact-requires-clause-no_c : goal.fill_exact-requires-clause-no_c
unfolding no_entries
fill_exact-requires-clause-no_c c = ap (λ (t : Entries). t.c) c.in_ok-tensors.ensures

pub fill_exact-requires-clause-no_d : goal.fill_exact-requires-clause-no_d
unfolding no_entries
fill_exact-requires-clause-no_d c = ap (λ (t : Entries). t.d) c.in_ok-tensors.ensures

pub returns : goal.returns
unfolding exact_shape
returns c =
    let stands = stands_bgw c.args.dim c.in_ok-tensors.tensors c.fill_exact.new.tensors c.requires.some c.in_ok-tensors.ensures c.in_ok-fill_exact.ensures in
    record { stands = stands; closes = λ N h. c.bgw_closes.ensures c.fill_exact.new.tensors (c.args.dim - 1) N stands h }
