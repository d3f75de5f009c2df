-- What a job with a text leads to, from what the reader says and what its tensors lead to.
use Rattle.std.proofs.Common.{subst, ◌≡◌, ℕ, ◌≤◌, refl, ap, true, arith, Ok, Err, ◌↔◌}
use Rattle.run_reports.proofs.Names.{bound_refused, beyond, Lettered, IsSound, IsSolutionOf, planned_tensors, tensors_at, OwnTensorsLaw, ℚ, 1ℚ, Solves, Close, IsGraded, Entries, looked_up, AreSound, Giving, Taking, Report, Ends, out_of_memory, Verdict, Closed, Differs, Over, verdict, relations_report, of_relations, closed, text_report, is_bound, text_structure, AreClosed, IsOwn, failed, wanting, long, refused, read, within, EndsBy, EndsOfText, EndsWithBound, Reads, HasReadCause}
use Rattle.run_reports.specs.Inputs.{ReadsBounded, input_report}
use Rattle.run_reports.specs.declared.texts.InputErr.{InputErr}
use Rattle.run_reports.specs.declared.texts.InputErr.TheVariants as inputs
use Rattle.tensor_text.specs.declared.refusals.TextErr.{TextErr}
use Rattle.tensor_text.specs.declared.refusals.TextErr.TheVariants as texts
use Rattle.series_law.specs.Letters.{WidenedRelationsLaw}
use Rattle.run_reports.proofs.StructureLemmas.{by_letter}

pub read_ends : (next : Entries → Report → Type 0) (old new : Giving) (w w' : Taking) (status : ℕ) (t : Entries)
    → Reads old new (Ok t) → HasReadCause {T = Entries} old.faults new.faults (Ok t) → EndsBy (next t) w w' status → EndsOfText next old new w w' status
read_ends next old new w w' status t reads cause e = (e.0, read (cause.kept (λ h. cc)) reads.text t reads.consumed reads.tells e.1, e.2)

pub refusal_ends : (next : Entries → Report → Type 0) (old new : Giving) (w w' : Taking) (status : ℕ) (why : TextErr)
    → Reads old new (Err why) → HasReadCause {T = Entries} old.faults new.faults (Err why) → Ends (text_report why) w w' status → EndsOfText next old new w w' status
unfolding text_report
refusal_ends next old new w w' status texts.ReadFault reads cause e = (text_report texts.ReadFault, failed (cause.failed refl) refl, e)
refusal_ends next old new w w' status texts.TooLong reads cause e = (text_report texts.TooLong, long (cause.kept (λ h. cc)) reads.text reads.consumed reads.tells refl, e)
refusal_ends next old new w w' status (texts.Line n kind) reads cause e = (text_report (texts.Line n kind), refused (cause.kept (λ h. cc)) reads.text n kind reads.consumed reads.tells refl, e)
refusal_ends next old new w w' status texts.NoMemory reads cause e = (out_of_memory, wanting (cause.kept (λ h. cc)) refl, e)

pub within_bound : (X : ℕ) (next : Entries → Report → Type 0) (old new : Giving) (w w' : Taking) (status : ℕ)
    → is_bound X ≡ true → EndsOfText next old new w w' status → EndsWithBound X next old new w w' status
within_bound X next old new w w' status bounded e = (e.0, within bounded e.1, e.2)

-- the same, with the bound
pub bounded_ends : (X : ℕ) (next : Entries → Report → Type 0) (old new : Giving) (w w' : Taking) (status : ℕ) (t : Entries)
    → ReadsBounded X old new (Ok t) → EndsBy (next t) w w' status → EndsWithBound X next old new w w' status
bounded_ends X next old new w w' status t reads e = within_bound X next old new w w' status reads.0 (read_ends next old new w w' status t reads.1 reads.2 e)

pub input_ends : (X : ℕ) (next : Entries → Report → Type 0) (old new : Giving) (w w' : Taking) (status : ℕ) (why : InputErr)
    → ReadsBounded X old new (Err why) → Ends (input_report why) w w' status → EndsWithBound X next old new w w' status
unfolding input_report
input_ends X next old new w w' status (inputs.Bound n) reads e = (bound_refused X, beyond reads.0 reads.2 refl, subst (λ n. Ends (bound_refused n) w w' status) reads.1 e)
input_ends X next old new w w' status (inputs.Text why) reads e = within_bound X next old new w w' status reads.0 (refusal_ends next old new w w' status why reads.1 reads.2 e)

pub text_sound : (t : Entries) → AreSound t → IsSound (text_structure t)
unfolding IsSound
text_sound t sound = by_letter t (λ b s. IsSound s) (sound.symmetric, sound.graded) (sound.symmetric, sound.graded)

-- at its own dim the job's solutions are those of the text's own tensors
pub own_of : OwnTensorsLaw → (X : ℕ) (t : Entries) → IsOwn X t
unfolding planned_tensors tensors_at looked_up
own_of own X t f = by_letter t (λ b s. IsSolutionOf s X t.dim 1ℚ f ↔ Solves (looked_up t) X f) with_it (own (looked_up t) X 1ℚ f)
  where
    with_it : IsSolutionOf (Lettered (looked_up t)) X t.dim 1ℚ f ↔ Solves (looked_up t) X f
    with_it = (
      λ h. (own (looked_up t) X 1ℚ f).0 (record { wide = h.wide; solves = h.solves }),
      λ h. let g = (own (looked_up t) X 1ℚ f).1 h in record { wide = g.wide; solves = g.solves },
    )

-- the relations of the entries are those of the job's tensors, at every dim and with every fraction
pub are_closed : WidenedRelationsLaw → (t : Entries) → IsGraded (looked_up t) → Close (looked_up t) t.dim → AreClosed t
unfolding tensors_at looked_up
are_closed law t graded close = record {
  own = close;
  everywhere = by_letter t (λ b s. (m : ℕ) (v : ℚ) → t.dim ≤ m → Close (tensors_at s m v) m) (λ m v wide. law (looked_up t) graded close m v wide) (λ m v wide. law (looked_up t) graded close m 1ℚ wide);
}

-- where a check of the entries' relations fails: the report is what it leads to, whatever comes behind it, and its status is 4 or 6
pub fails_by : {leads : Report → Type 0} (t : Entries) (next : Report) (w w' : Taking) (status : ℕ) (v : Verdict) → v ≡ verdict (looked_up t) t.dim → (v ≡ Closed → ⊥)
    → ((report : Report) → report ≡ of_relations t next → 4 ≤ report.status → report.status ≤ 6 → leads report) → Ends (relations_report v closed) w w' status → EndsBy leads w w' status
unfolding relations_report of_relations
fails_by t next w w' status Closed found fails leads e = absurd (fails refl)
fails_by t next w w' status (Differs rel place left right) found fails leads e =
    (_, leads (relations_report (Differs rel place left right) closed) (ap (λ v. relations_report v next) found) (omega arith) (omega arith), e)
fails_by t next w w' status (Over rel place) found fails leads e =
    (_, leads (relations_report (Over rel place) closed) (ap (λ v. relations_report v next) found) (omega arith) (omega arith), e)
