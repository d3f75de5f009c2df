-- What a job with a text leads to, from what the reader says and what its tensors lead to.
use Rattle.std.proofs.Common.{◌≡◌, ◌≢◌, ◌⊎◌, inl, inr, ℕ, refl, sym, ap, subst, true, arith, IsTrue}
use Rattle.run_reports.proofs.Names.{Structure, OwnTensorsLaw, Entries, looked_up, AreSound, Verdict, Closed, Differs, Over, verdict, Taking, Report, Ends, EndsOrWants, out_of_memory, relations_report, of_relations, closed, stored_report, is_bound, table_report, text_structure, AreClosed, EndsBy, NoOrdersLaw}
use Rattle.airyrun.specs.Run.{LeadsToTable, LeadsToProbe, LeadsToClosedTable}
use Rattle.run_reports.proofs.StructureLemmas.{text_stored, text_never}
use Rattle.run_reports.proofs.HeadlineLemmas.{JobLaws}
use Rattle.run_reports.proofs.TableHeadline.{headline_of, unsolvable_of}
use Rattle.run_reports.proofs.TextLemmas.{text_sound, own_of, fails_by}

-- the laws on the table of a text
pub record TextLaws : Type 0 where
  pub jobs : JobLaws
  pub own : OwnTensorsLaw

-- and that where the relations hold
pub record ClosedLaws : Type 0 where
  pub text : TextLaws
  pub orders : NoOrdersLaw

module _ (t : Entries) (X : ℕ) (w w' : Taking) (status : ℕ) where
  abbrev s : Structure
  s = text_structure t

  abbrev next : Report
  next = table_report (text_structure t) X

  -- the table of a text's tensors
  whole_leads : TextLaws → AreSound t → (whole : Report) → next ≡ whole → LeadsToTable s X whole next
  whole_leads laws sound whole same = record { said = inl same; headline = headline_of laws.jobs s X (text_sound t sound); unsolvable = unsolvable_of laws.jobs s X (text_sound t sound) }

  -- another report, that is neither that of a table nor that of two orders that differ
  other_leads : (whole report : Report) → (report ≡ whole) ⊎ (IsTrue (is_bound X) × (report ≡ out_of_memory)) → report.status ≢ 0 → report.status ≢ 7 → LeadsToTable s X whole report
  other_leads whole report said zero seven = record { said = said; headline = λ h. absurd (zero h); unsolvable = λ h. absurd (seven h) }

  pub probe_ends : TextLaws → AreSound t → is_bound X ≡ true → EndsOrWants (stored_report t X) w w' status → EndsBy (LeadsToProbe X t) w w' status
  probe_ends laws sound bounded (inl e) =
      (next, record { table = whole_leads laws sound next refl; own = own_of laws.own X t }, subst (λ r. Ends r w w' status) (sym (text_stored t X bounded)) e)
  probe_ends laws sound bounded (inr e) =
      (out_of_memory, record { table = other_leads next out_of_memory (inr (bounded, refl)) (λ h. omega arith) (λ h. omega arith); own = own_of laws.own X t }, e)

  -- its table, where the relations hold
  pub closed_ends : ClosedLaws → AreSound t → is_bound X ≡ true → Closed ≡ verdict (looked_up t) t.dim → AreClosed t
      → EndsOrWants (stored_report t X) w w' status → EndsBy (LeadsToClosedTable X t) w w' status
  unfolding relations_report of_relations
  closed_ends laws sound bounded found close (inl e) =
      let same : next ≡ of_relations t next = ap (λ v. relations_report v next) found in
      (next, record { table = whole_leads laws.text sound (of_relations t next) same; own = own_of laws.text.own X t; accepted = λ h. close; never = text_never laws.orders t X sound close.own }, subst (λ r. Ends r w w' status) (sym (text_stored t X bounded)) e)
  closed_ends laws sound bounded found close (inr e) = (
    out_of_memory,
    record {
      table = other_leads (of_relations t next) out_of_memory (inr (bounded, refl)) (λ h. omega arith) (λ h. omega arith);
      own = own_of laws.text.own X t;
      accepted = λ h. close;
      never = λ h. omega (arith, h);
    },
    e,
  )

  -- and where they fail first
  pub fails_ends : OwnTensorsLaw → (v : Verdict) → v ≡ verdict (looked_up t) t.dim → (v ≡ Closed → ⊥) → Ends (relations_report v closed) w w' status → EndsBy (LeadsToClosedTable X t) w w' status
  fails_ends own v found fails e = fails_by t next w w' status v found fails (λ r said low high. record {
    table = other_leads (of_relations t next) r (inl said) (λ h. omega (arith, h, low)) (λ h. omega (arith, h, high));
    own = own_of own X t;
    accepted = λ h. absurd (omega (arith, h, low));
    never = λ h. omega (arith, h, high);
  }) e
