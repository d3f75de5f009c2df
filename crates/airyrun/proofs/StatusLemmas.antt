-- The statuses of the reports that a job leads to where no end fails and memory is not wanting.
use Rattle.std.proofs.Common.{◌≡◌, inl, inr, ℕ, min, arith, refl, ap, ◌∙◌, [], ◌∷◌, Option, Some, None, Bool, true, false, cond, List, nat_le}
use Rattle.run_reports.proofs.Names.{Tensors, planned, Structure, planned_tensors, Limit, Within, PassesBound, PassesCells, PassesNeeds, limit, full_table, first_without, Entries, looked_up, Verdict, verdict, Report, bound_refused, making_report, checked_report, verdict_of, plan_report, cells_report, is_bound, making_over, table_report, has_letter, relations_report, text_relations, closed, Line, summary_text, Key, euler, ℚ, Family}
use Rattle.airy_math.specs.Jobs.{Wp, Bulk}
use Rattle.series_law.specs.Check as check
use Rattle.ask_seats.specs.Replies.{Reply, lines_text}
use Rattle.airyrun.specs.Relations.{family_tensors, family_over, family_relations}
use Rattle.ask_seats.specs.Sessions.{Session}
use Rattle.session_law.specs.Sessions.{session_report}
use Rattle.airyrun.specs.Sessions.{Wants, at_first, at_grow, wanting_behind}
use Rattle.airyrun.specs.Numbers.{first_report, valued_report, quotient, quotient_report, euler_of, number_report, parts_report, volume_parts, volume_lacks, volume_report, terms_refused}
use Rattle.airyrun.specs.Bulks.{changes_report, bulk_report}
use Rattle.correlators.specs.Volumes.{Part, counted}
use Rattle.bulk_tensors.specs.Bulk.{bulk, bulk_refusal}
use Rattle.run_reports.proofs.FormLemmas.{plain_place}
use Rattle.run_reports.proofs.StatusLemmas.{IsPlain, plain_table, plain_closed, plain_relations, plain_making, plain_bound, plain_plan}

-- that of each session, whatever its replies
-- a session that memory is wanting for
behind_status : (replies : List Reply) → (wanting_behind replies).status ≡ 10
unfolding wanting_behind
behind_status [] = refl
behind_status (reply ∷ replies) = refl

pub wants_status : (s : Session) (X : ℕ) (lines : List Line) (report : Report) → Wants s X lines report → report.status ≡ 10
wants_status s X lines report (at_first e) = ap (λ (r : Report). r.status) e
wants_status s X lines report (at_grow part Z rest there replies admitted e) = ap (λ (r : Report). r.status) e ∙ behind_status replies

pub plain_checked : (N : ℕ) (t : Entries) → IsPlain (text_relations N t)
unfolding text_relations
plain_checked N t = plain_relations (verdict (looked_up t) (min N t.dim)) closed plain_closed

pub plain_family : (f : Family) (N : ℕ) → IsPlain (family_relations f N)
unfolding family_relations
plain_family f N = plain_making (family_over f N) (relations_report (verdict (family_tensors f N) N) closed) (plain_relations (verdict (family_tensors f N) N) closed plain_closed)

-- those of a number, of a volume, and of a large structure
plain_first : (keys : List Key) (o : Option ℕ) (next : Report) → IsPlain next → IsPlain (first_report keys o next)
unfolding first_report
plain_first keys None next h = h
plain_first keys (Some r) next h = record { is = inr (omega arith, omega arith) }

plain_valued : (s : Structure) (X : ℕ) (next : Report) → IsPlain next → IsPlain (valued_report s X next)
unfolding valued_report
plain_valued s X next h =
    let T = planned_tensors s X in
    plain_bound X _ (plain_making (making_over s X) _ (plain_plan X (limit T X) _ (plain_first (planned T X) (first_without (full_table T X)) next h)))

plain_quotient : (key : Key) (w : Option ℚ) → IsPlain (quotient_report key w)
unfolding quotient_report
plain_quotient key (Some w) = record { is = inl refl }
plain_quotient key None = record { is = inr (omega arith, omega arith) }

pub plain_number : (s : Structure) (key : Key) → IsPlain (number_report s key)
unfolding number_report
plain_number s key = plain_valued s (euler_of key) _ (plain_quotient key (quotient (planned_tensors s (euler_of key)) (euler_of key) key))

plain_parts : (parts : List Part) (o : Option Key) → IsPlain (parts_report parts o)
unfolding parts_report
plain_parts parts None = record { is = inl refl }
plain_parts parts (Some key) = record { is = inr (omega arith, omega arith) }

pub plain_volume : (g n : ℕ) → IsPlain (volume_report g n)
unfolding volume_report
plain_volume g n = plain_bound (euler g n) _ (by (nat_le (counted g n) 100000))
  where
    by : (b : Bool) → IsPlain (cond b (valued_report Wp (euler g n) (parts_report (volume_parts g n) (volume_lacks g n))) (terms_refused (counted g n)))
    by true = plain_valued Wp (euler g n) _ (plain_parts (volume_parts g n) (volume_lacks g n))
    by false = record { is = inr (omega arith, omega arith) }

plain_changes : (o : Option ℕ) (next : Report) → IsPlain next → IsPlain (changes_report o next)
unfolding changes_report
plain_changes None next h = h
plain_changes (Some q) next h = record { is = inr (omega arith, omega arith) }

pub plain_bulk : (seed dim X : ℕ) → IsPlain (bulk_report seed dim X)
unfolding bulk_report
plain_bulk seed dim X =
    let T = bulk seed dim in
    plain_bound X _ (plain_changes (bulk_refusal seed dim) _ (plain_relations (verdict T dim) _ (plain_place (summary_text false T X) _ (plain_table (Bulk T) X))))
